use Rattle.std.proofs.Common.{[], ◌∷◌, Some, None, Ok, Err, map, sym, ap, ◌∙◌, arith, rules, tests}
use Rattle.std.proofs.lemmas.List.{map-append}
use Rattle.std.proofs.lemmas.Result.{err_from_is_err_and}
use Rattle.clause_store.specs.PlainLines.{line_of}
use Rattle.dossier.specs.Checked.{step}
use Rattle.dossier.specs.Reading.{answer, next_line}
use Rattle.dossier.specs.declared.error.DossierError.TheVariants as refused
use Rattle.dossier.proofs.ReadLines.{answer-end}
use Rattle.dossier.proofs.BlockReads.{step-more, step-ends, step-form}
use Rattle.dossier.proofs.blocks.read_refutation.Goals as goal

pub loop-field-init : goal.loop-field-init
loop-field-init c = record {
  reads = λ schema world name user showing.
      ap (λ lines. answer schema world name user (Ok (step showing (map line_of lines))) c.args.lines.now) (sym c.new-read.ensures.items);
  less = omega arith;
}

-- one more line
pub loop-field-preserved : goal.loop-field-preserved
loop-field-preserved c = record {
  reads = λ schema world name user showing.
      c.loop-field.invariant.reads schema world name user showing
      ∙ step-more schema world name user showing (map line_of c.loop-field.read.items) c.loop-field.lines c.take_field.new.self
      c.in-Some.field (rw c.in-Some.is at c.take_field.ensures.passes) (Some (line_of c.in-Some-2.line)) (search (rules, tests)) (search rules)
      ∙ ap (λ lines. answer schema world name user (Ok (step showing lines)) c.take_field.new.self)
      (sym (ap (map line_of) c.in_ok-push.ensures.items ∙ map-append line_of c.loop-field.read.items (c.in-Some-2.line ∷ [])));
  less = omega (arith, c.loop-field.invariant.less);
}

-- a line that was taken makes what is left shorter
pub loop-field-smaller : goal.loop-field-smaller
loop-field-smaller c = let (here, at, next, less) = rw c.in-Some.is at c.take_field.ensures.passes in omega (arith, less)

-- which writes none
pub returns-in_default-2-clause-reads : goal.returns-in_default-2-clause-reads
returns-in_default-2-clause-reads c schema world name user showing =
    c.loop-field.invariant.reads schema world name user showing
    ∙ step-more schema world name user showing (map line_of c.loop-field.read.items) c.loop-field.lines c.take_field.new.self
    c.in-Some.field (rw c.in-Some.is at c.take_field.ensures.passes) None (search (rules, tests)) (search rules)

-- the end
pub returns-then-is_alone-clause-reads : goal.returns-then-is_alone-clause-reads
returns-then-is_alone-clause-reads c schema world name user showing =
    c.loop-field.invariant.reads schema world name user showing
    ∙ step-ends schema world name user showing (map line_of c.loop-field.read.items) c.loop-field.lines c.take_field.new.self
    c.in-Some.field (rw c.in-Some.is at c.take_field.ensures.passes) (search (rules, tests)) (search (rules, tests))

-- neither
pub returns-else-is_alone-clause-reads : goal.returns-else-is_alone-clause-reads
returns-else-is_alone-clause-reads c schema world name user showing =
    c.loop-field.invariant.reads schema world name user showing
    ∙ step-form schema world name user showing (map line_of c.loop-field.read.items) c.loop-field.lines c.take_field.new.self
    c.in-Some.field (rw c.in-Some.is at c.take_field.ensures.passes) (search (rules, tests)) (search (rules, tests))

-- the end is missing
pub returns-clause-reads : goal.returns-clause-reads
returns-clause-reads c schema world name user showing =
    c.loop-field.invariant.reads schema world name user showing
    ∙ answer-end schema world name user (step showing (map line_of c.loop-field.read.items)) c.loop-field.lines c.take_field.new.self
    (rw c.in_default.is at c.take_field.ensures.passes)
    ∙ ap (λ n. Err (refused.Form n)) (sym (c.number.ensures ∙ ap next_line (rw c.in_default.is at c.take_field.ensures.passes).1))

-- ---- want of memory says nothing

pub returns-in_err-line-clause-reads : goal.returns-in_err-line-clause-reads
returns-in_err-line-clause-reads c schema world name user showing =
    let p = err_from_is_err_and c.from_residual.result c.from_residual.ensures.1 in
    rw (p.1, p.2) tt

pub returns-in_err-push-clause-reads : goal.returns-in_err-push-clause-reads
returns-in_err-push-clause-reads c schema world name user showing =
    let p = err_from_is_err_and c.from_residual-in_err-push.result c.from_residual-in_err-push.ensures.1 in
    rw (p.1, p.2) tt
