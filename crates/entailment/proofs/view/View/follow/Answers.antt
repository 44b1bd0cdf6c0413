use Rattle.std.proofs.Common.{◌≡◌, ◌≤◌, ◌+◌, [], ◌∷◌, ◌++◌, true, length, take, refl, sym, ap, subst, ◌∙◌, arith, length-append}
use Rattle.std.proofs.Math.Seq.{take-append_seam, take-length}
use Rattle.cqe_base.specs.Formula.{formula_of, nodes, is_sentence_of}
use Rattle.cqe_base.specs.Entailment.{Signed}
use Rattle.cqe_base.specs.History.{signed_nodes}
use Rattle.entailment.specs.Logs.{log_nodes, told_log}
use Rattle.entailment.specs.Views.{schema_of, log_of}
use Rattle.entailment.proofs.LogItems.{told-count, item-sentence, item-small, item-more, item-room}
use Rattle.entailment.proofs.view.View.follow.Goals as goal

pub loop-number-init : goal.loop-number-init
loop-number-init c =
    let whole = told_log c.args.sentences.now in
    let first = log_of c.args.self.now in
    let begins = c.requires.begins in
    record {
      within = omega (arith, c.len-number.ensures, ap length begins.1, length-append first begins.0);
      schema = refl;
      log = sym (ap (λ n. take n whole) c.len-number.ensures ∙ ap (take (length first)) begins.1 ∙ take-append_seam first begins.0);
    }

pub add-requires-clause-sentence : goal.add-requires-clause-sentence
add-requires-clause-sentence c =
    let told = c.index-sentences-number.result in
    subst (λ s. is_sentence_of s (formula_of told.sentence) ≡ true) (sym c.loop-number.invariant.schema)
    (item-sentence (schema_of c.args.self.now) c.args.sentences.now c.loop-number.number told c.loop-number-test.true c.index-sentences-number.is
    c.requires.small)

pub add-requires-clause-query : goal.add-requires-clause-query
add-requires-clause-query c =
    let told = c.index-sentences-number.result in
    subst (λ s. nodes s (formula_of told.sentence) ≤ 20000) (sym c.loop-number.invariant.schema)
    (item-small (schema_of c.args.self.now) c.args.sentences.now c.loop-number.number told c.loop-number-test.true c.index-sentences-number.is
    c.requires.small)

pub add-requires-clause-room : goal.add-requires-clause-room
add-requires-clause-room c =
    let told = c.index-sentences-number.result in
    subst (λ s. log_nodes s (log_of c.loop-number.self) + signed_nodes s (formula_of told.sentence) told.yes ≤ 60000) (sym c.loop-number.invariant.schema)
    (subst (λ log. log_nodes (schema_of c.args.self.now) log + signed_nodes (schema_of c.args.self.now) (formula_of told.sentence) told.yes ≤ 60000)
    (sym c.loop-number.invariant.log)
    (item-room (schema_of c.args.self.now) c.args.sentences.now c.loop-number.number told c.loop-number-test.true c.index-sentences-number.is
    c.requires.small))

pub loop-number-preserved : goal.loop-number-preserved
loop-number-preserved c =
    let told = c.index-sentences-number.result in
    let next : Signed = (formula_of told.sentence, told.yes) in
    record {
      within = omega (arith, c.loop-number-test.true, told-count c.args.sentences.now);
      schema = c.add.ensures.schema ∙ c.loop-number.invariant.schema;
      log = c.in_ok-add.ensures.added ∙ ap (λ log. log ++ next ∷ []) c.loop-number.invariant.log
          ∙ sym (item-more c.args.sentences.now c.loop-number.number told c.loop-number-test.true c.index-sentences-number.is);
    }

pub returns-clause-log : goal.returns-clause-log
returns-clause-log c =
    let whole = told_log c.args.sentences.now in
    let within = c.loop-number.invariant.within in
    let count = told-count c.args.sentences.now in
    let all : c.loop-number.number ≡ length whole = omega (arith, c.loop-number-test.false, within, count) in
    c.loop-number.invariant.log ∙ ap (λ n. take n whole) all ∙ take-length whole
