use Rattle.std.proofs.Common.{◌≡◌, ◌≤◌, true, Err, refl, sym, ap, subst, ◌∙◌, arith}
use Rattle.std.proofs.lemmas.Result.{err_from_is_err_and}
use Rattle.std.proofs.lemmas.Bool.{both_ways}
use Rattle.cqe_base.specs.Formula.{formula_of, nodes, is_sentence_of}
use Rattle.cqe_base.specs.Truth.{true_in}
use Rattle.cqe_base.specs.Censor.{mark_by}
use Rattle.cqe_base.specs.Limits.{FitsLog}
use Rattle.dossier.specs.Checked.{asking}
use Rattle.dossier.specs.Reading.{answer}
use Rattle.dossier.specs.Logs.{past_schema, past_user, past_history}
use Rattle.dossier.specs.declared.error.DossierError.TheVariants as refused
use Rattle.dossier.proofs.Asking.{asked-undecided, shown-refused-at, shown-mark, other-mark}
use Rattle.dossier.proofs.Sayings.{undecided-is, decided-is}
use Rattle.dossier.proofs.items.shown_query.Goals as goal

-- ---- the query is what it was, with its ground formula

pub new-requires-clause-small : goal.new-requires-clause-small
new-requires-clause-small c = let small : nodes (past_schema c.args.past.now) (formula_of c.args.query) ≤ 20000 = c.requires.fits.query_nodes in omega arith

pub read_findings-requires-clause-sentence : goal.read_findings-requires-clause-sentence
read_findings-requires-clause-sentence c =
    subst (λ s. is_sentence_of (past_schema c.args.past.now) (formula_of s) ≡ true) (sym c.in_ok-query.ensures.same) c.requires.sentence

pub read_findings-requires-clause-fits : goal.read_findings-requires-clause-fits
read_findings-requires-clause-fits c =
    let past = c.args.past.now in
    subst (λ s. FitsLog (past_schema past) (past_user past) (past_history past) (formula_of s)) (sym c.in_ok-query.ensures.same) c.requires.fits

pub holds-truth-requires : goal.holds-truth-requires
holds-truth-requires c =
    subst (λ schema. is_sentence_of schema (formula_of c.in_ok-query.query.sentence) ≡ true) (sym c.read_findings.ensures.same.0.schema)
    (subst (λ s. is_sentence_of (past_schema c.args.past.now) (formula_of s) ≡ true) (sym c.in_ok-query.ensures.same) c.requires.sentence)

-- ---- what is read

-- an undecided ask shows nothing
pub returns-then-is_undecided-clause-reads : goal.returns-then-is_undecided-clause-reads
returns-then-is_undecided-clause-reads c name size =
    let past = c.args.past.now in
    ap (λ x. answer (past_schema past) c.args.world.now name (past_user past) x c.args.lines.now)
    (asked-undecided (past_schema past) c.args.world.now name (past_user past) (past_history past) c.args.line (formula_of c.args.query) size c.args.mark
    (undecided-is c.args.mark (sym c.is_undecided.ensures ∙ c.if-is_undecided.true)))

pub returns-in_err-findings-clause-reads : goal.returns-in_err-findings-clause-reads
returns-in_err-findings-clause-reads c name size =
    let p = err_from_is_err_and c.from_residual-in_err-findings.result c.from_residual-in_err-findings.ensures.1 in
    let past = c.args.past.now in
    let isnt = decided-is c.args.mark (sym c.is_undecided.ensures ∙ c.if-is_undecided.false) in
    rw (p.1, p.2)
    (shown-refused-at (past_schema past) c.args.world.now name (past_user past) (past_history past) c.args.line (formula_of c.args.query) size c.args.mark
    isnt c.args.lines.now c.read_findings.new.lines {X = Unit {0}} (λ _. Err refused.Memory) _ (formula_of c.in_ok-query.query.sentence)
    (ap formula_of c.in_ok-query.ensures.same)
    (c.in_err-findings.ensures.reads c.args.world.now name (asking c.args.line c.args.mark (formula_of c.args.query) size) refl))

-- the mark is another
pub returns-then-not-is_same-clause-reads : goal.returns-then-not-is_same-clause-reads
returns-then-not-is_same-clause-reads c name size =
    let past = c.args.past.now in
    let isnt = decided-is c.args.mark (sym c.is_undecided.ensures ∙ c.if-is_undecided.false) in
    let same = c.read_findings.ensures.same.0 in
    let findings = c.in_ok-findings.findings in
    let truth : c.holds-truth.result ≡ true_in (past_schema past) c.args.world.now (formula_of c.args.query) =
    c.holds-truth.ensures ∙ (λ i. true_in (same.schema i) c.args.world.now (formula_of (c.in_ok-query.ensures.same i))) in
    let decides = c.decide-decided.ensures
    ∙ (λ i. mark_by (same.user i).method findings.spent findings.implied findings.yes_harm findings.no_harm (truth i)) in
    other-mark (past_schema past) c.args.world.now name (past_user past) (past_history past) c.args.line (formula_of c.args.query) size c.args.mark isnt
    c.args.lines.now c.read_findings.new.lines c.in_ok-findings.findings c.decide-decided.result decides
    (rw c.in_ok-query.ensures.same at
    (c.in_ok-findings.ensures.reads c.args.world.now name (asking c.args.line c.args.mark (formula_of c.args.query) size) refl))
    (λ is. both_ways _ c.if-not-is_same.true (c.is_same.ensures.1 is))

-- or the one that was decided
pub returns-clause-reads : goal.returns-clause-reads
returns-clause-reads c name size =
    let past = c.args.past.now in
    let isnt = decided-is c.args.mark (sym c.is_undecided.ensures ∙ c.if-is_undecided.false) in
    let same = c.read_findings.ensures.same.0 in
    let findings = c.in_ok-findings.findings in
    let truth : c.holds-truth.result ≡ true_in (past_schema past) c.args.world.now (formula_of c.args.query) =
    c.holds-truth.ensures ∙ (λ i. true_in (same.schema i) c.args.world.now (formula_of (c.in_ok-query.ensures.same i))) in
    let decides = c.decide-decided.ensures
    ∙ (λ i. mark_by (same.user i).method findings.spent findings.implied findings.yes_harm findings.no_harm (truth i)) in
    shown-mark (past_schema past) c.args.world.now name (past_user past) (past_history past) c.args.line (formula_of c.args.query) size c.args.mark isnt
    c.args.lines.now c.read_findings.new.lines c.in_ok-findings.findings c.decide-decided.result decides
    (rw c.in_ok-query.ensures.same at
    (c.in_ok-findings.ensures.reads c.args.world.now name (asking c.args.line c.args.mark (formula_of c.args.query) size) refl))
    (c.is_same.ensures.0 c.if-not-is_same.false)

-- ---- want of memory says nothing

pub returns-in_err-query-clause-reads : goal.returns-in_err-query-clause-reads
returns-in_err-query-clause-reads c name size =
    let p = err_from_is_err_and c.from_residual.result c.from_residual.ensures.1 in
    rw (p.1, p.2) tt
