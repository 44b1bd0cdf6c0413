use Rattle.std.proofs.Common.{◌≡◌, length, sym, subst, ◌∙◌}
use Rattle.std.proofs.lemmas.Bool.{eqb-true}
use Rattle.std.proofs.lemmas.List.{length-map}
use Rattle.cqe_base.specs.History.{answered_query_of}
use Rattle.entailment.specs.Views.{log_of, IsViewWithin}
use Rattle.entailment.specs.GroundSentences.{sentence_of}
use Rattle.user_log.specs.UserLogs.{kept_schema, kept_world, kept_user, kept_history}
use Rattle.user_log.proofs.Asking.{answer_weighed}
use Rattle.user_log.proofs.SameLogs.{kept_with, same_log}
use Rattle.user_log.proofs.log.UserLog.weigh_examined.Goals as goal

pub put-requires : goal.put-requires
put-requires c =
    let self = c.args.self.now in
    let lent = c.args.examined.views in
    subst (λ s. IsViewWithin s (log_of self.views) lent) (sym self.kept.schema_is)
    (subst (λ told. IsViewWithin (kept_schema self) told lent) (sym self.kept.log_is) c.requires.examined.within)

pub invariant_of-self : goal.invariant_of-self
invariant_of-self c = record {
  kept = kept_with c.args.self.now c.put.new.views c.put.ensures;
  amended = c.args.self.now.amended;
}

pub mark_with-requires-clause-sentence : goal.mark_with-requires-clause-sentence
mark_with-requires-clause-sentence c = c.law_reading.ensures.of_schema _ _ _ c.requires.examined.read

pub mark_with-requires-clause-grounded : goal.mark_with-requires-clause-grounded
mark_with-requires-clause-grounded c = c.requires.examined.grounded

pub mark_with-requires-clause-found : goal.mark_with-requires-clause-found
mark_with-requires-clause-found c whole =
    let self = c.args.self.now in
    let many : length self.entries.items ≡ length (kept_history self) = sym (length-map self.entries.items answered_query_of) in
    c.requires.examined.findings (eqb-true _ _ whole ∙ c.len.ensures ∙ self.entries.ok.0 ∙ many)

pub returns-in-Some-clause-same : goal.returns-in-Some-clause-same
returns-in-Some-clause-same c = same_log c.args.self.now c.put.new.views c.put.ensures _ _

pub returns-in-Some-clause-weighed : goal.returns-in-Some-clause-weighed
returns-in-Some-clause-weighed c = c.in-Some.ensures.code c.requires.examined.read

pub returns-in_err-mark-clause-same : goal.returns-in_err-mark-clause-same
returns-in_err-mark-clause-same c = c.mark_with.ensures.same ∙ same_log c.args.self.now c.put.new.views c.put.ensures _ _

pub returns-clause-same : goal.returns-clause-same
returns-clause-same c = c.mark_with.ensures.same ∙ same_log c.args.self.now c.put.new.views c.put.ensures _ _

pub returns-clause-weighed : goal.returns-clause-weighed
returns-clause-weighed c =
    let self = c.args.self.now in
    answer_weighed (kept_schema self) (kept_world self) (kept_user self) (kept_history self) c.args.text.now (sentence_of c.args.examined.query)
    c.requires.examined.read _ c.in_default.ensures.room c.in_default.ensures.small c.in_ok-mark.ensures.rule
