use Rattle.std.proofs.Common.{◌≤◌, ◌+◌, true, map, sym, subst, ◌∙◌}
use Rattle.cqe_base.specs.Formula.{nodes}
use Rattle.cqe_base.specs.History.{profile_of, answered_query_of, user_at}
use Rattle.cqe_base.specs.Limits.{FitsProbes}
use Rattle.entailment.specs.Logs.{log_nodes}
use Rattle.entailment.specs.Views.{log_of}
use Rattle.entailment.specs.GroundSentences.{sentence_of, IsGroundOver}
use Rattle.user_log.specs.UserLogs.{kept_schema, kept_world, kept_user, kept_history}
use Rattle.user_log.proofs.Keeping.{decided}
use Rattle.user_log.proofs.SameLogs.{kept_with, same_log}
use Rattle.user_log.proofs.Costs.{mark_by_cost}
use Rattle.user_log.proofs.log.UserLog.mark.Goals as goal

pub found_after-requires-clause-all_nodes : goal.found_after-requires-clause-all_nodes
found_after-requires-clause-all_nodes c =
    let kept = c.args.self.now.kept in
    let schema = c.args.self.now.schema.now in
    let query = sentence_of c.args.query.now in
    let fits = c.law_limits.ensures.queries schema (profile_of c.args.self.now.user.now)
    (map answered_query_of c.args.self.now.entries.items) query kept.limits c.requires.small in
    subst (λ s. log_nodes s (log_of c.args.self.now.views) + nodes s query ≤ 60000) (sym kept.schema_is)
    (subst (λ told. log_nodes schema told + nodes schema query ≤ 60000) (sym kept.log_is) (fits.log_nodes true))

pub found_after-requires-clause-fits : goal.found_after-requires-clause-fits
found_after-requires-clause-fits c =
    let self = c.args.self.now in
    subst (λ s. FitsProbes s (profile_of self.current)) (sym self.kept.schema_is)
    (subst (FitsProbes (kept_schema self)) (sym self.amended.current_is)
    (c.law_amended_limits.ensures.probes (kept_schema self) (kept_user self) (kept_history self) self.kept.limits self.kept.sizes))

pub found_after-requires-clause-guards_schema : goal.found_after-requires-clause-guards_schema
found_after-requires-clause-guards_schema c = c.args.self.now.amended.guarding.schema_is ∙ sym c.args.self.now.kept.schema_is

pub found_after-requires-clause-guarded : goal.found_after-requires-clause-guarded
found_after-requires-clause-guarded c = c.args.self.now.amended.guarding.guarded_are

pub found_after-requires-clause-grounded : goal.found_after-requires-clause-grounded
found_after-requires-clause-grounded c = subst (λ s. IsGroundOver s c.args.query.now) (sym c.args.self.now.kept.schema_is) c.requires.grounded

pub invariant_of-self : goal.invariant_of-self
invariant_of-self c = record {
  kept = kept_with c.args.self.now c.found_after.new.views c.found_after.ensures.same;
  amended = c.args.self.now.amended;
}

pub returns-in_err-findings-clause-same : goal.returns-in_err-findings-clause-same
returns-in_err-findings-clause-same c = same_log c.args.self.now c.found_after.new.views c.found_after.ensures.same _ _

pub returns-clause-same : goal.returns-clause-same
returns-clause-same c = same_log c.args.self.now c.found_after.new.views c.found_after.ensures.same _ _

pub returns-clause-rule : goal.returns-clause-rule
returns-clause-rule c =
    let self = c.args.self.now in
    c.decided.ensures
    ∙ decided _ _ _ (user_at (kept_user self) (kept_history self)) _ _ _ _ _ _ _ _ self.kept.schema_is self.amended.current_is self.kept.log_is
    c.law_findings_decide.ensures c.in_ok-findings.ensures.findings

pub returns-clause-undecided : goal.returns-clause-undecided
returns-clause-undecided c =
    let self = c.args.self.now in
    mark_by_cost c.law_undecided_is_cost.ensures (kept_schema self) (kept_world self) (kept_user self) (kept_history self) (sentence_of c.args.query.now) _
    (returns-clause-rule c)
