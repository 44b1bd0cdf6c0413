use Rattle.std.proofs.Common.{◌∙◌}
use Rattle.entailment.specs.GroundSentences.{sentence_of}
use Rattle.user_log.specs.UserLogs.{kept_schema, kept_world, kept_user, kept_history}
use Rattle.user_log.proofs.Costs.{mark_by_cost}
use Rattle.user_log.proofs.log.UserLog.mark_with.Goals as goal

pub returns-then-is_whole-clause-rule : goal.returns-then-is_whole-clause-rule
returns-then-is_whole-clause-rule c =
    c.decided.ensures ∙ c.law_findings_decide.ensures _ _ _ _ _ _ _ _ _ (c.requires.found c.if-is_whole.true)

pub returns-then-is_whole-clause-undecided : goal.returns-then-is_whole-clause-undecided
returns-then-is_whole-clause-undecided c =
    let self = c.args.self.now in
    mark_by_cost c.law_undecided_is_cost.ensures (kept_schema self) (kept_world self) (kept_user self) (kept_history self) (sentence_of c.args.query.now) _
    (returns-then-is_whole-clause-rule c)
