use Rattle.std.proofs.Common.{sym, ◌∙◌}
use Rattle.cqe_base.specs.History.{known}
use Rattle.dossier.specs.Logs.{past_schema, past_user}
use Rattle.dossier.proofs.Verdicts.{knows-refusal, knows-other}
use Rattle.dossier.proofs.checking.knows_truth_by.Goals as goal

pub knows_truth-requires : goal.knows_truth-requires
knows_truth-requires c = c.requires.limits.sentences

pub returns-then-is_refusal : goal.returns-then-is_refusal
returns-then-is_refusal c =
    c.knows_truth.ensures
    ∙ knows-refusal (past_user c.args.past.now).method (past_schema c.args.past.now) c.args.world.now (known (past_user c.args.past.now))
    (sym c.is_refusal.ensures ∙ c.if-is_refusal.true)

pub returns-else-is_refusal : goal.returns-else-is_refusal
returns-else-is_refusal c =
    knows-other (past_user c.args.past.now).method (past_schema c.args.past.now) c.args.world.now (known (past_user c.args.past.now))
    (sym c.is_refusal.ensures ∙ c.if-is_refusal.false)
