use Rattle.std.proofs.Common.{sym, subst}
use Rattle.std.specs.Prelude.{IfSome}
use Rattle.cqe_base.specs.declared.user.Purpose.TheVariants.{Asking}
use Rattle.user_log.specs.Asked.{IsAsked}
use Rattle.user_log.specs.Examining.{IsExamined}
use Rattle.user_log.specs.Replies.{reply_of}
use Rattle.user_log.specs.Undecided.{IsReplyByCost}
use Rattle.user_log.specs.UserLogs.{kept_schema, kept_world, kept_user, kept_history, IsOfSame}
use Rattle.user_log.specs.declared.log.UserLog.{UserLog}
use Rattle.user_log.proofs.log.UserLog.ask.Goals as goal

pub settle-requires-clause-examined : goal.settle-requires-clause-examined
settle-requires-clause-examined g c =
    subst (λ (l : UserLog). IfSome c.examined-examined.result (IsExamined (kept_schema l) (kept_user l) (kept_history l) c.args.text.now))
    (sym c.examined-examined.ensures.same) c.examined-examined.ensures.examined

pub returns-clause-same : goal.returns-clause-same
returns-clause-same g c = subst (λ (l : UserLog). IsOfSame l c.settle.new.self) c.examined-examined.ensures.same c.settle.ensures.same

pub returns-clause-asked : goal.returns-clause-asked
returns-clause-asked g c =
    subst (λ (l : UserLog). IsAsked (kept_schema l) (kept_world l) (kept_user l) (kept_history l) (kept_history c.settle.new.self) Asking c.args.text.now
    (reply_of c.settle.result))
    c.examined-examined.ensures.same c.settle.ensures.asked

pub returns-clause-undecided : goal.returns-clause-undecided
returns-clause-undecided g c =
    subst (λ (l : UserLog). IsReplyByCost (kept_schema l) (kept_user l) (kept_history l) c.args.text.now c.settle.result)
    c.examined-examined.ensures.same c.settle.ensures.undecided
