use Rattle.std.proofs.Common.{subst}
use Rattle.std.specs.Prelude.{IfSome}
use Rattle.entailment.specs.GroundSentences.{sentence_of}
use Rattle.user_log.specs.Examining.{IsLentTo}
use Rattle.user_log.specs.UserLogs.{kept_schema, kept_user, kept_history}
use Rattle.user_log.proofs.log.UserLog.lend.Goals as goal

pub returns-clause-lent : goal.returns-clause-lent
returns-clause-lent c =
    let self = c.args.self.now in
    subst (λ now. IfSome c.lend_views.result (IsLentTo (kept_schema self) (kept_user self) now (kept_history self) (sentence_of c.args.query.now)))
    (c.has_more_secrets.ensures c.if-has_more_secrets.false) c.lend_views.ensures.lent
