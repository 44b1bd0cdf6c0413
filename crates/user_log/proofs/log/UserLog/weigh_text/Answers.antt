use Rattle.std.proofs.Common.{◌≡◌, sym, ap, ◌∙◌}
use Rattle.std.specs.Prelude.{Ok}
use Rattle.cqe_base.specs.Formula.{formula_of}
use Rattle.cqe_base.specs.Run.{is_too_large}
use Rattle.entailment.specs.GroundSentences.{sentence_of}
use Rattle.user_log.specs.UserLogs.{kept_schema, kept_world, kept_user, kept_history}
use Rattle.user_log.proofs.Asking.{answer_weighed}
use Rattle.user_log.proofs.log.UserLog.weigh_text.Goals as goal

pub returns-in-Some-clause-weighed : goal.returns-in-Some-clause-weighed
returns-in-Some-clause-weighed c = c.in-Some.ensures.code c.in-Ok.ensures.read

pub returns-clause-weighed : goal.returns-clause-weighed
returns-clause-weighed c =
    let self = c.args.self.now in
    let query = sentence_of c.in_ok-query.query in
    let same : query ≡ formula_of c.in-Ok.query = ap formula_of c.in_ok-query.ensures.same in
    answer_weighed (kept_schema self) (kept_world self) (kept_user self) (kept_history self) c.args.text.now query
    (c.in-Ok.ensures.read ∙ ap Ok (sym same)) _ c.in_default.ensures.room
    (ap (is_too_large (kept_schema self) (kept_user self) (kept_history self)) same ∙ c.in_default.ensures.small) c.in_ok-mark.ensures.rule
