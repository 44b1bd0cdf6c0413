use Rattle.std.proofs.Common.{sym, ◌∙◌}
use Rattle.cqe_base.specs.Formula.{formula_of}
use Rattle.user_log.specs.UserLogs.{kept_schema, kept_world, kept_user, kept_history}
use Rattle.user_log.proofs.Asking.{full_weighed, large_weighed}
use Rattle.user_log.proofs.log.UserLog.refusal.Goals as goal

pub returns-then-is_full-clause-code : goal.returns-then-is_full-clause-code
returns-then-is_full-clause-code c read =
    let self = c.args.self.now in
    full_weighed (kept_schema self) (kept_world self) (kept_user self) (kept_history self) c.args.text.now (formula_of c.args.query.now) read
    (sym c.is_full.ensures ∙ c.if-is_full.true)

pub returns-then-is_too_large-clause-code : goal.returns-then-is_too_large-clause-code
returns-then-is_too_large-clause-code c read =
    let self = c.args.self.now in
    large_weighed (kept_schema self) (kept_world self) (kept_user self) (kept_history self) c.args.text.now (formula_of c.args.query.now) read
    (sym c.is_full.ensures ∙ c.if-is_full.false)
    (sym c.is_too_large.ensures ∙ c.if-is_too_large.true)
