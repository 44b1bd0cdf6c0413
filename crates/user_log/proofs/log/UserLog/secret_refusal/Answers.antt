use Rattle.std.proofs.Common.{sym, ◌∙◌}
use Rattle.cqe_base.specs.Formula.{formula_of}
use Rattle.user_log.specs.UserLogs.{kept_schema, kept_world, kept_user, kept_history}
use Rattle.user_log.proofs.Asking.{large_guarded, many_guarded}
use Rattle.user_log.proofs.log.UserLog.secret_refusal.Goals as goal

pub returns-then-is_too_large_secret-clause-code : goal.returns-then-is_too_large_secret-clause-code
returns-then-is_too_large_secret-clause-code c text room read =
    let self = c.args.self.now in
    large_guarded (kept_schema self) (kept_world self) (kept_user self) (kept_history self) text (formula_of c.args.secret.now) read room
    (sym c.is_too_large_secret.ensures ∙ c.if-is_too_large_secret.true)

pub returns-then-has_all_secrets-clause-code : goal.returns-then-has_all_secrets-clause-code
returns-then-has_all_secrets-clause-code c text room read =
    let self = c.args.self.now in
    many_guarded (kept_schema self) (kept_world self) (kept_user self) (kept_history self) text (formula_of c.args.secret.now) read room
    (sym c.is_too_large_secret.ensures ∙ c.if-is_too_large_secret.false)
    (sym c.has_all_secrets.ensures ∙ c.if-has_all_secrets.true)
