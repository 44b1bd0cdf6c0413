use Rattle.std.proofs.Common.{sym, ◌∙◌}
use Rattle.cqe_base.specs.Formula.{formula_of}
use Rattle.user_log.specs.UserLogs.{kept_schema, kept_world, kept_user, kept_history}
use Rattle.user_log.proofs.Asking.{full_guarded, unsafe_guarded, safe_guarded}
use Rattle.user_log.proofs.log.UserLog.weigh_secret.Goals as goal

pub returns-then-is_full-clause-weighed : goal.returns-then-is_full-clause-weighed
returns-then-is_full-clause-weighed c =
    let self = c.args.self.now in
    full_guarded (kept_schema self) (kept_world self) (kept_user self) (kept_history self) c.args.text.now (formula_of c.in-Ok.secret) c.in-Ok.ensures.read
    (sym c.is_full.ensures ∙ c.if-is_full.true)

pub returns-in-Some-clause-weighed : goal.returns-in-Some-clause-weighed
returns-in-Some-clause-weighed c = c.in-Some.ensures.code c.args.text.now (sym c.is_full.ensures ∙ c.if-is_full.false) c.in-Ok.ensures.read

pub returns-then-safe-clause-weighed : goal.returns-then-safe-clause-weighed
returns-then-safe-clause-weighed c =
    let self = c.args.self.now in
    safe_guarded (kept_schema self) (kept_world self) (kept_user self) (kept_history self) c.args.text.now (formula_of c.in-Ok.secret) c.in-Ok.ensures.read
    (sym c.is_full.ensures ∙ c.if-is_full.false) c.in_default.ensures.small c.in_default.ensures.few (sym c.in_ok-safe.ensures.safe ∙ c.if-safe.true)

pub returns-clause-weighed : goal.returns-clause-weighed
returns-clause-weighed c =
    let self = c.args.self.now in
    unsafe_guarded (kept_schema self) (kept_world self) (kept_user self) (kept_history self) c.args.text.now (formula_of c.in-Ok.secret) c.in-Ok.ensures.read
    (sym c.is_full.ensures ∙ c.if-is_full.false) c.in_default.ensures.small c.in_default.ensures.few (sym c.in_ok-safe.ensures.safe ∙ c.if-safe.false)
