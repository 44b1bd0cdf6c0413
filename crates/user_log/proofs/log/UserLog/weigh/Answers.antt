use Rattle.std.proofs.Common.{sym, subst}
use Rattle.std.specs.Prelude.{IfOk}
use Rattle.user_log.specs.Asked.{IsWeighed}
use Rattle.user_log.specs.Undecided.{IsUndecidedByCost}
use Rattle.user_log.specs.UserLogs.{kept_schema, kept_world, kept_user, kept_history}
use Rattle.user_log.proofs.Costs.{added_by_cost}
use Rattle.user_log.proofs.log.UserLog.weigh.Goals as goal

pub returns-in-Asking-clause-weighed : goal.returns-in-Asking-clause-weighed
returns-in-Asking-clause-weighed c =
    let self = c.args.self.now in
    subst (λ p. IfOk c.weigh_query.result (IsWeighed (kept_schema self) (kept_world self) (kept_user self) (kept_history self) p c.args.text.now))
    (sym c.in-Asking.is) c.weigh_query.ensures.weighed

pub returns-in-Asking-clause-undecided : goal.returns-in-Asking-clause-undecided
returns-in-Asking-clause-undecided c =
    let self = c.args.self.now in
    subst (λ p. IfOk c.weigh_query.result (IsUndecidedByCost (kept_schema self) (kept_user self) (kept_history self) p)) (sym c.in-Asking.is)
    c.weigh_query.ensures.undecided

pub returns-in-Protecting-clause-weighed : goal.returns-in-Protecting-clause-weighed
returns-in-Protecting-clause-weighed c =
    let self = c.args.self.now in
    subst (λ p. IfOk c.weigh_secret.result (IsWeighed (kept_schema self) (kept_world self) (kept_user self) (kept_history self) p c.args.text.now))
    (sym c.in-Protecting.is) c.weigh_secret.ensures.weighed

pub returns-in-Protecting-clause-undecided : goal.returns-in-Protecting-clause-undecided
returns-in-Protecting-clause-undecided c =
    let self = c.args.self.now in
    subst (λ p. IfOk c.weigh_secret.result (IsUndecidedByCost (kept_schema self) (kept_user self) (kept_history self) p)) (sym c.in-Protecting.is)
    (added_by_cost (kept_schema self) (kept_user self) (kept_history self) c.weigh_secret.result)
