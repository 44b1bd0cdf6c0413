use Rattle.std.proofs.Common.{sym, subst}
use Rattle.std.proofs.lemmas.List.Elements.{All-get_or}
use Rattle.cqe_base.specs.declared.user.User.{User}
use Rattle.cqe_base.specs.History.{profile_of}
use Rattle.cqe_base.specs.Limits.{KeepsLimits}
use Rattle.desk_tests.proofs.shown.all_show.Goals as goal

-- the user keeps the limits, as all do
pub items_shown-requires-after_bounds : goal.items_shown-requires-after_bounds
items_shown-requires-after_bounds g c κs within =
    subst (λ (user : User). KeepsLimits c.args.schema.now (profile_of user)) (sym c.user-item.is)
    (All-get_or (λ (user : User). KeepsLimits c.args.schema.now (profile_of user)) c.args.users.now c.loop-user.user-index c.user-item.result
    c.loop-user-test.true c.requires)
