use Rattle.user_desk.specs.declared.standing.Standing.TheVariants.{Closed, Sealed}
use Rattle.user_desk.proofs.Keeping.{legal_at, sizes_at}
use Rattle.user_desk.proofs.Replaying.{open_told, none_told, sealed_none}
use Rattle.user_desk.proofs.recounting.outcome_of.Goals as goal

pub returns-in-Open : goal.returns-in-Open
returns-in-Open c schema world user all same is =
    open_told schema world user all _ _ c.into_entries.ensures (rw c.in-Open.is at is)
    (legal_at _ _ _ _ _ _ _ same.schema_is same.world_is same.user_is c.known.ensures.legal)
    (sizes_at _ _ _ _ _ same.schema_is same.user_is c.known.ensures.sizes)

pub returns-in-Closed : goal.returns-in-Closed
returns-in-Closed c schema world user all same is =
    let closed = rw c.in-Closed.is at is in
    none_told schema world user all _ (Closed c.in-Closed.admission) closed.2 closed

pub returns-in-Sealed : goal.returns-in-Sealed
returns-in-Sealed c schema world user all same is =
    let sealed = rw c.in-Sealed.is at is in
    none_told schema world user all _ (Sealed c.in-Sealed.why) (sealed_none schema world user all _ c.in-Sealed.why sealed) sealed
