use denote.Param.Send.{sendable}
use Rattle.std.proofs.Common.{subst, slice_index_or}
use Rattle.std.proofs.Crossing.{crosses}
use Rattle.log_journal.specs.Opening.{header_bytes}
use Rattle.desk_crew.specs.Side.{IsTried}
use Rattle.desk_counter.proofs.Crossing.{ticketed_desk_send}
use Rattle.desk_crew.proofs.Crossing.{opening_send, registry_sync}
use Rattle.desk_crew.proofs.opening.open_each.Goals as goal

pub for_each_mut-requires-send-T : goal.for_each_mut-requires-send-T
for_each_mut-requires-send-T g c κs within = search (sendable, opening_send, ticketed_desk_send) depth 30

pub for_each_mut-requires-sync-F : goal.for_each_mut-requires-sync-F
for_each_mut-requires-sync-F g c κs within = search (sendable, crosses, registry_sync) depth 30

pub returns-clause-tried : goal.returns-clause-tried
returns-clause-tried g c = λ k d low.
    let at = (c.for_each_mut.ensures k d low).1 in
    let schema = c.args.registry.now.schema.now in
    let world = c.args.registry.now.world.now in
    let header = header_bytes c.args.registry.now.header.now in
    subst (λ o. IsTried schema world header g.D.Disk o (slice_index_or c.for_each_mut.new.s k d)) at.argument_is
    (subst (IsTried schema world header g.D.Disk at.argument.now) at.left at.call)
