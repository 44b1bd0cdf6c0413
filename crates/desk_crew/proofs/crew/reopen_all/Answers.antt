use Rattle.std.proofs.Common.{arith}
use Rattle.log_journal.specs.Opening.{header_bytes}
use Rattle.desk_crew.proofs.Giving.{AreReady}
use Rattle.desk_crew.proofs.Owning.{closed_own}
use Rattle.desk_crew.proofs.Lasting.{if_some_on, if_none_on}
use Rattle.desk_crew.proofs.Reopening.{all_reopened, many_closed, closed_ready, beside_closed, closed_back, inside_closed}
use Rattle.desk_crew.proofs.crew.reopen_all.Given.{Over}
use Rattle.desk_crew.proofs.crew.reopen_all.Goals as goal
use Rattle.desk_crew.proofs.crew.reopen_all.Goals.{After-close_all-openings}

pub close_all-openings-requires-clause-room : goal.close_all-openings-requires-clause-room
close_all-openings-requires-clause-room g c =
    let len = c.args.seats.ok.0 in
    let count = c.len-count.ensures in
    let room = c.in-Ok-Ok.ensures.room in
    omega (arith, len, count, room)

-- the desks that were closed are ready to be opened again
ready : (g : Over) (c : After-close_all-openings g)
    → AreReady c.args.registry.now.schema.now c.args.registry.now.world.now g.F.D.Disk c.close_all-openings.result.items
    (g.F.Shelf.is_out c.args.shelf.now) (g.F.Shelf.disk_faults c.args.shelf.now)
ready g c =
    closed_ready g.F.D.Disk c.args.seats.items c.close_all-openings.result.items c.close_all-openings.ensures c.args.registry.now.schema.now
    c.args.registry.now.world.now (header_bytes c.args.registry.now.header.now) (g.F.Shelf.is_out c.args.shelf.now)
    (g.F.Shelf.disk_faults c.args.shelf.now) c.requires.limits c.requires.served
    (record { distinct = c.requires.distinct; out = c.requires.out; later = c.requires.later })

pub open_taken-requires-clause-limits : goal.open_taken-requires-clause-limits
open_taken-requires-clause-limits g c κs within = (ready g (goal.at.open_taken-requires-clause-limits g c).After-close_all-openings).limits

pub open_taken-requires-clause-known : goal.open_taken-requires-clause-known
open_taken-requires-clause-known g c κs within = (ready g (goal.at.open_taken-requires-clause-known g c).After-close_all-openings).known

pub open_taken-requires-clause-closed : goal.open_taken-requires-clause-closed
open_taken-requires-clause-closed g c κs within = (ready g (goal.at.open_taken-requires-clause-closed g c).After-close_all-openings).closed

pub open_taken-requires-clause-distinct : goal.open_taken-requires-clause-distinct
open_taken-requires-clause-distinct g c κs within = (ready g (goal.at.open_taken-requires-clause-distinct g c).After-close_all-openings).can.distinct

pub open_taken-requires-clause-out : goal.open_taken-requires-clause-out
open_taken-requires-clause-out g c κs within = (ready g (goal.at.open_taken-requires-clause-out g c).After-close_all-openings).can.out

pub open_taken-requires-clause-later : goal.open_taken-requires-clause-later
open_taken-requires-clause-later g c κs within = (ready g (goal.at.open_taken-requires-clause-later g c).After-close_all-openings).can.later

pub open_taken-requires-clause-own : goal.open_taken-requires-clause-own
open_taken-requires-clause-own g c κs within =
    closed_own g.F.D.Disk (g.F.Shelf.lent c.args.shelf.now).origin c.args.seats.items c.close_all-openings.result.items c.close_all-openings.ensures
    c.requires.own

pub open_taken-requires-clause-room : goal.open_taken-requires-clause-room
open_taken-requires-clause-room g c κs within =
    let many = many_closed g.F.D.Disk c.args.seats.items c.close_all-openings.result.items c.close_all-openings.ensures in
    let len = c.args.seats.ok.0 in
    let count = c.len-count.ensures in
    let room = c.in-Ok-Ok.ensures'.room in
    omega (arith, many, len, count, room)

pub returns-clause-reopened : goal.returns-clause-reopened
returns-clause-reopened g c =
    if_some_on c.open_taken.result _ _
    (λ seats from. all_reopened c.args.registry.now.schema.now c.args.registry.now.world.now (header_bytes c.args.registry.now.header.now) g.F.D.Disk
    c.args.seats.items c.close_all-openings.result.items seats.items c.close_all-openings.ensures from) c.open_taken.ensures.opened

-- ---- where memory was wanting, the disks of the seats are back

pub returns-clause-back : goal.returns-clause-back
returns-clause-back g c =
    if_none_on c.open_taken.result _ _
    (closed_back g.F.D.Disk c.args.seats.items c.close_all-openings.result.items c.close_all-openings.ensures g.F.Shelf.tells
    (g.F.Shelf.disk c.open_taken.new.shelf) (g.F.Shelf.disk_faults c.open_taken.new.shelf)) c.open_taken.ensures.back

pub returns-clause-inside : goal.returns-clause-inside
returns-clause-inside g c =
    if_none_on c.open_taken.result _ _
    (inside_closed g.F.D.Disk c.args.seats.items c.close_all-openings.result.items c.close_all-openings.ensures
    (g.F.Shelf.is_out c.open_taken.new.shelf)) c.open_taken.ensures.inside

pub returns-clause-others_out : goal.returns-clause-others_out
returns-clause-others_out g c =
    beside_closed g.F.D.Disk c.args.seats.items c.close_all-openings.result.items c.close_all-openings.ensures (g.F.Shelf.is_out c.args.shelf.now)
    (g.F.Shelf.is_out c.open_taken.new.shelf) c.open_taken.ensures.others_out

pub returns-clause-disks : goal.returns-clause-disks
returns-clause-disks g c =
    beside_closed g.F.D.Disk c.args.seats.items c.close_all-openings.result.items c.close_all-openings.ensures (g.F.Shelf.disk c.args.shelf.now)
    (g.F.Shelf.disk c.open_taken.new.shelf) c.open_taken.ensures.disks

pub returns-clause-counts : goal.returns-clause-counts
returns-clause-counts g c =
    beside_closed g.F.D.Disk c.args.seats.items c.close_all-openings.result.items c.close_all-openings.ensures (g.F.Shelf.disk_faults c.args.shelf.now)
    (g.F.Shelf.disk_faults c.open_taken.new.shelf) c.open_taken.ensures.counts
