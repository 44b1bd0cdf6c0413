use Rattle.std.proofs.Common.{◌∙◌, length, map, inl, refl, sym, ap, subst, arith}
use Rattle.log_journal.specs.Opening.{header_bytes}
use Rattle.desk_crew.specs.Registered.{registered_journals}
use Rattle.desk_crew.specs.Refusals.{SomeFaulted}
use Rattle.desk_crew.proofs.Faulting.{first_faulted, faulted_rose}
use Rattle.desk_crew.proofs.Lasting.{keeps_same, keeps_all}
use Rattle.desk_crew.proofs.Giving.{CanGive, AllReturned}
use Rattle.desk_crew.proofs.Hearing.{there_first, all_there}
use Rattle.outside.specs.Shelf.{SameBeside}
use Rattle.desk_crew.proofs.Taking.{AllSeated, all_seated}
use Rattle.serve_engine.specs.Serving.{IsDone, IsBroken, IsDiskRefusal}
use Rattle.serve_engine.specs.Sharing.{IsServedAt}
use Rattle.serve_engine.proofs.Faulting.{faulted_end, faulted_on_seats, refusals_on_seats}
use Rattle.serve_engine.proofs.Histories.{later_on_seats}
use Rattle.serve_engine.proofs.Histories.{broken_end, own_on_seats, there_on_seats, journals_on_same, doors_many, doors_gave, doors_left, ended_at, failed_at}
use Rattle.serve_engine.proofs.Histories.{AreReady, all_ready, served_can, served_returned, served_rose, served_ends}
use Rattle.serve_engine.proofs.run.serve_opened.Given.{Over}
use Rattle.serve_engine.proofs.run.serve_opened.Goals as goal
use Rattle.serve_engine.proofs.run.serve_opened.Goals.{After-end_of, After-give_back-arg-1, In-Ok-open_all}

pub open_all-requires-clause-some : goal.open_all-requires-clause-some
open_all-requires-clause-some g c κs within =
    omega (arith, c.requires.some, c.args.doors.ok.0, c.len-workers.ensures)

-- ---- where no journal was opened, all are kept

pub returns-in_default-clause-ends : goal.returns-in_default-clause-ends
returns-in_default-clause-ends g c = λ shelf_told.
    inl (record {
      doors_same = refl;
      kept = keeps_same g.F.D.Disk c.args.registry.now.directory.now (g.F.Shelf.disk c.args.shelf.now) (g.F.Shelf.disk c.args.shelf.now)
          (g.F.Shelf.disk_faults c.args.shelf.now) (g.F.Shelf.disk_faults c.args.shelf.now)
          (g.met.F.D.Disk g.world.𝓛 g.world.𝓜 g.world.𝓡 ((λ s x. x), (λ x. x), (λ x. x), λ x. x)).only_now (λ name. refl);
    })

pub returns-in-Err-Shelf-clause-ends : goal.returns-in-Err-Shelf-clause-ends
returns-in-Err-Shelf-clause-ends g c = λ shelf_told.
    record {
      doors_same = refl;
      kept = keeps_all g.F.D.Disk c.args.registry.now.directory.now (g.F.Shelf.disk c.args.shelf.now) (g.F.Shelf.disk c.open_all.new.shelf)
          (g.F.Shelf.disk_faults c.args.shelf.now) (g.F.Shelf.disk_faults c.open_all.new.shelf) (c.in-Err-Shelf.ensures.refused_bytes shelf_told)
          (c.in-Err-Shelf.ensures.refused_images shelf_told) (c.in-Err-Shelf.ensures.refused_moments shelf_told);
    }

pub returns-in-Err-Memory-clause-ends : goal.returns-in-Err-Memory-clause-ends
returns-in-Err-Memory-clause-ends g c = λ shelf_told.
    inl (record {
      doors_same = refl;
      kept = keeps_all g.F.D.Disk c.args.registry.now.directory.now (g.F.Shelf.disk c.args.shelf.now) (g.F.Shelf.disk c.open_all.new.shelf)
          (g.F.Shelf.disk_faults c.args.shelf.now) (g.F.Shelf.disk_faults c.open_all.new.shelf) (c.in-Err-Memory.ensures.refused_bytes shelf_told)
          (c.in-Err-Memory.ensures.refused_images shelf_told) (c.in-Err-Memory.ensures.refused_moments shelf_told);
    })

pub returns-in_default-clause-there : goal.returns-in_default-clause-there
returns-in_default-clause-there g c = λ shelf_told tells name there. there

pub returns-in-Err-Shelf-clause-there : goal.returns-in-Err-Shelf-clause-there
returns-in-Err-Shelf-clause-there g c = c.in-Err-Shelf.ensures.refused_there

pub returns-in-Err-Memory-clause-there : goal.returns-in-Err-Memory-clause-there
returns-in-Err-Memory-clause-there g c = c.in-Err-Memory.ensures.refused_there

-- ---- what follows from the opening of all journals

seated : (g : Over) (c : In-Ok-open_all g)
    → AllSeated c.args.registry.now.directory.now c.args.registry.now.schema.now c.args.registry.now.world.now (header_bytes c.args.registry.now.header.now)
    g.F.Shelf.tells g.F.D.Disk c.args.registry.now.users.now c.in-Ok-open_all.seats.items (g.F.Shelf.disk c.args.shelf.now)
    (g.F.Shelf.disk c.open_all.new.shelf) (g.F.Shelf.is_out c.open_all.new.shelf) (g.F.Shelf.disk_faults c.args.shelf.now)
    (g.F.Shelf.disk_faults c.open_all.new.shelf)
seated g c =
    all_seated _ _ _ _ _ _ _ _ _ _ _ _ _ c.law_journals_differ.ensures c.requires.names c.in-Ok-open_all.ensures.opened c.in-Ok-open_all.ensures.out
    c.open_all.ensures.disks c.in-Ok-open_all.ensures.counts

ready : (g : Over) (c : In-Ok-open_all g) → AreReady c.args.registry.now.users.now c.in-Ok-open_all.seats.items
ready g c = all_ready (seated g c) c.known.ensures c.requires.limits

pub refusals_of-refusals-requires-clause-room : goal.refusals_of-refusals-requires-clause-room
refusals_of-refusals-requires-clause-room g c =
    let many = (seated g (goal.at.refusals_of-refusals-requires-clause-room g c).In-Ok-open_all).many in
    omega (arith, many, c.in-Ok.ensures.room, ap length c.as_slice.ensures.value)

pub serve_seats-outcome-requires-clause-desks : goal.serve_seats-outcome-requires-clause-desks
serve_seats-outcome-requires-clause-desks g c κs within = (ready g (goal.at.serve_seats-outcome-requires-clause-desks g c).In-Ok-open_all).desks

pub serve_seats-outcome-requires-clause-legal : goal.serve_seats-outcome-requires-clause-legal
serve_seats-outcome-requires-clause-legal g c κs within = (ready g (goal.at.serve_seats-outcome-requires-clause-legal g c).In-Ok-open_all).legal

pub serve_seats-outcome-requires-clause-fresh : goal.serve_seats-outcome-requires-clause-fresh
serve_seats-outcome-requires-clause-fresh g c κs within = (ready g (goal.at.serve_seats-outcome-requires-clause-fresh g c).In-Ok-open_all).fresh

pub serve_seats-outcome-requires-clause-turns : goal.serve_seats-outcome-requires-clause-turns
serve_seats-outcome-requires-clause-turns g c κs within = (ready g (goal.at.serve_seats-outcome-requires-clause-turns g c).In-Ok-open_all).turns_are

-- ---- the disks go back

can : (g : Over) (c : After-give_back-arg-1 g)
    → CanGive g.F.D.Disk c.serve_seats-outcome.result.1.items (g.F.Shelf.is_out c.open_all.new.shelf) (g.F.Shelf.disk_faults c.open_all.new.shelf)
can g c =
    served_can (seated g (goal.at.give_back-is_broken-requires-clause-out g c).In-Ok-open_all) c.serve_seats-outcome.result.1.items
    c.serve_seats-outcome.ensures.on

pub give_back-is_broken-requires-clause-distinct : goal.give_back-is_broken-requires-clause-distinct
give_back-is_broken-requires-clause-distinct g c = (can g c).distinct

pub give_back-is_broken-requires-clause-out : goal.give_back-is_broken-requires-clause-out
give_back-is_broken-requires-clause-out g c = (can g c).out

pub give_back-is_broken-requires-clause-later : goal.give_back-is_broken-requires-clause-later
give_back-is_broken-requires-clause-later g c = (can g c).later

pub give_back-is_broken-requires-clause-own : goal.give_back-is_broken-requires-clause-own
give_back-is_broken-requires-clause-own g c =
    own_on_seats g.F.D.Disk.origin (g.F.Shelf.lent c.open_all.new.shelf).origin c.in-Ok-open_all.seats.items c.serve_seats-outcome.result.1.items
    c.serve_seats-outcome.ensures.on c.in-Ok-open_all.ensures.own

returned : (g : Over) (c : After-end_of g)
    → AllReturned (registered_journals c.args.registry.now.directory.now c.args.registry.now.users.now) (g.F.Shelf.disk c.args.shelf.now)
    (g.F.Shelf.disk c.give_back-is_broken.new.shelf) (g.F.Shelf.is_out c.give_back-is_broken.new.shelf) (g.F.Shelf.disk_faults c.args.shelf.now)
    (g.F.Shelf.disk_faults c.give_back-is_broken.new.shelf)
returned g c =
    let given = c.give_back-is_broken.ensures in
    served_returned (seated g (goal.at.returns-clause-inside g c).In-Ok-open_all) c.serve_seats-outcome.result.1.items c.serve_seats-outcome.ensures.on
    (record { back = given.back; inside = given.inside; others_out = given.others_out; disks = given.disks; counts = given.counts })

pub returns-clause-disks : goal.returns-clause-disks
returns-clause-disks g c = (returned g c).disks

pub returns-clause-inside : goal.returns-clause-inside
returns-clause-inside g c = (returned g c).inside

pub returns-clause-counts : goal.returns-clause-counts
returns-clause-counts g c = (returned g c).counts

pub returns-clause-other_counts : goal.returns-clause-other_counts
returns-clause-other_counts g c = (returned g c).other_counts

pub returns-clause-there : goal.returns-clause-there
returns-clause-there g c = λ shelf_told tells name there.
    let first = seated g (goal.at.returns-clause-there g c).In-Ok-open_all in
    let seats = c.serve_seats-outcome.result.1.items in
    let names = journals_on_same c.in-Ok-open_all.seats.items seats c.serve_seats-outcome.ensures.on ∙ first.journals_are in
    all_there g.F.D.Disk tells g.F.Shelf.tells shelf_told (g.F.Shelf.disk c.args.shelf.now) (g.F.Shelf.disk c.give_back-is_broken.new.shelf)
    (g.F.Shelf.disk_faults c.give_back-is_broken.new.shelf) seats c.give_back-is_broken.ensures.back
    (subst (λ ns. SameBeside ns (g.F.Shelf.disk c.args.shelf.now) (g.F.Shelf.disk c.give_back-is_broken.new.shelf)) (sym names) (returned g c).disks)
    (there_on_seats g.F.D.Disk c.in-Ok-open_all.seats.items seats c.serve_seats-outcome.ensures.on
    (there_first g.F.D.Disk tells g.F.Shelf.tells c.args.registry.now.schema.now c.args.registry.now.world.now
    (header_bytes c.args.registry.now.header.now) c.args.registry.now.directory.now (g.F.Shelf.disk c.args.shelf.now)
    (g.F.Shelf.disk_faults c.args.shelf.now) c.args.registry.now.users.now c.in-Ok-open_all.seats.items c.in-Ok-open_all.ensures.opened)) name there

pub returns-clause-ends : goal.returns-clause-ends
returns-clause-ends g c shelf_told =
    let served = c.serve_seats-outcome.ensures.served in
    let back = c.give_back-is_broken in
    rw c.end_of.ensures
    (served_ends (seated g (goal.at.returns-clause-ends g c).In-Ok-open_all) c.serve_seats-outcome.result.1.items c.serve_seats-outcome.ensures.on shelf_told
    (g.met.F.Shelf.tells_disks shelf_told)
    (g.met.F.D.Disk g.world.𝓛 g.world.𝓜 g.world.𝓡 ((λ s x. x), (λ x. x), (λ x. x), λ x. x)).read_is_image (g.F.Shelf.disk back.new.shelf)
    (g.F.Shelf.disk_faults back.new.shelf) back.ensures.back c.known.ensures c.law_hides.ensures c.requires.limits g.O.Door c.args.doors.items
    c.serve_seats-outcome.result.2.items c.serve_seats-outcome.result.0 c.refusals_of-refusals.result back.result c.args.limit
    (c.refusals_of-refusals.ensures ∙ ap (map (λ x. x.refusal)) c.as_slice.ensures.value) back.ensures.broke served.0 served.1 served.2 served.3 served.5)

pub returns-clause-ended : goal.returns-clause-ended
returns-clause-ended g c door_told done =
    let served = c.serve_seats-outcome.ensures.served in
    ended_at g.O.Door (IsServedAt c.args.registry.now.users.now c.serve_seats-outcome.result.1.items) door_told c.args.limit served.0 served.1
    c.args.doors.items c.serve_seats-outcome.result.2.items c.serve_seats-outcome.result.0 c.refusals_of-refusals.result c.give_back-is_broken.result
    served.2 served.3 (subst IsDone c.end_of.ensures done)

pub returns-clause-left : goal.returns-clause-left
returns-clause-left g c door_told =
    let served = c.serve_seats-outcome.ensures.served in
    doors_left g.O.Door (IsServedAt c.args.registry.now.users.now c.serve_seats-outcome.result.1.items) door_told served.0 served.1 c.args.doors.items
    c.serve_seats-outcome.result.2.items served.2

pub returns-clause-limited : goal.returns-clause-limited
returns-clause-limited g c door_told =
    let served = c.serve_seats-outcome.ensures.served in
    let gave = doors_gave g.O.Door (IsServedAt c.args.registry.now.users.now c.serve_seats-outcome.result.1.items) door_told served.0 served.1
    c.args.doors.items c.serve_seats-outcome.result.2.items served.2 in
    omega (arith, gave, served.4)

pub returns-clause-failed : goal.returns-clause-failed
returns-clause-failed g c is =
    let served = c.serve_seats-outcome.ensures.served in
    failed_at g.O.Door (IsServedAt c.args.registry.now.users.now c.serve_seats-outcome.result.1.items) c.args.limit served.0
    c.serve_seats-outcome.result.2.items c.serve_seats-outcome.result.0 c.refusals_of-refusals.result c.give_back-is_broken.result served.3
    (sym c.end_of.ensures ∙ is)

pub returns-clause-doors : goal.returns-clause-doors
returns-clause-doors g c =
    let served = c.serve_seats-outcome.ensures.served in
    doors_many g.O.Door (IsServedAt c.args.registry.now.users.now c.serve_seats-outcome.result.1.items) served.0 served.1 c.args.doors.items
    c.serve_seats-outcome.result.2.items served.2

pub returns-clause-disk_cause : goal.returns-clause-disk_cause
returns-clause-disk_cause g c broken =
    let back = c.give_back-is_broken in
    served_rose (seated g (goal.at.returns-clause-disk_cause g c).In-Ok-open_all) c.serve_seats-outcome.result.1.items c.serve_seats-outcome.ensures.on
    (g.F.Shelf.disk back.new.shelf) (g.F.Shelf.disk_faults back.new.shelf) back.ensures.back
    (sym back.ensures.broke
    ∙ broken_end c.serve_seats-outcome.result.0 c.refusals_of-refusals.result back.result (subst IsBroken c.end_of.ensures broken))

pub returns-clause-journal_cause : goal.returns-clause-journal_cause
returns-clause-journal_cause g c said =
    let registry = c.args.registry.now in
    let count = g.F.Shelf.disk_faults c.args.shelf.now in
    let olds = c.in-Ok-open_all.seats.items in
    let seats = c.serve_seats-outcome.result.1.items in
    let on = c.serve_seats-outcome.ensures.on in
    let first = (seated g (goal.at.returns-clause-journal_cause g c).In-Ok-open_all).first in
    faulted_rose g.F.D.Disk count g.F.Shelf.tells (g.F.Shelf.disk_faults c.give_back-is_broken.new.shelf) (g.F.Shelf.disk c.give_back-is_broken.new.shelf) seats
    (later_on_seats g.F.D.Disk.faults count olds seats on first) c.give_back-is_broken.ensures.back
    (faulted_on_seats g.F.D.Disk count olds seats on
    (first_faulted g.F.D.Disk count g.F.Shelf.tells registry.schema.now registry.world.now (header_bytes registry.header.now) registry.directory.now
    (g.F.Shelf.disk c.args.shelf.now) registry.users.now olds c.in-Ok-open_all.ensures.opened))
    (subst SomeFaulted
    (c.refusals_of-refusals.ensures ∙ ap (map (λ x. x.refusal)) c.as_slice.ensures.value ∙ refusals_on_seats g.F.D.Disk count olds seats on)
    (faulted_end c.serve_seats-outcome.result.0 c.refusals_of-refusals.result c.give_back-is_broken.result (subst IsDiskRefusal c.end_of.ensures said)))
