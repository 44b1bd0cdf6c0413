use Rattle.std.proofs.Common.{◌≡◌, ◌++◌, take, drop, length, map, sym, ap, subst, ◌∙◌, rules, arith, All}
use Rattle.std.specs.List.{AllByRecursion, AllZip, list_any}
use Rattle.outside.specs.Shelf.{AllOut}
use Rattle.cqe_base.specs.Schema.{has_duplicate}
use Rattle.log_journal.specs.Opening.{header_bytes}
use Rattle.list_sums.proofs.Lent.{lent_whole}
use Rattle.desk_crew.specs.Side.{DeskOpening, place_of, is_shut, HasPlace, opening_journals}
use Rattle.desk_crew.specs.Side.{OpeningsLater, OpeningsOwn, KeepsOpening, IsKnown, IsTried, AreTried}
use Rattle.desk_crew.proofs.Giving.{CanPutBack, WerePutBack}
use Rattle.desk_crew.proofs.Owning.{tried_own}
use Rattle.desk_crew.proofs.Placing.{all_tried, all_placed, can_tried, returned_tried, seats_tried}
use Rattle.desk_crew.proofs.crew.open_taken.Given.{Over}
use Rattle.desk_crew.proofs.crew.open_taken.Goals as goal
use Rattle.desk_crew.proofs.crew.open_taken.Goals.{After-open_each, After-drop-room}

pub open_each-requires-clause-limits : goal.open_each-requires-clause-limits
open_each-requires-clause-limits g c κs within =
    let lent : c.deref_mut.result.now ≡ c.args.openings.items = search rules in
    subst (All (KeepsOpening c.args.registry.now.schema.now c.args.registry.now.world.now)) (sym lent) c.requires.limits

pub open_each-requires-clause-known : goal.open_each-requires-clause-known
open_each-requires-clause-known g c κs within =
    let lent : c.deref_mut.result.now ≡ c.args.openings.items = search rules in
    subst (All (IsKnown c.args.registry.now.schema.now c.args.registry.now.world.now)) (sym lent) c.requires.known

-- the vector was lent whole
lent : (g : Over) (c : After-open_each g) → c.deref_mut.result.now ≡ c.args.openings.items
lent g c = search rules

many : (g : Over) (c : After-open_each g) → length c.open_each.new.openings ≡ length c.args.openings.items
many g c = c.open_each.ensures.count ∙ ap length (lent g c)

whole : (g : Over) (c : After-open_each g)
    → take c.args.openings.len (c.open_each.new.openings ++ drop (length c.open_each.new.openings) c.args.openings.items) ≡ c.open_each.new.openings
whole g c = lent_whole c.args.openings.len c.open_each.new.openings c.args.openings.items (many g c) (search rules)

-- each journal was tried
tried : (g : Over) (c : After-open_each g)
    → AllZip (IsTried c.args.registry.now.schema.now c.args.registry.now.world.now (header_bytes c.args.registry.now.header.now) g.F.D.Disk)
    c.args.openings.items c.open_each.new.openings
tried g c =
    all_tried c.args.registry.now.schema.now c.args.registry.now.world.now (header_bytes c.args.registry.now.header.now) g.F.D.Disk c.args.openings.items
    c.open_each.new.openings (many g c)
    (subst (λ l. AreTried c.args.registry.now.schema.now c.args.registry.now.world.now (header_bytes c.args.registry.now.header.now) g.F.D.Disk l
    c.open_each.new.openings) (lent g c) c.open_each.ensures.tried)

-- ---- memory was wanting

can : (g : Over) (c : After-open_each g)
    → CanPutBack g.F.D.Disk c.open_each.new.openings (g.F.Shelf.is_out c.args.shelf.now) (g.F.Shelf.disk_faults c.args.shelf.now)
can g c =
    can_tried c.args.registry.now.schema.now c.args.registry.now.world.now (header_bytes c.args.registry.now.header.now) g.F.D.Disk c.args.openings.items
    c.open_each.new.openings c.requires.closed (tried g c) (g.F.Shelf.is_out c.args.shelf.now) (g.F.Shelf.disk_faults c.args.shelf.now)
    (record { distinct = c.requires.distinct; out = c.requires.out; later = c.requires.later })

pub return_all-requires-clause-placed : goal.return_all-requires-clause-placed
return_all-requires-clause-placed g c =
    let at = (goal.at.return_all-requires-clause-placed g c).After-open_each in
    subst (AllByRecursion HasPlace) (sym (whole g at))
    (all_placed c.args.registry.now.schema.now c.args.registry.now.world.now (header_bytes c.args.registry.now.header.now) g.F.D.Disk
    c.args.openings.items c.open_each.new.openings c.requires.closed (tried g at))

pub return_all-requires-clause-distinct : goal.return_all-requires-clause-distinct
return_all-requires-clause-distinct g c =
    let at = (goal.at.return_all-requires-clause-distinct g c).After-open_each in
    ap (λ l. has_duplicate (opening_journals l)) (whole g at) ∙ (can g at).distinct

pub return_all-requires-clause-out : goal.return_all-requires-clause-out
return_all-requires-clause-out g c =
    let at = (goal.at.return_all-requires-clause-out g c).After-open_each in
    subst (λ l. AllOut (opening_journals l) (g.F.Shelf.is_out c.args.shelf.now)) (sym (whole g at)) (can g at).out

pub return_all-requires-clause-later : goal.return_all-requires-clause-later
return_all-requires-clause-later g c =
    let at = (goal.at.return_all-requires-clause-later g c).After-open_each in
    subst (OpeningsLater g.F.D.Disk.faults (g.F.Shelf.disk_faults c.args.shelf.now)) (sym (whole g at)) (can g at).later

pub return_all-requires-clause-own : goal.return_all-requires-clause-own
return_all-requires-clause-own g c =
    let at = (goal.at.return_all-requires-clause-own g c).After-open_each in
    subst (OpeningsOwn g.F.D.Disk.origin (g.F.Shelf.lent c.args.shelf.now).origin) (sym (whole g at))
    (tried_own g.F.D.Disk (g.F.Shelf.lent c.args.shelf.now).origin c.args.registry.now.schema.now c.args.registry.now.world.now
    (header_bytes c.args.registry.now.header.now) c.args.openings.items c.open_each.new.openings c.requires.closed (tried g at) c.requires.own)

-- all disks are back
returned : (g : Over) (c : After-drop-room g)
    → WerePutBack g.F.Shelf.tells g.F.D.Disk c.args.openings.items (g.F.Shelf.disk c.args.shelf.now)
    (g.F.Shelf.disk c.return_all.new.shelf) (g.F.Shelf.is_out c.args.shelf.now) (g.F.Shelf.is_out c.return_all.new.shelf)
    (g.F.Shelf.disk_faults c.args.shelf.now) (g.F.Shelf.disk_faults c.return_all.new.shelf)
returned g c =
    let at = (goal.at.returns-then-is_some_shut-clause-back g c).After-open_each in
    let given = c.return_all.ensures in
    returned_tried c.args.registry.now.schema.now c.args.registry.now.world.now (header_bytes c.args.registry.now.header.now) g.F.D.Disk
    c.args.openings.items c.open_each.new.openings c.requires.closed (tried g at) g.F.Shelf.tells (g.F.Shelf.disk c.args.shelf.now)
    (g.F.Shelf.disk c.return_all.new.shelf) (g.F.Shelf.is_out c.args.shelf.now) (g.F.Shelf.is_out c.return_all.new.shelf)
    (g.F.Shelf.disk_faults c.args.shelf.now) (g.F.Shelf.disk_faults c.return_all.new.shelf)
    (subst (λ l. WerePutBack g.F.Shelf.tells g.F.D.Disk l (g.F.Shelf.disk c.args.shelf.now)
    (g.F.Shelf.disk c.return_all.new.shelf) (g.F.Shelf.is_out c.args.shelf.now) (g.F.Shelf.is_out c.return_all.new.shelf)
    (g.F.Shelf.disk_faults c.args.shelf.now) (g.F.Shelf.disk_faults c.return_all.new.shelf)) (whole g at)
    (record { back = given.back; inside = given.inside; others_out = given.others_out; disks = given.disks; counts = given.counts }))

pub returns-then-is_some_shut-clause-back : goal.returns-then-is_some_shut-clause-back
returns-then-is_some_shut-clause-back g c = (returned g c).back

pub returns-then-is_some_shut-clause-inside : goal.returns-then-is_some_shut-clause-inside
returns-then-is_some_shut-clause-inside g c = (returned g c).inside

pub returns-then-is_some_shut-clause-others_out : goal.returns-then-is_some_shut-clause-others_out
returns-then-is_some_shut-clause-others_out g c = (returned g c).others_out

pub returns-then-is_some_shut-clause-disks : goal.returns-then-is_some_shut-clause-disks
returns-then-is_some_shut-clause-disks g c = (returned g c).disks

pub returns-then-is_some_shut-clause-counts : goal.returns-then-is_some_shut-clause-counts
returns-then-is_some_shut-clause-counts g c = (returned g c).counts

-- ---- all are open

pub seats_of-requires-clause-all_open : goal.seats_of-requires-clause-all_open
seats_of-requires-clause-all_open g c =
    sym (ap (list_any (λ (o : DeskOpening _ _ _). is_shut (place_of o))) c.as_slice.ensures.value) ∙ sym c.is_some_shut.ensures ∙ c.if-is_some_shut.false

pub seats_of-requires-clause-room : goal.seats_of-requires-clause-room
seats_of-requires-clause-room g c =
    let at = (goal.at.seats_of-requires-clause-room g c).After-open_each in
    let same = ap length (whole g at) in
    let as_many = many g at in
    let room = c.requires.room in
    omega (arith, same, as_many, room)

pub returns-clause-opened : goal.returns-clause-opened
returns-clause-opened g c =
    let at = (goal.at.returns-clause-opened g c).After-open_each in
    seats_tried c.args.registry.now.schema.now c.args.registry.now.world.now (header_bytes c.args.registry.now.header.now) g.F.D.Disk
    c.args.openings.items c.open_each.new.openings c.seats_of.result.items (tried g at) (c.seats_of.ensures ∙ ap (map place_of) (whole g at))
