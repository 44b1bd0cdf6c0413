use Rattle.std.proofs.Common.{◌≡◌, ◌∙◌, length, map, refl, sym, ap, subst, arith}
use Rattle.std.specs.Prelude.{Vec, string_bytes}
use Rattle.std.specs.declared.alloc.Global.{Global}
use Rattle.std.proofs.lemmas.List.{length-map}
use Rattle.std.proofs.lemmas.List.Elements.{All-from_recursion}
use Rattle.log_journal.specs.Journal.{count_of}
use Rattle.log_journal.specs.Opening.{header_bytes}
use Rattle.desk_crew.specs.Refusals.{SomeFaulted}
use Rattle.desk_crew.specs.Registered.{registered_journals}
use Rattle.desk_crew.specs.Shelved.{journals_on}
use Rattle.desk_crew.proofs.Lasting.{keeps_same, keeps_all}
use Rattle.desk_crew.proofs.Giving.{AllReturned}
use Rattle.standby_core.specs.Copies.{held_name, held_origin, copy_in}
use Rattle.standby_core.specs.Lasting.{has_broken}
use Rattle.standby_core.specs.declared.book.Held.{Held}
use Rattle.standby_engine.specs.Opened.{place_refusal, given_journal, opened_in, AreOwn}
use Rattle.standby_engine.specs.Standing.{HasListened, IsBroken, IsDiskRefusal}
use Rattle.standby_engine.proofs.Owning.{own_both, own_apart, origins_of}
use Rattle.standby_engine.proofs.Parting.{each_parted, names_many}
use Rattle.standby_engine.proofs.Mirroring.{parted, held_disk, ArePlaced, placed_many, placed_sound, can_distinct, can_out}
use Rattle.standby_engine.proofs.Mirroring.{AreLeft, are_left, left_failed, left_rose, left_copied, left_served, left_returned, failed_same}
use Rattle.standby_engine.proofs.Ending.{ended_at, failed_at, broken_at, leaves_at, serves_at}
use Rattle.standby_engine.proofs.Faulting.{faulted_at, some_faulted}
use Rattle.standby_engine.proofs.run.serve_opened.Given.{Over}
use Rattle.standby_engine.proofs.run.serve_opened.Goals as goal
use Rattle.standby_engine.proofs.run.serve_opened.Goals.{In-Ok-open_journals, After-close-journals, After-put_together-all, After-end_of}

-- ---- where no journal was opened, all are kept

pub returns-in_default-clause-serves : goal.returns-in_default-clause-serves
returns-in_default-clause-serves g c = λ shelf_told door_told. (refl, refl)

pub returns-in_default-clause-journals : goal.returns-in_default-clause-journals
returns-in_default-clause-journals g c = λ told.
    keeps_same g.F.D.Disk c.args.directory.now (g.F.Shelf.disk c.args.shelf.now) (g.F.Shelf.disk c.args.shelf.now)
    (g.F.Shelf.disk_faults c.args.shelf.now) (g.F.Shelf.disk_faults c.args.shelf.now) g.met.F.D.Disk.only_now (λ name. refl)

pub returns-in_default-clause-counts : goal.returns-in_default-clause-counts
returns-in_default-clause-counts g c = λ name. omega arith

pub returns-in_default-clause-limited : goal.returns-in_default-clause-limited
returns-in_default-clause-limited g c = λ told. omega arith

pub returns-in-Err-Shelf-clause-serves : goal.returns-in-Err-Shelf-clause-serves
returns-in-Err-Shelf-clause-serves g c = λ shelf_told door_told. (refl, refl)

pub returns-in-Err-Shelf-clause-journals : goal.returns-in-Err-Shelf-clause-journals
returns-in-Err-Shelf-clause-journals g c = λ told.
    let stays = c.in-Err-Shelf.ensures.refused told in
    keeps_all g.F.D.Disk c.args.directory.now (g.F.Shelf.disk c.args.shelf.now) (g.F.Shelf.disk c.open_journals.new.shelf)
    (g.F.Shelf.disk_faults c.args.shelf.now) (g.F.Shelf.disk_faults c.open_journals.new.shelf) stays.0 stays.1 stays.2

pub returns-in-Err-Shelf-clause-limited : goal.returns-in-Err-Shelf-clause-limited
returns-in-Err-Shelf-clause-limited g c = λ told. omega arith

pub returns-in-Err-Memory-clause-serves : goal.returns-in-Err-Memory-clause-serves
returns-in-Err-Memory-clause-serves g c = λ shelf_told door_told. (refl, refl)

pub returns-in-Err-Memory-clause-journals : goal.returns-in-Err-Memory-clause-journals
returns-in-Err-Memory-clause-journals g c = λ told.
    let stays = c.in-Err-Memory.ensures.refused told in
    keeps_all g.F.D.Disk c.args.directory.now (g.F.Shelf.disk c.args.shelf.now) (g.F.Shelf.disk c.open_journals.new.shelf)
    (g.F.Shelf.disk_faults c.args.shelf.now) (g.F.Shelf.disk_faults c.open_journals.new.shelf) stays.0 stays.1 stays.2

pub returns-in-Err-Memory-clause-limited : goal.returns-in-Err-Memory-clause-limited
returns-in-Err-Memory-clause-limited g c = λ told. omega arith

-- ---- the places are taken apart

placed : (g : Over) (c : In-Ok-open_journals g)
    → ArePlaced c.args.directory.now (header_bytes c.args.header.now) g.F.Shelf.tells g.F.D.Disk (g.F.Shelf.disk c.args.shelf.now)
    (g.F.Shelf.disk_faults c.args.shelf.now) c.args.users.now c.in-Ok-open_journals.places.items
placed g c = record { are = c.in-Ok-open_journals.ensures.opened; differ = c.law_journals_differ.ensures; distinct = c.requires.names }

pub refusals_of-refusals-requires-clause-empty : goal.refusals_of-refusals-requires-clause-empty
refusals_of-refusals-requires-clause-empty g c = c.in-Ok.ensures.empty.3

pub refusals_of-refusals-requires-clause-room : goal.refusals_of-refusals-requires-clause-room
refusals_of-refusals-requires-clause-room g c =
    let many = placed_many (placed g (goal.at.refusals_of-refusals-requires-clause-room g c).In-Ok-open_journals) in
    omega (arith, many, ap length c.as_slice.ensures.value, c.in-Ok.ensures.room.3)

pub take_apart-journals-requires-clause-empty : goal.take_apart-journals-requires-clause-empty
take_apart-journals-requires-clause-empty g c =
    let empty = c.in-Ok.ensures.empty in
    (empty.0, empty.1, empty.2)

pub take_apart-journals-requires-clause-room : goal.take_apart-journals-requires-clause-room
take_apart-journals-requires-clause-room g c =
    let many = placed_many (placed g (goal.at.take_apart-journals-requires-clause-room g c).In-Ok-open_journals) in
    let room = c.in-Ok.ensures.room in
    (omega (arith, many, room.0), omega (arith, many, room.1), omega (arith, many, room.2))

pub new-book-requires : goal.new-book-requires
new-book-requires g c = record {
  counted = rw c.take_apart-journals.ensures.journals
      (All-from_recursion (λ (held : Held _ _). held.count ≡ count_of held.journal) (opened_in c.in-Ok-open_journals.places.items)
      (placed_sound (placed g (goal.at.new-book-requires g c).In-Ok-open_journals)));
}

-- ---- and the disks put together

still_named : (g : Over) (c : After-close-journals g)
    → map held_name c.close-journals.result.items ≡ map held_name (opened_in c.in-Ok-open_journals.places.items)
still_named g c =
    ap (λ (v : Vec (Held _ _) Global). map held_name v.items) c.close-journals.ensures.same ∙ c.serve_door-end.ensures.names
    ∙ ap (λ (v : Vec (Held _ _) Global). map held_name v.items) c.new-book.ensures ∙ ap (map held_name) c.take_apart-journals.ensures.journals

kept_many : (g : Over) (c : After-close-journals g) → length c.close-journals.result.items ≡ length (opened_in c.in-Ok-open_journals.places.items)
kept_many g c =
    sym (length-map c.close-journals.result.items held_name) ∙ ap length (still_named g c)
    ∙ length-map (opened_in c.in-Ok-open_journals.places.items) held_name

pub put_together-all-requires-clause-room : goal.put_together-all-requires-clause-room
put_together-all-requires-clause-room g c =
    let at = goal.at.put_together-all-requires-clause-room g c in
    let many = placed_many (placed g at.In-Ok-open_journals) in
    let parts = each_parted c.in-Ok-open_journals.places.items in
    let others = ap length c.take_apart-journals.ensures.others in
    omega (arith, many, parts, others, kept_many g at.After-close-journals, c.in-Ok.ensures.room.2, c.take_apart-journals.ensures.room)

pub put_together-all-requires-clause-count : goal.put_together-all-requires-clause-count
put_together-all-requires-clause-count g c =
    let names = sym (length-map c.take_apart-journals.result.1.items string_bytes) ∙ ap length c.take_apart-journals.ensures.names in
    let many = names_many c.in-Ok-open_journals.places.items in
    omega (arith, names, many, kept_many g (goal.at.put_together-all-requires-clause-count g c).After-close-journals)

-- under these names they go back
back_named : (g : Over) (c : After-put_together-all g) → map given_journal c.put_together-all.result.0.items ≡ parted c.in-Ok-open_journals.places.items
back_named g c = rw (c.take_apart-journals.ensures.others, c.take_apart-journals.ensures.names) at c.put_together-all.ensures.names

pub give_back-requires-clause-distinct : goal.give_back-requires-clause-distinct
give_back-requires-clause-distinct g c =
    let at = goal.at.give_back-requires-clause-distinct g c in
    can_distinct (placed g at.In-Ok-open_journals) c.put_together-all.result.0.items (back_named g at.After-put_together-all)

pub give_back-requires-clause-out : goal.give_back-requires-clause-out
give_back-requires-clause-out g c =
    let at = goal.at.give_back-requires-clause-out g c in
    can_out (placed g at.In-Ok-open_journals) c.put_together-all.result.0.items (back_named g at.After-put_together-all) c.in-Ok-open_journals.ensures.out

pub give_back-requires-clause-own : goal.give_back-requires-clause-own
give_back-requires-clause-own g c =
    let origin = g.F.D.Disk.origin in
    let known = (g.F.Shelf.lent c.open_journals.new.shelf).origin in
    let apart = own_apart origin known c.in-Ok-open_journals.places.items c.in-Ok-open_journals.ensures.own in
    let closed = ap (λ (v : Vec (Held _ _) Global). map (held_origin origin) v.items) c.close-journals.ensures.same in
    let began = ap (λ (v : Vec (Held _ _) Global). map (held_origin origin) v.items) c.new-book.ensures
    ∙ ap (map (held_origin origin)) c.take_apart-journals.ensures.journals in
    own_both origin known c.put_together-all.result.0.items c.take_apart-journals.result.2.items (map held_disk c.close-journals.result.items)
    (map string_bytes c.take_apart-journals.result.1.items) c.put_together-all.ensures.disks c.put_together-all.ensures.names
    (subst (AreOwn origin known) (sym c.take_apart-journals.ensures.others) apart.1)
    (origins_of origin known c.close-journals.result.items ∙ closed ∙ c.serve_door-end.ensures.origins ∙ began ∙ apart.0
    ∙ ap (map known) (sym c.take_apart-journals.ensures.names))

-- ---- what is left

left : (g : Over) (c : After-end_of g)
    → AreLeft c.args.directory.now (header_bytes c.args.header.now) g.F.Shelf.tells g.F.D.Disk (g.F.Shelf.disk c.args.shelf.now)
    (g.F.Shelf.disk_faults c.args.shelf.now) c.args.users.now c.in-Ok-open_journals.places.items (g.F.Shelf.disk c.give_back.new.shelf)
    (g.F.Shelf.disk_faults c.give_back.new.shelf) c.close-journals.result.items
left g c =
    are_left (record { are = c.in-Ok-open_journals.ensures.opened; differ = c.law_journals_differ.ensures; distinct = c.requires.names })
    c.put_together-all.result.0.items
    (rw (c.take_apart-journals.ensures.others, c.take_apart-journals.ensures.names) at c.put_together-all.ensures.names)
    (rw c.take_apart-journals.ensures.others at c.put_together-all.ensures.disks) c.give_back.ensures.back
    (λ counts all. rw c.close-journals.ensures.same
    (c.serve_door-end.ensures.counted counts (rw (c.new-book.ensures, c.take_apart-journals.ensures.journals) all)))
    (λ told disks all. rw c.close-journals.ensures.same
    (c.serve_door-end.ensures.lasts told (header_bytes c.args.header.now) disks (rw (c.new-book.ensures, c.take_apart-journals.ensures.journals) all)))

returned : (g : Over) (c : After-end_of g)
    → AllReturned (registered_journals c.args.directory.now c.args.users.now) (g.F.Shelf.disk c.args.shelf.now) (g.F.Shelf.disk c.give_back.new.shelf)
    (g.F.Shelf.is_out c.give_back.new.shelf) (g.F.Shelf.disk_faults c.args.shelf.now) (g.F.Shelf.disk_faults c.give_back.new.shelf)
returned g c =
    let given = c.give_back.ensures in
    left_returned (left g c) {all = c.put_together-all.result.0.items}
    (rw (c.take_apart-journals.ensures.others, c.take_apart-journals.ensures.names) at c.put_together-all.ensures.names)
    c.in-Ok-open_journals.ensures.out c.open_journals.ensures.disks c.in-Ok-open_journals.ensures.counts
    (record { back = given.back; inside = given.inside; others_out = given.others_out; disks = given.disks; counts = given.counts })

pub returns-clause-disks : goal.returns-clause-disks
returns-clause-disks g c = (returned g c).disks

pub returns-clause-inside : goal.returns-clause-inside
returns-clause-inside g c = (returned g c).inside

pub returns-clause-counts : goal.returns-clause-counts
returns-clause-counts g c = (returned g c).counts

pub returns-clause-other_counts : goal.returns-clause-other_counts
returns-clause-other_counts g c = (returned g c).other_counts

pub returns-clause-serves : goal.returns-clause-serves
returns-clause-serves g c shelf_told door_told =
    let disk_told = g.met.F.Shelf.tells_disks shelf_told in
    let reads = g.F.D.Disk.reads in
    let served = c.serve_door-end.ensures.served door_told disk_told in
    rw c.end_of.ensures
    (serves_at c.refusals_of-refusals.result c.put_together-all.result.1 c.serve_door-end.result.1 c.args.header.now
    (journals_on g.F.Shelf g.F.D.Disk c.args.directory.now c.args.shelf.now c.give_back.new.shelf) c.args.users.now (g.O.Door.given c.args.door.now)
    (g.O.Door.given c.serve_door-end.new.door) (g.O.Door.back c.args.door.now) (g.O.Door.back c.serve_door-end.new.door) c.serve_door-end.result.0
    (map (copy_in reads) c.serve_door-end.new.book.journals.items) served.ends
    (record {
      first = map (copy_in reads) c.new-book.result.journals.items;
      copies = rw (
        c.refusals_of-refusals.ensures,
        c.as_slice.ensures.value,
        c.new-book.ensures,
        c.take_apart-journals.ensures.journals,
        ← c.close-journals.ensures.same,
      )
          (left_served (left g c) shelf_told disk_told g.met.F.D.Disk.counts_now g.met.F.D.Disk.only_now
          (λ (held : Held _ _) whole. held.journal.counted whole disk_told)
          (still_named g (goal.at.returns-clause-serves g c).After-close-journals));
      visits = served.visits;
      served = served.served;
      back_is = served.back_is;
      given_is = served.given_is;
    })
    (c.put_together-all.ensures.broken ∙ ap (λ (v : Vec (Held _ _) Global). has_broken v.items) c.close-journals.ensures.same
    ∙ failed_same reads c.serve_door-end.new.book.journals.items) served.wanted)

pub returns-clause-journals : goal.returns-clause-journals
returns-clause-journals g c shelf_told =
    rw c.end_of.ensures
    (leaves_at c.refusals_of-refusals.result c.put_together-all.result.1 c.serve_door-end.result.1 (header_bytes c.args.header.now)
    (journals_on g.F.Shelf g.F.D.Disk c.args.directory.now c.args.shelf.now c.give_back.new.shelf) c.args.users.now c.serve_door-end.result.0
    (rw (c.refusals_of-refusals.ensures, c.as_slice.ensures.value)
    (left_copied (left g c) shelf_told (g.met.F.Shelf.tells_disks shelf_told) g.met.F.D.Disk.counts_now g.met.F.D.Disk.only_now))
    (λ broken. left_failed (left g c) (sym c.put_together-all.ensures.broken ∙ broken)))

pub returns-clause-disk_cause : goal.returns-clause-disk_cause
returns-clause-disk_cause g c broken =
    left_rose (left g c) (sym c.put_together-all.ensures.broken
    ∙ broken_at c.refusals_of-refusals.result c.put_together-all.result.1 c.serve_door-end.result.1 c.serve_door-end.result.0
    (subst IsBroken c.end_of.ensures broken))

pub returns-clause-journal_cause : goal.returns-clause-journal_cause
returns-clause-journal_cause g c said =
    some_faulted c.args.directory.now (header_bytes c.args.header.now) g.F.Shelf.tells g.F.D.Disk (g.F.Shelf.disk c.args.shelf.now)
    (g.F.Shelf.disk c.give_back.new.shelf) (g.F.Shelf.disk_faults c.args.shelf.now) (g.F.Shelf.disk_faults c.give_back.new.shelf) c.args.users.now
    c.in-Ok-open_journals.places.items c.in-Ok-open_journals.ensures.opened (left g c).back.others
    (subst SomeFaulted (c.refusals_of-refusals.ensures ∙ ap (map place_refusal) c.as_slice.ensures.value)
    (faulted_at c.refusals_of-refusals.result c.put_together-all.result.1 c.serve_door-end.result.1 c.serve_door-end.result.0
    (subst IsDiskRefusal c.end_of.ensures said)))

pub returns-clause-ended : goal.returns-clause-ended
returns-clause-ended g c door_told done =
    ended_at c.refusals_of-refusals.result c.put_together-all.result.1 c.serve_door-end.result.1 c.serve_door-end.result.0 _ _
    (c.serve_door-end.ensures.none_left door_told) (c.serve_door-end.ensures.reached door_told) (subst HasListened c.end_of.ensures done)

pub returns-clause-failed : goal.returns-clause-failed
returns-clause-failed g c is =
    c.serve_door-end.ensures.failed
    (failed_at c.refusals_of-refusals.result c.put_together-all.result.1 c.serve_door-end.result.1 c.serve_door-end.result.0 (sym c.end_of.ensures ∙ is))

pub returns-clause-shelf_later : goal.returns-clause-shelf_later
returns-clause-shelf_later g c = omega (arith, c.open_journals.ensures.later, c.give_back.ensures.faults)
