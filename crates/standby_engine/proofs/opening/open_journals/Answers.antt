use Rattle.std.proofs.Common.{◌≡◌, ◌∙◌, length, refl, sym, ap, subst, arith}
use Rattle.std.specs.Prelude.{Err}
use Rattle.outside.specs.Shelf.{Lent}
use Rattle.outside.proofs.Rises.{rose_wide}
use Rattle.cqe_base.specs.Schema.{has_duplicate}
use Rattle.desk_crew.specs.Registered.{registered_journals}
use Rattle.standby_engine.specs.Opened.{place_journal, AreOwn, PlacesOwn}
use Rattle.standby_engine.proofs.Owning.{place_more, own_disks}
use Rattle.standby_engine.specs.declared.opening.NotOpened.TheVariants.{Shelf}
use Rattle.standby_engine.proofs.Places.{NoneOpened, opening_none, opening_distinct, opening_out, opening_beside}
use Rattle.standby_engine.proofs.Places.{opening_all, opening_in, opening_more, opening_back}
use Rattle.standby_engine.proofs.Returning.{stays_same}
use Rattle.standby_engine.proofs.opening.open_journals.Given.{Over}
use Rattle.standby_engine.proofs.opening.open_journals.Goals as goal
use Rattle.standby_engine.proofs.opening.open_journals.Goals.{After-give_back}

pub returns-in_default-clause-refused : goal.returns-in_default-clause-refused
returns-in_default-clause-refused g c = λ told.
    stays_same g.F.D.Disk g.met.F.D.Disk.only_now (g.F.Shelf.disk c.args.shelf.now) (g.F.Shelf.disk c.args.shelf.now) (λ name. refl)

pub returns-in_default-clause-fell : goal.returns-in_default-clause-fell
returns-in_default-clause-fell g c name = omega arith

pub open_one-requires : goal.open_one-requires
open_one-requires g c =
    opening_in c.loop-user.invariant.opening c.law_journals_differ.ensures c.requires.distinct c.loop-user-test.true c.user-item.is

-- ---- a journal wasn't opened

pub disks_of-back-requires-clause-room : goal.disks_of-back-requires-clause-room
disks_of-back-requires-clause-room g c =
    omega (arith, c.in-Ok-Ok.ensures'.room, c.loop-user.invariant.count, c.loop-user.places.ok.0, c.loop-user-test.true)

pub give_back-requires-clause-distinct : goal.give_back-requires-clause-distinct
give_back-requires-clause-distinct g c =
    ap has_duplicate c.disks_of-back.ensures.names
    ∙ opening_distinct c.loop-user.invariant.opening c.law_journals_differ.ensures c.requires.distinct

pub give_back-requires-clause-out : goal.give_back-requires-clause-out
give_back-requires-clause-out g c =
    rw c.disks_of-back.ensures.names
    (opening_out c.loop-user.invariant.opening c.law_journals_differ.ensures c.requires.distinct (g.F.Shelf.is_out c.open_one.new.shelf)
    c.in-Err.ensures.refused_out)

pub give_back-requires-clause-own : goal.give_back-requires-clause-own
give_back-requires-clause-own g c =
    subst (λ (l : Lent). AreOwn g.F.D.Disk.origin l.origin c.disks_of-back.result.items)
    (sym (c.open_one.ensures.lent ∙ c.loop-user.invariant.lent))
    (own_disks g.F.D.Disk.origin (g.F.Shelf.lent c.args.shelf.now).origin c.loop-user.places.items c.disks_of-back.result.items
    c.disks_of-back.ensures.names c.disks_of-back.ensures.disks c.loop-user.invariant.own)

-- all disks are as they were
left : (g : Over) (c : After-give_back g)
    → NoneOpened g.F.Shelf.tells g.F.D.Disk (registered_journals c.args.directory.now c.args.users.now) (g.F.Shelf.disk c.args.shelf.now)
    (g.F.Shelf.disk c.give_back.new.shelf) (g.F.Shelf.is_out c.give_back.new.shelf) (g.F.Shelf.disk_faults c.args.shelf.now)
    (g.F.Shelf.disk_faults c.give_back.new.shelf)
left g c =
    let tried = c.open_one.ensures in
    let given = c.give_back.ensures in
    opening_back c.loop-user.invariant.opening c.law_journals_differ.ensures c.requires.distinct c.loop-user-test.true c.user-item.is
    g.met.F.D.Disk.only_now (g.F.Shelf.disk c.open_one.new.shelf) (g.F.Shelf.is_out c.open_one.new.shelf) (g.F.Shelf.disk_faults c.open_one.new.shelf)
    (record {
      same = c.in-Err.ensures.refused;
      out = c.in-Err.ensures.refused_out;
      disks = tried.disks;
      fell = tried.fell;
      other_counts = tried.other_counts;
    })
    c.disks_of-back.result.items c.disks_of-back.ensures.names c.disks_of-back.ensures.disks
    (record { back = given.back; inside = given.inside; others_out = given.others_out; disks = given.disks; counts = given.counts })

pub returns-in-Err-clause-refused_out : goal.returns-in-Err-clause-refused_out
returns-in-Err-clause-refused_out g c = (left g (goal.at.returns-in-Err-clause-refused_out g c).After-give_back).inside

pub returns-in-Err-clause-disks : goal.returns-in-Err-clause-disks
returns-in-Err-clause-disks g c = (left g (goal.at.returns-in-Err-clause-disks g c).After-give_back).disks

pub returns-in-Err-clause-other_counts : goal.returns-in-Err-clause-other_counts
returns-in-Err-clause-other_counts g c = (left g (goal.at.returns-in-Err-clause-other_counts g c).After-give_back).other_counts

pub returns-in-Err-clause-fell : goal.returns-in-Err-clause-fell
returns-in-Err-clause-fell g c = (left g (goal.at.returns-in-Err-clause-fell g c).After-give_back).counts

pub returns-in-Err-clause-refused : goal.returns-in-Err-clause-refused
returns-in-Err-clause-refused g c = λ told.
    let same = (left g (goal.at.returns-in-Err-clause-refused g c).After-give_back).same told in
    (λ name. (same name).0, λ name. (same name).1, λ name. (same name).2)

pub returns-in-Err-clause-files : goal.returns-in-Err-clause-files
returns-in-Err-clause-files g c name =
    c.give_back.ensures.files name ∙ c.open_one.ensures.files name ∙ c.loop-user.invariant.files name

pub returns-in-Err-clause-cause : goal.returns-in-Err-clause-cause
returns-in-Err-clause-cause g c = λ is.
    let same = c.give_back.ensures.faults in
    rose_wide (g.F.Shelf.faults c.args.shelf.now) (g.F.Shelf.faults c.loop-user.shelf) (g.F.Shelf.faults c.open_one.new.shelf)
    (g.F.Shelf.faults c.give_back.new.shelf) c.loop-user.invariant.later (omega (arith, same))
    (c.in-Err.ensures.cause (let same : c.in-Err.why ≡ Shelf = cc in ap Err same))

-- ---- the loop

pub loop-user-preserved : goal.loop-user-preserved
loop-user-preserved g c =
    let so_far = c.loop-user.invariant in
    let tried = c.in-Ok.ensures in
    record {
      opening = rw c.push_reserved.ensures.items
          (opening_more so_far.opening c.law_journals_differ.ensures c.requires.distinct c.loop-user-test.true c.user-item.is tried.opened tried.out
          tried.others_out tried.disks tried.counts);
      room = omega (arith, so_far.room, c.push_reserved.ensures.capacity);
      count = omega (arith, so_far.count, c.push_reserved.ensures.len);
      later = omega (arith, so_far.later, tried.later);
      own = rw c.push_reserved.ensures.items
          (place_more g.F.D.Disk.origin (g.F.Shelf.lent c.args.shelf.now).origin c.loop-user.places.items c.in-Ok.place so_far.own
          (tried.own ∙ ap (λ (l : Lent). l.origin (place_journal c.in-Ok.place)) so_far.lent));
      lent = c.open_one.ensures.lent ∙ so_far.lent;
      looked = c.open_one.ensures.looked ∙ so_far.looked;
      files = λ name. c.open_one.ensures.files name ∙ so_far.files name;
    }

pub loop-user-init : goal.loop-user-init
loop-user-init g c = record {
  opening = opening_none _ _ _ _ _ _ c.in-Ok-Ok.ensures.empty c.requires.inside;
  room = omega (arith, c.in-Ok-Ok.ensures.room);
  count = omega (arith, c.in-Ok-Ok.empty.ok.0, ap length c.in-Ok-Ok.ensures.empty);
  later = omega arith;
  own = subst (PlacesOwn g.F.D.Disk.origin (g.F.Shelf.lent c.args.shelf.now).origin) (sym c.in-Ok-Ok.ensures.empty) refl;
  lent = refl;
  looked = refl;
  files = λ name. refl;
}

-- ---- all journals are opened

pub returns-clause-opened : goal.returns-clause-opened
returns-clause-opened g c =
    opening_all c.loop-user.invariant.opening c.law_journals_differ.ensures c.requires.distinct (omega (arith, c.loop-user-test.false))

pub returns-clause-own : goal.returns-clause-own
returns-clause-own g c =
    subst (λ (l : Lent). PlacesOwn g.F.D.Disk.origin l.origin c.loop-user.places.items) (sym c.loop-user.invariant.lent) c.loop-user.invariant.own

pub returns-clause-out : goal.returns-clause-out
returns-clause-out g c = c.loop-user.invariant.opening.out

pub returns-clause-counts : goal.returns-clause-counts
returns-clause-counts g c = c.loop-user.invariant.opening.counts

pub returns-clause-disks : goal.returns-clause-disks
returns-clause-disks g c = λ name none.
    c.loop-user.invariant.opening.disks name
    (opening_beside c.loop-user.invariant.opening c.law_journals_differ.ensures c.requires.distinct name none)

pub returns-clause-other_counts : goal.returns-clause-other_counts
returns-clause-other_counts g c = λ name none. c.loop-user.invariant.opening.counts name

pub returns-clause-fell : goal.returns-clause-fell
returns-clause-fell g c = λ name. omega (arith, c.loop-user.invariant.opening.counts name)
