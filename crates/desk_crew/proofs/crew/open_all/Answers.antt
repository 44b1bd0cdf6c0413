use Rattle.std.proofs.Common.{◌≡◌, ◌+◌, length, refl, sym, ap, subst, ◌∙◌, arith}
use Rattle.std.specs.Prelude.{Err}
use Rattle.std.proofs.lemmas.List.{take_all}
use Rattle.outside.proofs.Rises.{rose_wide}
use Rattle.outside.proofs.Taken.{same_moments}
use Rattle.outside.specs.Shelf.{Lent, is_among, AreOut}
use Rattle.log_journal.specs.Opening.{header_bytes}
use Rattle.desk_crew.specs.Registered.{registered_journals}
use Rattle.desk_crew.specs.Shelved.{journals, AreOwn}
use Rattle.desk_crew.specs.Side.{IsOwn, OpeningsOwn}
use Rattle.desk_crew.specs.declared.crew.NotOpened.TheVariants.{Shelf}
use Rattle.desk_crew.proofs.Giving.{CanPutBack, AreUnopened}
use Rattle.desk_crew.proofs.Owning.{all_more, seated_own}
use Rattle.desk_crew.proofs.Taking.{Taken, taken_none, taken_still, taken_can, taken_placed, taken_beside, taken_back, next_in, taken_more}
use Rattle.desk_crew.proofs.Taking.{taken_many, taken_ready, seated_all, seated_names}
use Rattle.desk_crew.proofs.crew.open_all.Given.{Over}
use Rattle.desk_crew.proofs.crew.open_all.Goals as goal
use Rattle.desk_crew.proofs.crew.open_all.Goals.{After-return_all, In-Err, In-None}

pub returns-in_default-clause-refused_moments : goal.returns-in_default-clause-refused_moments
returns-in_default-clause-refused_moments g c = λ told.
    same_moments g.F.D.Disk (g.met.F.D.Disk g.world.𝓛 g.world.𝓜 g.world.𝓡 ((λ s x. x), (λ x. x), (λ x. x), λ x. x)).only_now
    (g.F.Shelf.disk c.args.shelf.now) (g.F.Shelf.disk c.args.shelf.now) (λ name. refl)

pub returns-in_default-clause-refused_there : goal.returns-in_default-clause-refused_there
returns-in_default-clause-refused_there g c = λ told tells name there. there

pub take_one-requires : goal.take_one-requires
take_one-requires g c =
    next_in c.args.registry.now.directory.now g.F.Shelf.tells g.F.D.Disk (g.F.Shelf.disk c.args.shelf.now) (g.F.Shelf.disk_faults c.args.shelf.now)
    c.law_journals_differ.ensures c.args.registry.now.users.now c.requires.distinct c.loop-user.user-index c.loop-user.openings.items
    (g.F.Shelf.disk c.loop-user.shelf) (g.F.Shelf.is_out c.loop-user.shelf) (g.F.Shelf.disk_faults c.loop-user.shelf) c.loop-user.invariant.taken
    c.user-item.result c.loop-user-test.true c.user-item.is

-- ---- a journal wasn't taken

-- the shelf is as it was
still : (g : Over) (c : In-Err g)
    → Taken c.args.registry.now.directory.now g.F.Shelf.tells g.F.D.Disk (g.F.Shelf.disk c.args.shelf.now) (g.F.Shelf.disk_faults c.args.shelf.now)
    c.args.registry.now.users.now c.loop-user.user-index c.loop-user.openings.items (g.F.Shelf.disk c.take_one.new.shelf)
    (g.F.Shelf.is_out c.take_one.new.shelf) (g.F.Shelf.disk_faults c.take_one.new.shelf)
still g c =
    taken_still c.args.registry.now.directory.now g.F.Shelf.tells g.F.D.Disk (g.F.Shelf.disk c.args.shelf.now) (g.F.Shelf.disk_faults c.args.shelf.now)
    c.args.registry.now.users.now c.loop-user.user-index c.loop-user.openings.items (g.F.Shelf.disk c.loop-user.shelf)
    (g.F.Shelf.disk c.take_one.new.shelf) (g.F.Shelf.is_out c.loop-user.shelf) (g.F.Shelf.is_out c.take_one.new.shelf)
    (g.F.Shelf.disk_faults c.loop-user.shelf) (g.F.Shelf.disk_faults c.take_one.new.shelf) c.loop-user.invariant.taken c.in-Err.ensures.refused_disks
    c.in-Err.ensures.refused_out c.in-Err.ensures.counts

can : (g : Over) (c : In-Err g)
    → CanPutBack g.F.D.Disk c.loop-user.openings.items (g.F.Shelf.is_out c.take_one.new.shelf) (g.F.Shelf.disk_faults c.take_one.new.shelf)
can g c =
    taken_can c.args.registry.now.directory.now g.F.Shelf.tells g.F.D.Disk (g.F.Shelf.disk c.args.shelf.now) (g.F.Shelf.disk_faults c.args.shelf.now)
    c.law_journals_differ.ensures c.args.registry.now.users.now c.requires.distinct c.loop-user.user-index c.loop-user.openings.items
    (g.F.Shelf.disk c.take_one.new.shelf) (g.F.Shelf.is_out c.take_one.new.shelf) (g.F.Shelf.disk_faults c.take_one.new.shelf) (still g c)

pub return_all-requires-clause-placed : goal.return_all-requires-clause-placed
return_all-requires-clause-placed g c =
    taken_placed c.args.registry.now.directory.now g.F.Shelf.tells g.F.D.Disk (g.F.Shelf.disk c.args.shelf.now) (g.F.Shelf.disk_faults c.args.shelf.now)
    c.law_journals_differ.ensures c.args.registry.now.users.now c.requires.distinct c.loop-user.user-index c.loop-user.openings.items
    (g.F.Shelf.disk c.take_one.new.shelf) (g.F.Shelf.is_out c.take_one.new.shelf) (g.F.Shelf.disk_faults c.take_one.new.shelf)
    (still g (goal.at.return_all-requires-clause-placed g c).In-Err)

pub return_all-requires-clause-distinct : goal.return_all-requires-clause-distinct
return_all-requires-clause-distinct g c = (can g (goal.at.return_all-requires-clause-distinct g c).In-Err).distinct

pub return_all-requires-clause-out : goal.return_all-requires-clause-out
return_all-requires-clause-out g c = (can g (goal.at.return_all-requires-clause-out g c).In-Err).out

pub return_all-requires-clause-later : goal.return_all-requires-clause-later
return_all-requires-clause-later g c = (can g (goal.at.return_all-requires-clause-later g c).In-Err).later

pub return_all-requires-clause-own : goal.return_all-requires-clause-own
return_all-requires-clause-own g c =
    subst (λ (l : Lent). OpeningsOwn g.F.D.Disk.origin l.origin c.loop-user.openings.items)
    (sym (c.take_one.ensures.lent ∙ c.loop-user.invariant.lent)) c.loop-user.invariant.own

-- and then all disks are as they were
left : (g : Over) (c : After-return_all g)
    → Taken c.args.registry.now.directory.now g.F.Shelf.tells g.F.D.Disk (g.F.Shelf.disk c.args.shelf.now) (g.F.Shelf.disk_faults c.args.shelf.now)
    c.args.registry.now.users.now c.loop-user.user-index c.loop-user.openings.items (g.F.Shelf.disk c.take_one.new.shelf)
    (g.F.Shelf.is_out c.take_one.new.shelf) (g.F.Shelf.disk_faults c.take_one.new.shelf)
    → AreUnopened g.F.Shelf.tells g.F.D.Disk (registered_journals c.args.registry.now.directory.now c.args.registry.now.users.now)
    (g.F.Shelf.disk c.args.shelf.now) (g.F.Shelf.disk c.return_all.new.shelf) (g.F.Shelf.is_out c.return_all.new.shelf)
    (g.F.Shelf.disk_faults c.args.shelf.now) (g.F.Shelf.disk_faults c.return_all.new.shelf)
left g c as_it_was =
    let given = c.return_all.ensures in
    taken_back c.args.registry.now.directory.now g.F.Shelf.tells g.F.D.Disk (g.F.Shelf.disk c.args.shelf.now) (g.F.Shelf.disk_faults c.args.shelf.now)
    c.law_journals_differ.ensures c.args.registry.now.users.now c.requires.distinct c.loop-user.user-index c.loop-user.openings.items
    (g.F.Shelf.disk c.take_one.new.shelf) (g.F.Shelf.is_out c.take_one.new.shelf) (g.F.Shelf.disk_faults c.take_one.new.shelf)
    as_it_was
    (g.met.F.D.Disk g.world.𝓛 g.world.𝓜 g.world.𝓡 ((λ s x. x), (λ x. x), (λ x. x), λ x. x)).only_now
    (g.F.Shelf.disk c.return_all.new.shelf) (g.F.Shelf.is_out c.return_all.new.shelf) (g.F.Shelf.disk_faults c.return_all.new.shelf)
    (record { back = given.back; inside = given.inside; others_out = given.others_out; disks = given.disks; counts = given.counts })

pub returns-in-Err-clause-refused_out : goal.returns-in-Err-clause-refused_out
returns-in-Err-clause-refused_out g c =
    let at = goal.at.returns-in-Err-clause-refused_out g c in
    (left g at.After-return_all (still g at.In-Err)).inside

pub returns-in-Err-clause-refused_bytes : goal.returns-in-Err-clause-refused_bytes
returns-in-Err-clause-refused_bytes g c =
    let at = goal.at.returns-in-Err-clause-refused_bytes g c in
    λ told name. ((left g at.After-return_all (still g at.In-Err)).same told name).0

pub returns-in-Err-clause-refused_images : goal.returns-in-Err-clause-refused_images
returns-in-Err-clause-refused_images g c =
    let at = goal.at.returns-in-Err-clause-refused_images g c in
    λ told name. ((left g at.After-return_all (still g at.In-Err)).same told name).1

pub returns-in-Err-clause-refused_moments : goal.returns-in-Err-clause-refused_moments
returns-in-Err-clause-refused_moments g c =
    let at = goal.at.returns-in-Err-clause-refused_moments g c in
    λ told name. ((left g at.After-return_all (still g at.In-Err)).same told name).2

pub returns-in-Err-clause-refused_there : goal.returns-in-Err-clause-refused_there
returns-in-Err-clause-refused_there g c =
    let at = goal.at.returns-in-Err-clause-refused_there g c in
    λ told tells name. ((left g at.After-return_all (still g at.In-Err)).same told name).3 tells

pub returns-in-Err-clause-disks : goal.returns-in-Err-clause-disks
returns-in-Err-clause-disks g c =
    let at = goal.at.returns-in-Err-clause-disks g c in
    (left g at.After-return_all (still g at.In-Err)).disks

pub returns-in-Err-clause-other_counts : goal.returns-in-Err-clause-other_counts
returns-in-Err-clause-other_counts g c =
    let at = goal.at.returns-in-Err-clause-other_counts g c in
    (left g at.After-return_all (still g at.In-Err)).other_counts

pub returns-in-Err-clause-fell : goal.returns-in-Err-clause-fell
returns-in-Err-clause-fell g c =
    let at = goal.at.returns-in-Err-clause-fell g c in
    (left g at.After-return_all (still g at.In-Err)).counts

pub returns-in-Err-clause-cause : goal.returns-in-Err-clause-cause
returns-in-Err-clause-cause g c = λ is.
    let same = c.return_all.ensures.faults in
    rose_wide (g.F.Shelf.faults c.args.shelf.now) (g.F.Shelf.faults c.loop-user.shelf) (g.F.Shelf.faults c.take_one.new.shelf)
    (g.F.Shelf.faults c.return_all.new.shelf) c.loop-user.invariant.later (omega (arith, same))
    (c.in-Err.ensures.cause (let same : c.in-Err.why ≡ Shelf = cc in ap Err same))

-- ---- the loop

pub loop-user-preserved : goal.loop-user-preserved
loop-user-preserved g c =
    let so_far = c.loop-user.invariant in
    let grown = c.push_reserved.ensures.len in
    let space = c.push_reserved.ensures.capacity in
    let room = so_far.room in
    let count = so_far.count in
    let before = so_far.later in
    let on = c.in-Ok.ensures.later in
    record {
      taken = subst (λ l.
          Taken c.args.registry.now.directory.now g.F.Shelf.tells g.F.D.Disk (g.F.Shelf.disk c.args.shelf.now) (g.F.Shelf.disk_faults c.args.shelf.now)
          c.args.registry.now.users.now (c.loop-user.user-index + 1) l (g.F.Shelf.disk c.take_one.new.shelf) (g.F.Shelf.is_out c.take_one.new.shelf)
          (g.F.Shelf.disk_faults c.take_one.new.shelf)) (sym c.push_reserved.ensures.items)
          (taken_more c.args.registry.now.directory.now g.F.Shelf.tells g.F.D.Disk (g.F.Shelf.disk c.args.shelf.now)
          (g.F.Shelf.disk_faults c.args.shelf.now) c.law_journals_differ.ensures c.args.registry.now.users.now c.requires.distinct
          c.loop-user.user-index c.loop-user.openings.items (g.F.Shelf.disk c.loop-user.shelf) (g.F.Shelf.is_out c.loop-user.shelf)
          (g.F.Shelf.disk_faults c.loop-user.shelf) so_far.taken c.user-item.result c.loop-user-test.true c.user-item.is
          c.in-Ok.opening (g.F.Shelf.disk c.take_one.new.shelf) (g.F.Shelf.is_out c.take_one.new.shelf) (g.F.Shelf.disk_faults c.take_one.new.shelf)
          c.in-Ok.ensures.taken c.in-Ok.ensures.out c.in-Ok.ensures.others_out c.in-Ok.ensures.disks c.in-Ok.ensures.counts);
      room = omega (arith, room, space);
      count = omega (arith, count, grown);
      later = omega (arith, before, on);
      looked = c.take_one.ensures.looked ∙ so_far.looked;
      own = subst (OpeningsOwn g.F.D.Disk.origin (g.F.Shelf.lent c.args.shelf.now).origin) (sym c.push_reserved.ensures.items)
          (all_more (IsOwn g.F.D.Disk.origin (g.F.Shelf.lent c.args.shelf.now).origin) c.loop-user.openings.items c.in-Ok.opening so_far.own
          (subst (λ (l : Lent). IsOwn g.F.D.Disk.origin l.origin c.in-Ok.opening) so_far.lent c.in-Ok.ensures.own));
      lent = c.take_one.ensures.lent ∙ so_far.lent;
      files = λ name. c.take_one.ensures.files name ∙ so_far.files name;
    }

pub loop-user-init : goal.loop-user-init
loop-user-init g c =
    let len = c.in-Ok-Ok.empty.ok.0 in
    let none = ap length c.in-Ok-Ok.ensures.empty in
    let room = c.in-Ok-Ok.ensures.room in
    record {
      taken = taken_none c.args.registry.now.directory.now g.F.Shelf.tells g.F.D.Disk (g.F.Shelf.disk c.args.shelf.now)
          (g.F.Shelf.disk_faults c.args.shelf.now) c.args.registry.now.users.now c.in-Ok-Ok.empty.items (g.F.Shelf.is_out c.args.shelf.now)
          c.in-Ok-Ok.ensures.empty c.requires.inside;
      room = omega (arith, room);
      count = omega (arith, len, none);
      later = omega arith;
      looked = refl;
      own = subst (OpeningsOwn g.F.D.Disk.origin (g.F.Shelf.lent c.args.shelf.now).origin) (sym c.in-Ok-Ok.ensures.empty) tt;
      lent = refl;
      files = λ name. refl;
    }

-- ---- all journals are taken

pub open_taken-requires-clause-limits : goal.open_taken-requires-clause-limits
open_taken-requires-clause-limits g c κs within =
    (taken_ready c.args.registry.now.schema.now c.args.registry.now.world.now (header_bytes c.args.registry.now.header.now)
    c.args.registry.now.directory.now g.F.Shelf.tells g.F.D.Disk (g.F.Shelf.disk c.args.shelf.now)
    (g.F.Shelf.disk_faults c.args.shelf.now) c.law_journals_differ.ensures c.requires.distinct c.loop-user.invariant.taken
    (take_all c.loop-user.user-index c.args.registry.now.users.now (omega (arith, c.loop-user-test.false))) c.requires.limits).limits

pub open_taken-requires-clause-known : goal.open_taken-requires-clause-known
open_taken-requires-clause-known g c κs within =
    (taken_ready c.args.registry.now.schema.now c.args.registry.now.world.now (header_bytes c.args.registry.now.header.now)
    c.args.registry.now.directory.now g.F.Shelf.tells g.F.D.Disk (g.F.Shelf.disk c.args.shelf.now)
    (g.F.Shelf.disk_faults c.args.shelf.now) c.law_journals_differ.ensures c.requires.distinct c.loop-user.invariant.taken
    (take_all c.loop-user.user-index c.args.registry.now.users.now (omega (arith, c.loop-user-test.false))) c.requires.limits).known

pub open_taken-requires-clause-closed : goal.open_taken-requires-clause-closed
open_taken-requires-clause-closed g c κs within =
    (taken_ready c.args.registry.now.schema.now c.args.registry.now.world.now (header_bytes c.args.registry.now.header.now)
    c.args.registry.now.directory.now g.F.Shelf.tells g.F.D.Disk (g.F.Shelf.disk c.args.shelf.now)
    (g.F.Shelf.disk_faults c.args.shelf.now) c.law_journals_differ.ensures c.requires.distinct c.loop-user.invariant.taken
    (take_all c.loop-user.user-index c.args.registry.now.users.now (omega (arith, c.loop-user-test.false))) c.requires.limits).closed

pub open_taken-requires-clause-distinct : goal.open_taken-requires-clause-distinct
open_taken-requires-clause-distinct g c κs within =
    (taken_ready c.args.registry.now.schema.now c.args.registry.now.world.now (header_bytes c.args.registry.now.header.now)
    c.args.registry.now.directory.now g.F.Shelf.tells g.F.D.Disk (g.F.Shelf.disk c.args.shelf.now)
    (g.F.Shelf.disk_faults c.args.shelf.now) c.law_journals_differ.ensures c.requires.distinct c.loop-user.invariant.taken
    (take_all c.loop-user.user-index c.args.registry.now.users.now (omega (arith, c.loop-user-test.false))) c.requires.limits).can.distinct

pub open_taken-requires-clause-out : goal.open_taken-requires-clause-out
open_taken-requires-clause-out g c κs within =
    (taken_ready c.args.registry.now.schema.now c.args.registry.now.world.now (header_bytes c.args.registry.now.header.now)
    c.args.registry.now.directory.now g.F.Shelf.tells g.F.D.Disk (g.F.Shelf.disk c.args.shelf.now)
    (g.F.Shelf.disk_faults c.args.shelf.now) c.law_journals_differ.ensures c.requires.distinct c.loop-user.invariant.taken
    (take_all c.loop-user.user-index c.args.registry.now.users.now (omega (arith, c.loop-user-test.false))) c.requires.limits).can.out

pub open_taken-requires-clause-later : goal.open_taken-requires-clause-later
open_taken-requires-clause-later g c κs within =
    (taken_ready c.args.registry.now.schema.now c.args.registry.now.world.now (header_bytes c.args.registry.now.header.now)
    c.args.registry.now.directory.now g.F.Shelf.tells g.F.D.Disk (g.F.Shelf.disk c.args.shelf.now)
    (g.F.Shelf.disk_faults c.args.shelf.now) c.law_journals_differ.ensures c.requires.distinct c.loop-user.invariant.taken
    (take_all c.loop-user.user-index c.args.registry.now.users.now (omega (arith, c.loop-user-test.false))) c.requires.limits).can.later

pub open_taken-requires-clause-own : goal.open_taken-requires-clause-own
open_taken-requires-clause-own g c κs within =
    subst (λ (l : Lent). OpeningsOwn g.F.D.Disk.origin l.origin c.loop-user.openings.items) (sym c.loop-user.invariant.lent) c.loop-user.invariant.own

pub open_taken-requires-clause-room : goal.open_taken-requires-clause-room
open_taken-requires-clause-room g c κs within =
    let many = taken_many c.args.registry.now.schema.now c.args.registry.now.world.now (header_bytes c.args.registry.now.header.now)
    c.args.registry.now.directory.now g.F.Shelf.tells g.F.D.Disk (g.F.Shelf.disk c.args.shelf.now)
    (g.F.Shelf.disk_faults c.args.shelf.now) c.law_journals_differ.ensures c.requires.distinct c.loop-user.invariant.taken
    (take_all c.loop-user.user-index c.args.registry.now.users.now (omega (arith, c.loop-user-test.false))) in
    let room = c.in-Ok-Ok.ensures'.room in
    omega (arith, many, room)

pub returns-in-Some-clause-opened : goal.returns-in-Some-clause-opened
returns-in-Some-clause-opened g c =
    seated_all c.args.registry.now.schema.now c.args.registry.now.world.now (header_bytes c.args.registry.now.header.now)
    c.args.registry.now.directory.now g.F.Shelf.tells g.F.D.Disk (g.F.Shelf.disk c.args.shelf.now)
    (g.F.Shelf.disk_faults c.args.shelf.now) c.law_journals_differ.ensures c.requires.distinct c.loop-user.invariant.taken
    (take_all c.loop-user.user-index c.args.registry.now.users.now (omega (arith, c.loop-user-test.false))) c.in-Some.seats.items c.in-Some.ensures.opened

pub returns-in-Some-clause-own : goal.returns-in-Some-clause-own
returns-in-Some-clause-own g c =
    let ready = taken_ready c.args.registry.now.schema.now c.args.registry.now.world.now (header_bytes c.args.registry.now.header.now)
    c.args.registry.now.directory.now g.F.Shelf.tells g.F.D.Disk (g.F.Shelf.disk c.args.shelf.now)
    (g.F.Shelf.disk_faults c.args.shelf.now) c.law_journals_differ.ensures c.requires.distinct c.loop-user.invariant.taken
    (take_all c.loop-user.user-index c.args.registry.now.users.now (omega (arith, c.loop-user-test.false))) c.requires.limits in
    subst (λ (l : Lent). AreOwn g.F.D.Disk.origin l.origin c.in-Some.seats.items) (sym (c.open_taken.ensures.lent ∙ c.loop-user.invariant.lent))
    (seated_own g.F.D.Disk (g.F.Shelf.lent c.args.shelf.now).origin c.args.registry.now.schema.now c.args.registry.now.world.now
    (header_bytes c.args.registry.now.header.now) c.loop-user.openings.items c.in-Some.seats.items ready.closed c.in-Some.ensures.opened
    c.loop-user.invariant.own)

pub returns-in-Some-clause-out : goal.returns-in-Some-clause-out
returns-in-Some-clause-out g c =
    let names = seated_names c.args.registry.now.schema.now c.args.registry.now.world.now (header_bytes c.args.registry.now.header.now)
    c.args.registry.now.directory.now g.F.Shelf.tells g.F.D.Disk (g.F.Shelf.disk c.args.shelf.now)
    (g.F.Shelf.disk_faults c.args.shelf.now) c.law_journals_differ.ensures c.requires.distinct c.loop-user.invariant.taken
    (take_all c.loop-user.user-index c.args.registry.now.users.now (omega (arith, c.loop-user-test.false))) c.in-Some.seats.items c.in-Some.ensures.opened in
    subst (λ s. AreOut (journals c.in-Some.seats.items) (g.F.Shelf.is_out s)) (sym c.in-Some.ensures.untouched)
    (λ name. c.loop-user.invariant.taken.out name ∙ ap (λ ns. is_among ns name) (sym names))

pub returns-in-Some-clause-disks : goal.returns-in-Some-clause-disks
returns-in-Some-clause-disks g c = λ name none.
    let so_far = c.loop-user.invariant.taken in
    ap (λ s. g.F.Shelf.disk s name) c.in-Some.ensures.untouched
    ∙ so_far.disks name (taken_beside c.args.registry.now.directory.now g.F.Shelf.tells g.F.D.Disk (g.F.Shelf.disk c.args.shelf.now)
    (g.F.Shelf.disk_faults c.args.shelf.now) c.law_journals_differ.ensures c.args.registry.now.users.now c.requires.distinct c.loop-user.user-index
    c.loop-user.openings.items (g.F.Shelf.disk c.loop-user.shelf) (g.F.Shelf.is_out c.loop-user.shelf) (g.F.Shelf.disk_faults c.loop-user.shelf)
    so_far name none)

pub returns-in-Some-clause-counts : goal.returns-in-Some-clause-counts
returns-in-Some-clause-counts g c = λ name.
    ap (λ s. g.F.Shelf.disk_faults s name) c.in-Some.ensures.untouched ∙ c.loop-user.invariant.taken.counts name

pub returns-in-Some-clause-other_counts : goal.returns-in-Some-clause-other_counts
returns-in-Some-clause-other_counts g c = λ name none.
    ap (λ s. g.F.Shelf.disk_faults s name) c.in-Some.ensures.untouched ∙ c.loop-user.invariant.taken.counts name

pub returns-in-Some-clause-fell : goal.returns-in-Some-clause-fell
returns-in-Some-clause-fell g c = λ name.
    let same = ap (λ s. g.F.Shelf.disk_faults s name) c.in-Some.ensures.untouched ∙ c.loop-user.invariant.taken.counts name in
    omega (arith, same)

-- ---- memory was wanting at one of them, and all disks are as they were

unopened : (g : Over) (c : In-None g)
    → AreUnopened g.F.Shelf.tells g.F.D.Disk (registered_journals c.args.registry.now.directory.now c.args.registry.now.users.now)
    (g.F.Shelf.disk c.args.shelf.now) (g.F.Shelf.disk c.open_taken.new.shelf) (g.F.Shelf.is_out c.open_taken.new.shelf)
    (g.F.Shelf.disk_faults c.args.shelf.now) (g.F.Shelf.disk_faults c.open_taken.new.shelf)
unopened g c =
    let given = c.in-None.ensures in
    taken_back c.args.registry.now.directory.now g.F.Shelf.tells g.F.D.Disk (g.F.Shelf.disk c.args.shelf.now) (g.F.Shelf.disk_faults c.args.shelf.now)
    c.law_journals_differ.ensures c.args.registry.now.users.now c.requires.distinct c.loop-user.user-index c.loop-user.openings.items
    (g.F.Shelf.disk c.loop-user.shelf) (g.F.Shelf.is_out c.loop-user.shelf) (g.F.Shelf.disk_faults c.loop-user.shelf) c.loop-user.invariant.taken
    (g.met.F.D.Disk g.world.𝓛 g.world.𝓜 g.world.𝓡 ((λ s x. x), (λ x. x), (λ x. x), λ x. x)).only_now
    (g.F.Shelf.disk c.open_taken.new.shelf) (g.F.Shelf.is_out c.open_taken.new.shelf) (g.F.Shelf.disk_faults c.open_taken.new.shelf)
    (record { back = given.back; inside = given.inside; others_out = given.others_out; disks = given.disks; counts = given.counts })

pub returns-in-None-clause-refused_out : goal.returns-in-None-clause-refused_out
returns-in-None-clause-refused_out g c = (unopened g c).inside

pub returns-in-None-clause-refused_bytes : goal.returns-in-None-clause-refused_bytes
returns-in-None-clause-refused_bytes g c = λ told name. ((unopened g c).same told name).0

pub returns-in-None-clause-refused_images : goal.returns-in-None-clause-refused_images
returns-in-None-clause-refused_images g c = λ told name. ((unopened g c).same told name).1

pub returns-in-None-clause-refused_moments : goal.returns-in-None-clause-refused_moments
returns-in-None-clause-refused_moments g c = λ told name. ((unopened g c).same told name).2

pub returns-in-None-clause-refused_there : goal.returns-in-None-clause-refused_there
returns-in-None-clause-refused_there g c = λ told tells name. ((unopened g c).same told name).3 tells

pub returns-in-None-clause-disks : goal.returns-in-None-clause-disks
returns-in-None-clause-disks g c = (unopened g c).disks

pub returns-in-None-clause-other_counts : goal.returns-in-None-clause-other_counts
returns-in-None-clause-other_counts g c = (unopened g c).other_counts

pub returns-in-None-clause-fell : goal.returns-in-None-clause-fell
returns-in-None-clause-fell g c = (unopened g c).counts
