use Rattle.std.proofs.Common.{◌≡◌, Some, sym, ap, subst, ◌∙◌, arith}
use Rattle.std.specs.Prelude.{string_bytes}
use Rattle.outside.specs.Shelf.{Lent, IsTaken}
use Rattle.standby_engine.proofs.Returning.{others_then, in_again, fell_none, stays_same, stays_given}
use Rattle.standby_engine.proofs.opening.open_named.Given.{Over}
use Rattle.standby_engine.proofs.opening.open_named.Goals as goal
use Rattle.standby_engine.proofs.opening.open_named.Goals.{After-as_str-2}

-- ---- it wasn't taken

pub returns-in-Err-Failed-clause-refused : goal.returns-in-Err-Failed-clause-refused
returns-in-Err-Failed-clause-refused g c = λ told.
    stays_same g.F.D.Disk g.met.F.D.Disk.only_now (g.F.Shelf.disk c.args.shelf.now) (g.F.Shelf.disk c.take_disk.new.self)
    c.in-Err-Failed.ensures.refused_disks

pub returns-in-Err-Failed-clause-fell : goal.returns-in-Err-Failed-clause-fell
returns-in-Err-Failed-clause-fell g c name = let same = c.take_disk.ensures.disk_faults name in omega (arith, same)

pub returns-in-Err-clause-refused : goal.returns-in-Err-clause-refused
returns-in-Err-clause-refused g c = λ told.
    stays_same g.F.D.Disk g.met.F.D.Disk.only_now (g.F.Shelf.disk c.args.shelf.now) (g.F.Shelf.disk c.take_disk.new.self)
    c.in-Err.ensures.refused_disks

pub returns-in-Err-clause-fell : goal.returns-in-Err-clause-fell
returns-in-Err-clause-fell g c name = let same = c.take_disk.ensures.disk_faults name in omega (arith, same)

-- ---- it was opened, or is refused

pub returns-then-has_memory-clause-opened : goal.returns-then-has_memory-clause-opened
returns-then-has_memory-clause-opened g c =
    let held = c.open_held-place.ensures in
    let under = c.as_str.ensures.value in
    record {
      journal_is = held.journal;
      named = held.named;
      memory = c.has_memory.ensures c.if-has_memory.true;
      taken = c.in-Ok.disk;
      from = λ told. subst (λ n. IsTaken g.F.D.Disk.reads g.F.D.Disk.image (g.F.Shelf.disk c.args.shelf.now n) c.in-Ok.disk) under
          (c.in-Ok.ensures.taken told);
      counted = c.in-Ok.ensures.count ∙ ap (g.F.Shelf.disk_faults c.args.shelf.now) under;
      opened = held.opened;
      sound = held.sound;
      only = held.only;
    }

pub returns-then-has_memory-clause-own : goal.returns-then-has_memory-clause-own
returns-then-has_memory-clause-own g c =
    c.open_held-place.ensures.origin ∙ c.in-Ok.ensures.origin
    ∙ ap (g.F.Shelf.lent c.args.shelf.now).origin (c.as_str.ensures.value ∙ sym c.open_held-place.ensures.journal)

pub returns-then-has_memory-clause-fell : goal.returns-then-has_memory-clause-fell
returns-then-has_memory-clause-fell g c name = let same = c.take_disk.ensures.disk_faults name in omega (arith, same)

-- ---- memory was wanting, and it goes back

-- under the name with which it was taken
named : (g : Over) (c : After-as_str-2 g) → c.as_str-2.result.now ≡ string_bytes c.args.journal
named g c = c.as_str-2.ensures.value ∙ c.into_given-back.ensures.name ∙ c.open_held-place.ensures.journal

pub give_disk-requires-clause-out : goal.give_disk-requires-clause-out
give_disk-requires-clause-out g c =
    let taken = c.as_str.ensures.value in
    ap (g.F.Shelf.is_out c.take_disk.new.self)
    (c.as_str-2.ensures.value ∙ c.into_given-back.ensures.name ∙ c.open_held-place.ensures.journal ∙ sym taken) ∙ c.in-Ok.ensures.out

pub give_disk-requires-clause-own : goal.give_disk-requires-clause-own
give_disk-requires-clause-own g c =
    let same = named g (goal.at.give_disk-requires-clause-own g c).After-as_str-2 ∙ sym c.as_str.ensures.value in
    ap g.F.D.Disk.origin c.into_given-back.ensures.disk ∙ c.open_held-place.ensures.origin ∙ c.in-Ok.ensures.origin
    ∙ ap (g.F.Shelf.lent c.args.shelf.now).origin (sym same) ∙ ap (λ (l : Lent). l.origin c.as_str-2.result.now) (sym c.take_disk.ensures.lent)

pub returns-clause-others_out : goal.returns-clause-others_out
returns-clause-others_out g c =
    others_then (string_bytes c.args.journal) c.as_str.result.now c.as_str-2.result.now c.as_str.ensures.value
    (named g (goal.at.returns-clause-others_out g c).After-as_str-2) _ _ _ c.take_disk.ensures.others_out c.give_disk.ensures.others_out

pub returns-clause-disks : goal.returns-clause-disks
returns-clause-disks g c =
    others_then (string_bytes c.args.journal) c.as_str.result.now c.as_str-2.result.now c.as_str.ensures.value
    (named g (goal.at.returns-clause-disks g c).After-as_str-2) _ _ _ c.take_disk.ensures.disks c.give_disk.ensures.disks

pub returns-clause-other_counts : goal.returns-clause-other_counts
returns-clause-other_counts g c =
    others_then (string_bytes c.args.journal) c.as_str.result.now c.as_str-2.result.now c.as_str.ensures.value
    (named g (goal.at.returns-clause-other_counts g c).After-as_str-2) _ _ _ (λ name differs. c.take_disk.ensures.disk_faults name)
    c.give_disk.ensures.other_counts

pub returns-clause-fell : goal.returns-clause-fell
returns-clause-fell g c =
    let on = c.open_held-place.ensures.only.count in
    let same = ap g.F.D.Disk.faults c.into_given-back.ensures.disk in
    fell_none (string_bytes c.args.journal) c.as_str.result.now c.as_str-2.result.now c.as_str.ensures.value
    (named g (goal.at.returns-clause-fell g c).After-as_str-2) _ _ _ (g.F.D.Disk.faults c.in-Ok.disk) (g.F.D.Disk.faults c.into_given-back.result.disk)
    c.in-Ok.ensures.count c.take_disk.ensures.disk_faults (omega (arith, on, same)) c.give_disk.ensures.count c.give_disk.ensures.other_counts

pub returns-clause-refused_out : goal.returns-clause-refused_out
returns-clause-refused_out g c =
    in_again (string_bytes c.args.journal) c.as_str.result.now c.as_str-2.result.now c.as_str.ensures.value
    (named g (goal.at.returns-clause-refused_out g c).After-as_str-2) _ _ _ c.requires c.take_disk.ensures.others_out c.give_disk.ensures.back
    c.give_disk.ensures.others_out

pub returns-clause-refused : goal.returns-clause-refused
returns-clause-refused g c = λ told.
    let same = named g (goal.at.returns-clause-refused g c).After-as_str-2 ∙ sym c.as_str.ensures.value in
    stays_given g.F.D.Disk g.met.F.D.Disk.only_now c.as_str.result.now c.as_str-2.result.now same (g.F.Shelf.disk c.args.shelf.now)
    (g.F.Shelf.disk c.take_disk.new.self) (g.F.Shelf.disk c.give_disk.new.self) c.in-Ok.disk _ (c.in-Ok.ensures.taken told) c.open_held-place.ensures.only
    (c.give_disk.ensures.held told ∙ ap Some c.into_given-back.ensures.disk) c.take_disk.ensures.disks c.give_disk.ensures.disks
