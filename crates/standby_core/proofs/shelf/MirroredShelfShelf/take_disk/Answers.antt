use Rattle.std.proofs.Common.{◌≡◌, ◌+◌, ◌++◌, Some, true, false, sym, ap, subst, ◌∙◌}
use Rattle.std.specs.Prelude.{is_some}
use Rattle.outside.specs.Disk.{HeardNothing}
use Rattle.outside.specs.Shelf.{IsTaken}
use Rattle.standby_core.specs.MirroredDisks.{inner_of, mirror_of, faults_by, origin_with, heard_by}
use Rattle.standby_core.specs.Mirrors.{texts_of}
use Rattle.standby_core.specs.Places.{faults_in, count_in, is_away, mirror_in}
use Rattle.standby_core.specs.Slots.{place_at, mirrored_at, mirrored_lent, with_made}
use Rattle.standby_core.proofs.Slotting.{new_is, restored, taken_count, taken_mirrored, silent_heard}
use Rattle.standby_core.proofs.Slotting.{kept_places, kept_mirrors, kept_unused}
use Rattle.standby_core.proofs.shelf.MirroredShelfShelf.take_disk.Goals as goal

-- ---- a name without a mirror

pub returns-in_default-clause-disks : goal.returns-in_default-clause-disks
returns-in_default-clause-disks g c name differs =
    λ i. mirrored_at (g.F.Shelf.disk c.args.self.now.shelf.now name) (c.in_default.ensures.none name i)

pub returns-in_default-clause-disk_faults : goal.returns-in_default-clause-disk_faults
returns-in_default-clause-disk_faults g c name =
    λ i. g.F.Shelf.disk_faults c.args.self.now.shelf.now name + faults_in g.C.Dial.faults (c.in_default.ensures.none name i)

pub returns-in_default-clause-refused_disks : goal.returns-in_default-clause-refused_disks
returns-in_default-clause-refused_disks g c name =
    λ i. mirrored_at (g.F.Shelf.disk c.args.self.now.shelf.now name) (c.in_default.ensures.none name i)

pub returns-in_default-clause-lent : goal.returns-in_default-clause-lent
returns-in_default-clause-lent g c =
    λ i. mirrored_lent c.args.self.now.shelf.ghost_name c.args.self.now.mirrors.ghost_name (c.take.ensures.made.all i)
    (λ wanted. c.take.ensures.made.each wanted i) (g.F.Shelf.lent c.args.self.now.shelf.now)

-- ---- a disk that was taken

pub returns-in-Ok-clause-lent : goal.returns-in-Ok-clause-lent
returns-in-Ok-clause-lent g c =
    λ i. mirrored_lent c.args.self.now.shelf.ghost_name c.args.self.now.mirrors.ghost_name (c.take.ensures.made.all i)
    (λ wanted. c.take.ensures.made.each wanted i) (c.take_disk.ensures.lent i)

-- it comes from where its mirror and the disk below do
pub returns-in-Ok-clause-origin : goal.returns-in-Ok-clause-origin
returns-in-Ok-clause-origin g c =
    let name = c.args.name.now in
    let own = g.C.Dial.name in
    let address = g.C.Dial.address in
    ap (λ d. origin_with own address (mirror_of d) (g.F.D.Disk.origin (inner_of d))) c.new.ensures
    ∙ ap (λ below. texts_of own address c.in-Some.mirror ++ below) c.in-Ok.ensures.origin
    ∙ sym (ap (λ made. with_made made ((g.F.Shelf.lent c.args.self.now.shelf.now).origin name)) c.in-Some.ensures.own)

pub returns-in-Ok-clause-taken : goal.returns-in-Ok-clause-taken
returns-in-Ok-clause-taken g c = λ told.
    let name = c.args.name.now in
    let place = place_at c.args.self.now.mirrors.now.slots.items name in
    subst (λ disk. IsTaken (λ d. g.F.D.Disk.reads (inner_of d)) (λ d. g.F.D.Disk.image (inner_of d))
    (mirrored_at (g.F.Shelf.disk c.args.self.now.shelf.now name) place) disk) (sym c.new.ensures)
    (taken_mirrored g.F.D.Disk.reads g.F.D.Disk.image (g.F.Shelf.disk c.args.self.now.shelf.now name) place c.in-Ok.inner c.in-Some.mirror
    c.in-Some.ensures.taken (c.in-Ok.ensures.taken told))

pub returns-in-Ok-clause-count : goal.returns-in-Ok-clause-count
returns-in-Ok-clause-count g c =
    let name = c.args.name.now in
    let place = place_at c.args.self.now.mirrors.now.slots.items name in
    let mirror : mirror_in place ≡ Some c.in-Some.mirror = ap mirror_in (new_is place c.in-Some.mirror c.in-Some.ensures.taken) in
    ap (λ d. g.F.D.Disk.faults (inner_of d) + faults_by g.C.Dial.faults (mirror_of d)) c.new.ensures
    ∙ (λ i. c.in-Ok.ensures.count i + faults_by g.C.Dial.faults (sym mirror i))

pub returns-in-Ok-clause-gone : goal.returns-in-Ok-clause-gone
returns-in-Ok-clause-gone g c = λ told.
    ap (λ o. mirrored_at o (place_at c.take.new.self.slots.items c.args.name.now)) (c.in-Ok.ensures.gone told)

pub returns-in-Ok-clause-disks : goal.returns-in-Ok-clause-disks
returns-in-Ok-clause-disks g c name differs =
    λ i. mirrored_at (c.take_disk.ensures.disks name differs i) (c.take.ensures.others name differs i)

pub returns-in-Ok-clause-disk_faults : goal.returns-in-Ok-clause-disk_faults
returns-in-Ok-clause-disk_faults g c name =
    let same = taken_count g.C.Dial.faults c.args.name.now c.args.self.now.mirrors.now.slots.items c.take.new.self.slots.items c.in-Some.mirror
    c.in-Some.ensures.taken c.in-Some.ensures.faultless c.in-Some.ensures.out c.take.ensures.others name in
    λ i. c.take_disk.ensures.disk_faults name i + same i

-- ---- a refusal, behind which the mirror is back

pub put_new-requires-clause-own : goal.put_new-requires-clause-own
put_new-requires-clause-own g c = c.take.ensures.made.each c.args.name.now ∙ c.in-Some.ensures.own

pub returns-in-Err-clause-lent : goal.returns-in-Err-clause-lent
returns-in-Err-clause-lent g c =
    (λ i. mirrored_lent c.args.self.now.shelf.ghost_name c.args.self.now.mirrors.ghost_name (c.put_new.ensures.made.all i)
    (λ wanted. c.put_new.ensures.made.each wanted i) (c.take_disk.ensures.lent i))
    ∙ (λ i. mirrored_lent c.args.self.now.shelf.ghost_name c.args.self.now.mirrors.ghost_name (c.take.ensures.made.all i)
    (λ wanted. c.take.ensures.made.each wanted i) (g.F.Shelf.lent c.args.self.now.shelf.now))

pub put_new-requires-clause-there : goal.put_new-requires-clause-there
put_new-requires-clause-there g c = ap is_some c.in-Some.ensures.out

pub returns-in-Err-clause-disks : goal.returns-in-Err-clause-disks
returns-in-Err-clause-disks g c name differs =
    let same = restored c.args.name.now c.args.self.now.mirrors.now.slots.items c.take.new.self.slots.items c.put_new.new.self.slots.items c.in-Some.mirror
    c.in-Some.ensures.taken c.take.ensures.others c.put_new.ensures.put c.put_new.ensures.others name in
    λ i. mirrored_at (c.take_disk.ensures.disks name differs i) (same i)

pub returns-in-Err-clause-disk_faults : goal.returns-in-Err-clause-disk_faults
returns-in-Err-clause-disk_faults g c name =
    let same = restored c.args.name.now c.args.self.now.mirrors.now.slots.items c.take.new.self.slots.items c.put_new.new.self.slots.items c.in-Some.mirror
    c.in-Some.ensures.taken c.take.ensures.others c.put_new.ensures.put c.put_new.ensures.others name in
    λ i. c.take_disk.ensures.disk_faults name i + faults_in g.C.Dial.faults (same i)

pub returns-in-Err-clause-refused_disks : goal.returns-in-Err-clause-refused_disks
returns-in-Err-clause-refused_disks g c name =
    let same = restored c.args.name.now c.args.self.now.mirrors.now.slots.items c.take.new.self.slots.items c.put_new.new.self.slots.items c.in-Some.mirror
    c.in-Some.ensures.taken c.take.ensures.others c.put_new.ensures.put c.put_new.ensures.others name in
    λ i. mirrored_at (c.in-Err.ensures.refused_disks name i) (same i)

-- ---- what was told of

pub returns-in-Ok-clause-unheard : goal.returns-in-Ok-clause-unheard
returns-in-Ok-clause-unheard g c =
    subst (λ d. HeardNothing (heard_by g.C.Dial.tells g.C.Dial.exchanged (mirror_of d))) (sym c.new.ensures)
    (silent_heard g.C.Dial.tells g.C.Dial.exchanged c.in-Some.mirror c.in-Some.ensures.silent)

-- ---- the shelf as it is left

pub invariant_of-self : goal.invariant_of-self
invariant_of-self g c = record {
  there = λ name is. ap is_some (c.in_default.ensures.none name) ∙ c.args.self.now.there name is;
  back = λ name is. ap is_away (c.in_default.ensures.none name) ∙ c.args.self.now.back name is;
  unused = λ told dials_told name none inside.
      ap (count_in g.C.Dial.exchanged) (c.in_default.ensures.none name) ∙ c.args.self.now.unused told dials_told name none inside;
}

-- a disk that is out has no mirror to speak of
pub invariant_of-self-in-Ok-1 : goal.invariant_of-self-in-Ok-1
invariant_of-self-in-Ok-1 g c = record {
  there = kept_places c.args.name.now (g.F.Shelf.is_out c.args.self.now.shelf.now) (g.F.Shelf.is_out c.take_disk.new.self)
      c.args.self.now.mirrors.now.slots.items c.take.new.self.slots.items c.args.self.now.there c.take_disk.ensures.others_out
      c.take.ensures.others (ap is_some c.in-Some.ensures.out);
  back = kept_mirrors c.args.name.now (g.F.Shelf.is_out c.args.self.now.shelf.now) (g.F.Shelf.is_out c.take_disk.new.self)
      c.args.self.now.mirrors.now.slots.items c.take.new.self.slots.items c.args.self.now.back c.take_disk.ensures.others_out
      c.take.ensures.others (λ inside. let clash : true ≡ false = sym c.in-Ok.ensures.out ∙ inside in absurd cc);
  unused = λ told dials_told.
      kept_unused g.C.Dial.exchanged c.args.name.now (g.F.Shelf.disk c.args.self.now.shelf.now) (g.F.Shelf.disk c.take_disk.new.self)
      (g.F.Shelf.is_out c.args.self.now.shelf.now) (g.F.Shelf.is_out c.take_disk.new.self) c.args.self.now.mirrors.now.slots.items
      c.take.new.self.slots.items (c.args.self.now.unused told dials_told) c.take_disk.ensures.disks c.take_disk.ensures.others_out
      c.take.ensures.others (λ none inside. let clash : true ≡ false = sym c.in-Ok.ensures.out ∙ inside in absurd cc);
}

pub invariant_of-self-in-Err : goal.invariant_of-self-in-Err
invariant_of-self-in-Err g c =
    let same = restored c.args.name.now c.args.self.now.mirrors.now.slots.items c.take.new.self.slots.items c.put_new.new.self.slots.items c.in-Some.mirror
    c.in-Some.ensures.taken c.take.ensures.others c.put_new.ensures.put c.put_new.ensures.others in
    record {
      there = λ name is. ap is_some (same name) ∙ c.args.self.now.there name (sym (c.in-Err.ensures.refused_out name) ∙ is);
      back = λ name is. ap is_away (same name) ∙ c.args.self.now.back name (sym (c.in-Err.ensures.refused_out name) ∙ is);
      unused = λ told dials_told name none inside.
          ap (count_in g.C.Dial.exchanged) (same name) ∙ c.args.self.now.unused told dials_told name (sym (c.in-Err.ensures.refused_disks name) ∙ none)
          (sym (c.in-Err.ensures.refused_out name) ∙ inside);
    }
