use Rattle.std.proofs.Common.{◌≡◌, ◌+◌, Some, sym, ap, ◌∙◌}
use Rattle.std.specs.Prelude.{is_some}
use Rattle.standby_core.specs.MirroredDisks.{inner_of, mirror_of, mirrored, faults_by, origin_with}
use Rattle.standby_core.specs.Mirrors.{texts_of}
use Rattle.standby_core.specs.Places.{faults_in, is_away}
use Rattle.standby_core.specs.Slots.{made_at, mirrored_at, mirrored_lent}
use Rattle.standby_core.proofs.Slotting.{kept_places, kept_mirrors, kept_unused, back_mirrored, own_parts, made_some}
use Rattle.std.proofs.lemmas.Option.{none-some}
use Rattle.standby_core.proofs.shelf.MirroredShelfShelf.give_disk.Given.{Over}
use Rattle.standby_core.proofs.shelf.MirroredShelfShelf.give_disk.Goals as goal
use Rattle.standby_core.proofs.shelf.MirroredShelfShelf.give_disk.Goals.{In-Some}

-- the disk that was taken has a mirror
pub unreachable-requires : goal.unreachable-requires
unreachable-requires g c =
    let name = c.args.name.now in
    let whole = ap (λ d. origin_with g.C.Dial.name g.C.Dial.address (mirror_of d) (g.F.D.Disk.origin (inner_of d))) c.split-inner.ensures in
    let none = ap (λ m. origin_with g.C.Dial.name g.C.Dial.address m (g.F.D.Disk.origin c.split-inner.result.0)) c.in_default.is in
    made_some g.C.Dial.name g.C.Dial.address name c.args.self.now.mirrors.now.slots.items ((g.F.Shelf.lent c.args.self.now.shelf.now).origin name)
    (c.args.self.now.there name c.requires.out) (sym none ∙ sym whole ∙ c.requires.own)

-- it is the mirror of this name, and the disk below is that of this name
parts : (g : Over) (c : In-Some g)
    → (made_at g.C.Dial.name g.C.Dial.address c.args.self.now.mirrors.now.slots.items c.args.name.now
    ≡ Some (texts_of g.C.Dial.name g.C.Dial.address c.in-Some.mirror))
    × (g.F.D.Disk.origin c.split-inner.result.0 ≡ (g.F.Shelf.lent c.args.self.now.shelf.now).origin c.args.name.now)
parts g c =
    let whole = ap (λ d. origin_with g.C.Dial.name g.C.Dial.address (mirror_of d) (g.F.D.Disk.origin (inner_of d))) c.split-inner.ensures in
    let some = ap (λ m. origin_with g.C.Dial.name g.C.Dial.address m (g.F.D.Disk.origin c.split-inner.result.0)) c.in-Some.is in
    own_parts g.C.Dial.name g.C.Dial.address c.args.name.now c.args.self.now.mirrors.now.slots.items c.in-Some.mirror
    (g.F.D.Disk.origin c.split-inner.result.0) ((g.F.Shelf.lent c.args.self.now.shelf.now).origin c.args.name.now) (sym some ∙ sym whole ∙ c.requires.own)

pub put_back-requires-clause-own : goal.put_back-requires-clause-own
put_back-requires-clause-own g c = (parts g (goal.at.put_back-requires-clause-own g c).In-Some).0

pub give_disk-requires-clause-own : goal.give_disk-requires-clause-own
give_disk-requires-clause-own g c = (parts g (goal.at.give_disk-requires-clause-own g c).In-Some).1

pub put_back-requires-clause-there : goal.put_back-requires-clause-there
put_back-requires-clause-there g c = c.args.self.now.there c.args.name.now c.requires.out

pub invariant_of-self : goal.invariant_of-self
invariant_of-self g c = record {
  there = kept_places c.args.name.now (g.F.Shelf.is_out c.args.self.now.shelf.now) (g.F.Shelf.is_out c.give_disk.new.self)
      c.args.self.now.mirrors.now.slots.items c.put_back.new.self.slots.items c.args.self.now.there c.give_disk.ensures.others_out
      c.put_back.ensures.others (ap is_some c.put_back.ensures.put);
  back = kept_mirrors c.args.name.now (g.F.Shelf.is_out c.args.self.now.shelf.now) (g.F.Shelf.is_out c.give_disk.new.self)
      c.args.self.now.mirrors.now.slots.items c.put_back.new.self.slots.items c.args.self.now.back c.give_disk.ensures.others_out
      c.put_back.ensures.others (λ out. ap is_away c.put_back.ensures.put);
  unused = λ told dials_told.
      kept_unused g.C.Dial.exchanged c.args.name.now (g.F.Shelf.disk c.args.self.now.shelf.now) (g.F.Shelf.disk c.give_disk.new.self)
      (g.F.Shelf.is_out c.args.self.now.shelf.now) (g.F.Shelf.is_out c.give_disk.new.self) c.args.self.now.mirrors.now.slots.items
      c.put_back.new.self.slots.items (c.args.self.now.unused told dials_told) c.give_disk.ensures.disks c.give_disk.ensures.others_out
      c.put_back.ensures.others (λ none inside. absurd (none-some _ (sym none ∙ c.give_disk.ensures.held told)));
}

pub returns-clause-held : goal.returns-clause-held
returns-clause-held g c = λ told.
    back_mirrored _ _ c.split-inner.result.0 c.in-Some.mirror (c.give_disk.ensures.held told) c.put_back.ensures.put
    ∙ ap (λ m. Some (mirrored c.split-inner.result.0 m)) (sym c.in-Some.is) ∙ ap Some (sym c.split-inner.ensures)

pub returns-clause-disks : goal.returns-clause-disks
returns-clause-disks g c name differs =
    λ i. mirrored_at (c.give_disk.ensures.disks name differs i) (c.put_back.ensures.others name differs i)

pub returns-clause-count : goal.returns-clause-count
returns-clause-count g c =
    let mirror = ap (faults_in g.C.Dial.faults) c.put_back.ensures.put ∙ ap (faults_by g.C.Dial.faults) (sym c.in-Some.is) in
    (λ i. c.give_disk.ensures.count i + mirror i)
    ∙ sym (ap (λ d. g.F.D.Disk.faults (inner_of d) + faults_by g.C.Dial.faults (mirror_of d)) c.split-inner.ensures)

pub returns-clause-other_counts : goal.returns-clause-other_counts
returns-clause-other_counts g c name differs =
    λ i. c.give_disk.ensures.other_counts name differs i + faults_in g.C.Dial.faults (c.put_back.ensures.others name differs i)

pub returns-clause-lent : goal.returns-clause-lent
returns-clause-lent g c =
    λ i. mirrored_lent c.args.self.now.shelf.ghost_name c.args.self.now.mirrors.ghost_name (c.put_back.ensures.made.all i)
    (λ wanted. c.put_back.ensures.made.each wanted i) (c.give_disk.ensures.lent i)
