use Rattle.std.proofs.Common.{◌≡◌, sym, ap, subst, ◌∙◌}
use Rattle.outside.specs.Shelf.{SameOthers}
use Rattle.desk_crew.specs.Side.{opening_journal, place_journal, place_origin, IsLeftFrom}
use Rattle.desk_crew.proofs.Owning.{shut_origin}
use Rattle.desk_crew.proofs.Placing.{shut_left}
use Rattle.desk_crew.proofs.crew.return_one.Given.{Over}
use Rattle.desk_crew.proofs.crew.return_one.Goals as goal
use Rattle.desk_crew.proofs.crew.return_one.Goals.{After-as_str}

-- the disk goes back under the name of its journal
named : (g : Over) (c : After-as_str g) → c.as_str.result.now ≡ opening_journal c.args.opening
named g c = c.as_str.ensures.value ∙ c.shut-closed.ensures.journal ∙ ap place_journal (sym c.unwrap-place.ensures)

pub give_disk-requires-clause-out : goal.give_disk-requires-clause-out
give_disk-requires-clause-out g c =
    ap (g.F.Shelf.is_out c.args.shelf.now) (named g (goal.at.give_disk-requires-clause-out g c).After-as_str) ∙ c.requires.out

pub give_disk-requires-clause-own : goal.give_disk-requires-clause-own
give_disk-requires-clause-own g c =
    shut_origin g.F.D.Disk c.unwrap-place.result c.shut-closed.result.disk c.shut-closed.ensures.shut
    ∙ ap (place_origin g.F.D.Disk.origin) (sym c.unwrap-place.ensures) ∙ c.requires.own
    ∙ ap (g.F.Shelf.lent c.args.shelf.now).origin (sym (named g (goal.at.give_disk-requires-clause-own g c).After-as_str))

pub returns-clause-back : goal.returns-clause-back
returns-clause-back g c =
    let given = c.give_disk.ensures in
    let name = named g (goal.at.returns-clause-back g c).After-as_str in
    record {
      now = c.shut-closed.result.disk;
      left = subst (λ p. IsLeftFrom g.F.D.Disk p c.shut-closed.result.disk) (sym c.unwrap-place.ensures)
          (shut_left g.F.D.Disk g.met.F.D.Disk.counts_now g.met.F.D.Disk.only_now c.unwrap-place.result c.shut-closed.result.disk
          c.shut-closed.ensures.shut);
      held = λ told. ap (g.F.Shelf.disk c.give_disk.new.self) (sym name) ∙ given.held told;
      counted = ap (g.F.Shelf.disk_faults c.give_disk.new.self) (sym name) ∙ given.count;
    }

pub returns-clause-inside : goal.returns-clause-inside
returns-clause-inside g c =
    ap (g.F.Shelf.is_out c.give_disk.new.self) (sym (named g (goal.at.returns-clause-inside g c).After-as_str)) ∙ c.give_disk.ensures.back

pub returns-clause-others_out : goal.returns-clause-others_out
returns-clause-others_out g c =
    subst (λ n. SameOthers n (g.F.Shelf.is_out c.args.shelf.now) (g.F.Shelf.is_out c.give_disk.new.self))
    (named g (goal.at.returns-clause-others_out g c).After-as_str) c.give_disk.ensures.others_out

pub returns-clause-disks : goal.returns-clause-disks
returns-clause-disks g c =
    subst (λ n. SameOthers n (g.F.Shelf.disk c.args.shelf.now) (g.F.Shelf.disk c.give_disk.new.self))
    (named g (goal.at.returns-clause-disks g c).After-as_str) c.give_disk.ensures.disks

pub returns-clause-counts : goal.returns-clause-counts
returns-clause-counts g c =
    subst (λ n. SameOthers n (g.F.Shelf.disk_faults c.args.shelf.now) (g.F.Shelf.disk_faults c.give_disk.new.self))
    (named g (goal.at.returns-clause-counts g c).After-as_str) c.give_disk.ensures.other_counts
