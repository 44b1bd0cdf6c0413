use Rattle.std.proofs.Common.{◌≡◌}
use Rattle.std.specs.Prelude.{vec_len}
use Rattle.outside.specs.Shelf.{SameNames}
use Rattle.desk_crew.specs.Side.{opening_journal, IsPutBack}
use Rattle.desk_crew.proofs.Shelving.{Given}
use Rattle.desk_crew.proofs.crew.return_all.Given as goal

-- the disks of the last journals are back
abbrev pub invariant-loop-opening : goal.invariant-loop-opening
invariant-loop-opening g l = record {
  so_far : Given opening_journal (IsPutBack g.F.Shelf.tells g.F.D.Disk) l.fn.openings.items (g.F.Shelf.disk l.fn.shelf) (g.F.Shelf.is_out l.fn.shelf)
      (g.F.Shelf.disk_faults l.fn.shelf)
      l.openings.items (g.F.Shelf.disk l.shelf) (g.F.Shelf.is_out l.shelf) (g.F.Shelf.disk_faults l.shelf);
  faults : g.F.Shelf.faults l.shelf ≡ g.F.Shelf.faults l.fn.shelf;
  looked : g.F.Shelf.looked l.shelf ≡ g.F.Shelf.looked l.fn.shelf;
  lent : g.F.Shelf.lent l.shelf ≡ g.F.Shelf.lent l.fn.shelf;
  files : SameNames (g.F.Shelf.file l.fn.shelf) (g.F.Shelf.file l.shelf);
}

abbrev pub decreases-loop-opening : goal.decreases-loop-opening
decreases-loop-opening g l = vec_len l.openings
