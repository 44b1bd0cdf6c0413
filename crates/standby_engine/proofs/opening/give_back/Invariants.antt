use Rattle.std.proofs.Common.{◌≡◌}
use Rattle.std.specs.Prelude.{vec_len}
use Rattle.outside.specs.Shelf.{SameNames}
use Rattle.desk_crew.proofs.Shelving.{Given}
use Rattle.standby_engine.specs.Opened.{given_journal, IsGiven}
use Rattle.standby_engine.proofs.opening.give_back.Given as goal

-- the last disks are back
abbrev pub invariant-loop-given : goal.invariant-loop-given
invariant-loop-given g l = record {
  so_far : Given given_journal (IsGiven g.F.Shelf.tells g.F.D.Disk) l.fn.all.items (g.F.Shelf.disk l.fn.shelf) (g.F.Shelf.is_out l.fn.shelf)
      (g.F.Shelf.disk_faults l.fn.shelf)
      l.all.items (g.F.Shelf.disk l.shelf) (g.F.Shelf.is_out l.shelf) (g.F.Shelf.disk_faults l.shelf);
  faults : g.F.Shelf.faults l.shelf ≡ g.F.Shelf.faults l.fn.shelf;
  lent : g.F.Shelf.lent l.shelf ≡ g.F.Shelf.lent l.fn.shelf;
  looked : g.F.Shelf.looked l.shelf ≡ g.F.Shelf.looked l.fn.shelf;
  files : SameNames (g.F.Shelf.file l.fn.shelf) (g.F.Shelf.file l.shelf);
}

abbrev pub decreases-loop-given : goal.decreases-loop-given
decreases-loop-given g l = vec_len l.all
