use Rattle.std.proofs.Common.{◌≡◌}
use Rattle.std.specs.Prelude.{vec_len, ◌||◌}
use Rattle.std.specs.List.{list_any}
use Rattle.outside.specs.Shelf.{SameNames}
use Rattle.desk_crew.specs.Crew.{seat_journal, seat_broke}
use Rattle.desk_crew.specs.Shelved.{IsBack}
use Rattle.desk_crew.proofs.Shelving.{Given}
use Rattle.desk_crew.proofs.crew.give_back.Given as goal

-- the disks of the last seats are back, and it is known whether an append failed at one of them
abbrev pub invariant-loop-seat : goal.invariant-loop-seat
invariant-loop-seat g l = record {
  so_far : Given seat_journal (IsBack g.F.Shelf.tells g.F.D.Disk) l.fn.seats.items (g.F.Shelf.disk l.fn.shelf) (g.F.Shelf.is_out l.fn.shelf)
      (g.F.Shelf.disk_faults l.fn.shelf)
      l.seats.items (g.F.Shelf.disk l.shelf) (g.F.Shelf.is_out l.shelf) (g.F.Shelf.disk_faults l.shelf);
  broke : list_any seat_broke l.fn.seats.items ≡ (list_any seat_broke l.seats.items || l.is_broken);
  faults : g.F.Shelf.faults l.shelf ≡ g.F.Shelf.faults l.fn.shelf;
  looked : g.F.Shelf.looked l.shelf ≡ g.F.Shelf.looked l.fn.shelf;
  lent : g.F.Shelf.lent l.shelf ≡ g.F.Shelf.lent l.fn.shelf;
  files : SameNames (g.F.Shelf.file l.fn.shelf) (g.F.Shelf.file l.shelf);
}

abbrev pub decreases-loop-seat : goal.decreases-loop-seat
decreases-loop-seat g l = vec_len l.seats
