-- What a stretch asks of its seats and their shelf, and what it leaves of them.
use Rattle.std.specs.Prelude.{◌≡◌, ℕ, Bool, false, List, map}
use Rattle.std.specs.List.{AllByRecursion}
use Rattle.std.specs.List.Sorted.{IsPermutation}
use Rattle.outside.specs.Shelf.{AllOut, AllIn, SameBeside}
use Rattle.outside.specs.declared.disk.Disk.{Ghosts as DiskGhosts}
use Rattle.outside.specs.declared.shelf.Shelf.{Ghosts as ShelfGhosts}
use Rattle.cqe_base.specs.Schema.{Text, DatabaseSchema, has_duplicate}
use Rattle.cqe_base.specs.Facts.{FactSet}
use Rattle.desk_crew.specs.Crew.{seat_name, IsSeatServed}
use Rattle.desk_crew.specs.Registered.{SeatsKeepLimits}
use Rattle.desk_crew.specs.Seats.{DeskSeat}
use Rattle.desk_crew.specs.Shelved.{journals, AreLater, AreOwn, AreBack}
use Rattle.batch_engine.specs.Answers.{output_bytes}
use Rattle.batch_engine.specs.BatchLines.{BatchItem}
use Rattle.batch_engine.specs.Ordered.{AreNumbered}
use Rattle.batch_engine.specs.Steps.{Runs}
use Rattle.batch_engine.specs.declared.answer.Answer.{Answer}

-- These seats can answer a stretch: their users keep the limits, and each desk is served. No two
-- have one name or one journal, and the journals are these. Their disks are out, and come from
-- where those of their names do.
pub record CanServe {D : Type 0} {g h : _} (schema : DatabaseSchema) (world : FactSet)
    (header : List ℕ) (Disk : DiskGhosts D) (named : List Text) (seats : List (DeskSeat D g h))
    (is_out : Text → Bool) (count : Text → ℕ) (known : Text → List (List ℕ)) : Type 0 where
  pub limits : SeatsKeepLimits schema seats
  pub served : AllByRecursion (IsSeatServed schema world header) seats
  pub names : has_duplicate (map seat_name seats) ≡ false
  pub registered : journals seats ≡ named
  pub distinct : has_duplicate (journals seats) ≡ false
  pub out : AllOut (journals seats) is_out
  pub later : AreLater Disk.faults count seats
  pub own : AreOwn Disk.origin known seats

-- The lines of these items in order, of which these are in some order; and what the items did to
-- the seats.
pub record InOrder {D : Type 0} {g h : _} (schema : DatabaseSchema) (world : FactSet)
    (header : List ℕ) (Disk : DiskGhosts D) (items : List BatchItem)
    (old new : List (DeskSeat D g h)) (answers : List Answer) (is_broken : Bool) : Type 0 where
  pub lines : List Answer
  pub numbered : AreNumbered lines
  pub moved : IsPermutation lines answers
  pub runs : Runs schema world header Disk items old (output_bytes lines) new is_broken

-- the disks of these seats, and no others, went back to their shelf
pub record AllBack {F D : Type 0} {g h : _} (Shelf : ShelfGhosts F D) (Disk : DiskGhosts D)
    (old new : F) (seats : List (DeskSeat D g h)) : Type 0 where
  pub back : AreBack Shelf.tells Disk (Shelf.disk new) (Shelf.disk_faults new) seats
  pub inside : AllIn (journals seats) (Shelf.is_out new)
  pub others_out : SameBeside (journals seats) (Shelf.is_out old) (Shelf.is_out new)
  pub disks : SameBeside (journals seats) (Shelf.disk old) (Shelf.disk new)
  pub counts : SameBeside (journals seats) (Shelf.disk_faults old) (Shelf.disk_faults new)
