-- How the making of journals ends.
use Rattle.std.specs.Prelude.{◌≡◌, ℕ, ◌+◌, List, length, slice_get, Option, Some}
use Rattle.outside.specs.Shelf.{bytes_on}
use Rattle.outside.specs.declared.disk.Disk.{Ghosts as DiskGhosts}
use Rattle.log_journal.specs.Names.{journal_name}
use Rattle.init_engine.specs.Disks.{Readies}
use Rattle.init_engine.specs.Stops.{HasReason, StaysAt}
use Rattle.init_engine.specs.declared.end.Stop.{Stop}
use Rattle.init_engine.specs.declared.end.Stop.TheVariants as stop
use Rattle.init_engine.specs.declared.end.InitEnd.{InitEnd}
use Rattle.init_engine.specs.declared.end.InitEnd.TheVariants.{Done, Refused, DiskFault, ShelfFault}
use Rattle.init_engine.specs.declared.end.InitEnd.TheVariants.{Memory}

-- A shelf before and after: the disks by their names, their counts of faults, and the shelf's own
-- count.
pub record Change (D : Type 0) : Type 0 where
  pub old : List ℕ → Option D
  pub new : List ℕ → Option D
  pub before : List ℕ → ℕ
  pub now : List ℕ → ℕ
  pub shelf_before : ℕ
  pub shelf_now : ℕ

module _ {D : Type 0} (told : Type 0) (Disk : DiskGhosts D)
    (header directory : List ℕ) (names : List (List ℕ)) (change : Change D) where
  -- It stopped at this user, who shows the reason: those before him are ready, and the disks of
  -- those behind him are as they were.
  pub record StopsAt (user : ℕ) (why : Stop) : Type 0 where
    pub name : List ℕ
    pub is : slice_get names user ≡ Some name
    pub reason : HasReason told header
        (bytes_on Disk.reads (change.old (journal_name directory name)))
        (change.before (journal_name directory name))
        (change.now (journal_name directory name)) change.shelf_before change.shelf_now why
    pub kept : told → StaysAt Disk (change.old (journal_name directory name))
        (change.new (journal_name directory name)) why
    pub ready : told
        → Readies Disk header directory names change.old change.new user (user + 1)

  -- All users are ready and no other disk is touched, or it stopped at the first user who can't be
  -- served.
  abbrev pub EndsInit : InitEnd → Type 0
  EndsInit Done = told
      → Readies Disk header directory names change.old change.new (length names)
      (length names)
  EndsInit (Refused user why) = StopsAt user (stop.Refused why)
  EndsInit DiskFault = (user : ℕ) × StopsAt user stop.DiskFault
  EndsInit ShelfFault = (user : ℕ) × StopsAt user stop.ShelfFault
  EndsInit Memory = (user : ℕ) × StopsAt user stop.Memory

-- how it ends at the user of this number
abbrev pub end_of : ℕ → Stop → InitEnd
end_of user (stop.Refused why) = Refused user why
end_of user stop.DiskFault = DiskFault
end_of user stop.ShelfFault = ShelfFault
end_of user stop.Memory = Memory
