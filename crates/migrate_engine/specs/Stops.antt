-- Why one user's journal isn't moved.
use Rattle.std.specs.Prelude.{◌≡◌, ◌≢◌, ℕ, List, [], Option, Some}
use Rattle.outside.specs.Faults.{Rose}
use Rattle.outside.specs.Shelf.{bytes_on}
use Rattle.outside.specs.declared.disk.Disk.{Ghosts as DiskGhosts}
use Rattle.outside.specs.declared.shelf.Shelf.{Ghosts as ShelfGhosts}
use Rattle.init_engine.specs.Ends.{Change}
use Rattle.init_engine.specs.Stops.{Stays}
use Rattle.log_journal.specs.Opening.{IsOldJournal, IsRefusedOld}
use Rattle.log_journal.specs.Records.{Recorded}
use Rattle.log_journal.specs.declared.header.OpenError.{OpenError}
use Rattle.log_journal.specs.declared.header.OpenError.TheVariants.{Memory}
use Rattle.migrate_engine.specs.Moves.{IsHalfMade}
use Rattle.migrate_engine.specs.declared.end.Stop.{Stop}
use Rattle.migrate_engine.specs.declared.end.Stop.TheVariants as stop

-- a shelf before and after
abbrev pub changed : {F D : Type 0} → ShelfGhosts F D → F → F → Change D
changed Shelf old new = record {
  old = Shelf.disk old;
  new = Shelf.disk new;
  before = Shelf.disk_faults old;
  now = Shelf.disk_faults new;
  shelf_before = Shelf.faults old;
  shelf_now = Shelf.faults new;
}

-- ---- what is told of a user

module _ {D : Type 0} (told : Type 0) (Disk : DiskGhosts D) (header source target : List ℕ)
    (change : Change D) where
  -- the disk of the old journal is one, as the call begins
  abbrev pub WasOpened : Type 0
  WasOpened = told
      → (all : List Recorded) × IsOldJournal header all (bytes_on Disk.reads (change.old source))

  -- Why it stopped at a user, by the names of his two disks. The old journal comes first: behind it
  -- the new one's disk isn't empty, or failed.
  abbrev pub HasReason : Stop → Type 0
  HasReason (stop.Refused why) = (why ≢ Memory)
      × IsRefusedOld told header (bytes_on Disk.reads (change.old source)) (change.before source)
      (change.now source) why
  HasReason stop.NotEmpty =
      WasOpened × (told → bytes_on Disk.reads (change.old target) ≢ [])
  HasReason stop.DiskFault = WasOpened × Rose (change.before target) (change.now target)
  HasReason stop.ShelfFault = Rose change.shelf_before change.shelf_now
  HasReason stop.Memory = Unit {0}

module _ {D : Type 0} (Disk : DiskGhosts D) (header : List ℕ) where
  -- What is left of the new journal's disk at this stop, where these are the old one's bytes. Only
  -- where it failed may it have others than before: then it had none, and is half made with the
  -- records of the old one.
  abbrev pub LeavesTarget : List ℕ → Option D → Option D → Stop → Type 0
  LeavesTarget source before after stop.NotEmpty = Stays Disk before after
  LeavesTarget source before after stop.DiskFault = (all : List Recorded)
      × IsOldJournal header all source × IsHalfMade Disk header all before after
  LeavesTarget source before after why = after ≡ before

  -- the same by the records that were to be written
  abbrev pub LeavesUnfilled : List Recorded → Option D → Option D → Stop → Type 0
  LeavesUnfilled all before after (stop.Refused why) = ⊥
  LeavesUnfilled all before after stop.NotEmpty = Stays Disk before after
  LeavesUnfilled all before after stop.DiskFault = IsHalfMade Disk header all before after
  LeavesUnfilled all before after why = after ≡ before

  -- the same of a disk that was taken
  abbrev pub LeavesDisk : List Recorded → D → D → Stop → Type 0
  LeavesDisk all before after stop.NotEmpty = Stays Disk (Some before) (Some after)
  LeavesDisk all before after stop.DiskFault =
      IsHalfMade Disk header all (Some before) (Some after)
  LeavesDisk all before after why = ⊥

-- ---- what is told of one of his disks

-- why the records of the old journal weren't read
abbrev pub IsUnread : Type 0 → List ℕ → List ℕ → ℕ → ℕ → ℕ → ℕ → Stop → Type 0
IsUnread told header bytes before now shelf_before shelf_now (stop.Refused why) =
    (why ≢ Memory) × IsRefusedOld told header bytes before now why
IsUnread told header bytes before now shelf_before shelf_now stop.ShelfFault =
    Rose shelf_before shelf_now
IsUnread told header bytes before now shelf_before shelf_now stop.Memory = Unit {0}
IsUnread told header bytes before now shelf_before shelf_now why = ⊥

-- why a disk with these bytes wasn't filled with them
abbrev pub IsUnfilled : Type 0 → List ℕ → ℕ → ℕ → ℕ → ℕ → Stop → Type 0
IsUnfilled told bytes before now shelf_before shelf_now (stop.Refused why) = ⊥
IsUnfilled told bytes before now shelf_before shelf_now stop.NotEmpty = told → bytes ≢ []
IsUnfilled told bytes before now shelf_before shelf_now stop.DiskFault = Rose before now
IsUnfilled told bytes before now shelf_before shelf_now stop.ShelfFault =
    Rose shelf_before shelf_now
IsUnfilled told bytes before now shelf_before shelf_now stop.Memory = Unit {0}

-- why a user is stopped at whose old journal isn't opened
abbrev pub stop_of : OpenError → Stop
stop_of Memory = stop.Memory
stop_of why = stop.Refused why
