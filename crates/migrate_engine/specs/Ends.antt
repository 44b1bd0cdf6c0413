-- How the moving of journals ends.
use Rattle.std.specs.Prelude.{◌≡◌, ℕ, ◌+◌, List, length, slice_get, Some}
use Rattle.outside.specs.Shelf.{bytes_on}
use Rattle.outside.specs.declared.disk.Disk.{Ghosts as DiskGhosts}
use Rattle.init_engine.specs.Ends.{Change}
use Rattle.log_journal.specs.Names.{journal_name}
use Rattle.migrate_engine.specs.Moves.{Moves}
use Rattle.migrate_engine.specs.Stops.{HasReason, LeavesTarget}
use Rattle.migrate_engine.specs.declared.end.Stop.{Stop}
use Rattle.migrate_engine.specs.declared.end.Stop.TheVariants as stop
use Rattle.migrate_engine.specs.declared.end.MigrateEnd.{MigrateEnd}
use Rattle.migrate_engine.specs.declared.end.MigrateEnd.TheVariants.{Done, Refused, NotEmpty}
use Rattle.migrate_engine.specs.declared.end.MigrateEnd.TheVariants.{DiskFault, ShelfFault, Memory}

module _ {D : Type 0} (told : Type 0) (Disk : DiskGhosts D) (header from to : List ℕ)
    (names : List (List ℕ)) (change : Change D) where
  -- It stopped at this user, who shows the reason: those before him are moved, the disks of those
  -- behind him are as they were, and so are all old journals.
  pub record StopsAt (user : ℕ) (why : Stop) : Type 0 where
    pub name : List ℕ
    pub is : slice_get names user ≡ Some name
    pub reason : HasReason told Disk header (journal_name from name) (journal_name to name)
        change why
    pub target : told → LeavesTarget Disk header
        (bytes_on Disk.reads (change.old (journal_name from name)))
        (change.old (journal_name to name)) (change.new (journal_name to name)) why
    pub moves : told
        → Moves Disk header from to names change.old change.new user (user + 1)

  -- All users are moved and no other disk is touched, or it stopped at the first user who can't be
  -- served.
  abbrev pub EndsMigrate : MigrateEnd → Type 0
  EndsMigrate Done = told
      → Moves Disk header from to names change.old change.new (length names) (length names)
  EndsMigrate (Refused user why) = StopsAt user (stop.Refused why)
  EndsMigrate (NotEmpty user) = StopsAt user stop.NotEmpty
  EndsMigrate DiskFault = (user : ℕ) × StopsAt user stop.DiskFault
  EndsMigrate ShelfFault = (user : ℕ) × StopsAt user stop.ShelfFault
  EndsMigrate Memory = (user : ℕ) × StopsAt user stop.Memory

-- how it ends at the user of this number
abbrev pub end_of : ℕ → Stop → MigrateEnd
end_of user (stop.Refused why) = Refused user why
end_of user stop.NotEmpty = NotEmpty user
end_of user stop.DiskFault = DiskFault
end_of user stop.ShelfFault = ShelfFault
end_of user stop.Memory = Memory
