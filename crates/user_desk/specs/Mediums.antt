-- A disk under a journal or alone.
use Rattle.std.specs.Prelude.{ℕ, Bool, true, false}
use Rattle.log_journal.specs.Journal.{disk_of, is_broken, room_of}
use Rattle.user_desk.specs.declared.store.Medium.{Medium}
use Rattle.user_desk.specs.declared.store.Medium.TheVariants.{Journal, Disk}
use Rattle.user_desk.specs.Stored.{Stored}

-- the disk
abbrev pub medium_disk : {D : Type 0} {g : _} → Medium D g → D
medium_disk (Journal journal) = disk_of journal
medium_disk (Disk disk) = disk

-- there is a journal
abbrev pub is_journal : {D : Type 0} {g : _} → Medium D g → Bool
is_journal (Journal journal) = true
is_journal (Disk disk) = false

-- an append of the journal failed
abbrev pub is_failed : {D : Type 0} {g : _} → Medium D g → Bool
is_failed (Journal journal) = is_broken journal
is_failed (Disk disk) = false

-- how many bytes of room the journal has
abbrev pub medium_room : {D : Type 0} {g : _} → Medium D g → ℕ
medium_room (Journal journal) = room_of journal
medium_room (Disk disk) = 0

-- what is stored, beside what it was as the desk was opened
abbrev pub stored_in : {D : Type 0} {g : _} → Medium D g → Medium D g → Stored D
stored_in medium opened = record {
  disk = medium_disk medium;
  opened = medium_disk opened;
  has_journal = is_journal medium;
  has_failed = is_failed medium;
  room = medium_room medium;
}
