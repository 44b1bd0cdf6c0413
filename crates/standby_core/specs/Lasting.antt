-- What lasts of the journals of a standby.
use Rattle.std.specs.Prelude.{◌≡◌, ◌⊎◌, ℕ, ◌≤◌, max, Bool, true, false, List, [], ◌∷◌, ◌++◌}
use Rattle.std.specs.Prelude.{length, take}
use Rattle.std.specs.List.{list_any}
use Rattle.outside.specs.Disk.{Elapses}
use Rattle.outside.specs.Faults.{Rose}
use Rattle.outside.specs.declared.disk.Disk.{Ghosts as DiskGhosts}
use Rattle.log_journal.specs.Records.{Recorded, IsJournal, needed_bytes}
use Rattle.log_journal.specs.Walk.{records}
use Rattle.log_journal.specs.Journal.{disk_of, is_broken}
use Rattle.standby_core.specs.Copies.{Copy, copy_in}
use Rattle.standby_core.specs.declared.book.Held.{Held}

-- The bytes are a journal with this header of some first records of a copy, so many or more; where
-- an append to it failed, they may be one of all its records and one more.
abbrev pub HasCopied : List ℕ → ℕ → Copy → List ℕ → Type 0
HasCopied header least copy bytes =
    ((n : ℕ) × (least ≤ n) × IsJournal header (take n copy.records) bytes)
    ⊎ ((copy.failed ≡ true)
    × ((one : Recorded) × IsJournal header (copy.records ++ one ∷ []) bytes))

-- A journal was opened from a disk, its disk is another now, and this is its copy. Each crash
-- leaves the records of the copy; at each moment since it was opened each left those that it had
-- then, and some first ones of those that came. Unless an append failed, the disk has no more bytes
-- than it had, or than these records need.
pub record Lasts {D : Type 0} (Disk : DiskGhosts D) (header : List ℕ) (opened now : D)
    (copy : Copy) : Type 0 where
  pub more : List Recorded
  pub grew : copy.records ≡ records (Disk.reads opened) ++ more
  pub reads_it : copy.failed ≡ false → IsJournal header copy.records (Disk.reads now)
  pub size : copy.failed ≡ false → length (Disk.reads now)
      ≤ max (length (Disk.reads opened)) (needed_bytes copy.records)
  pub leaves_it : (c : List ℕ) → Disk.image now c → HasCopied header (length copy.records) copy c
  pub time : Elapses (Disk.moment opened) (Disk.moment now) (Disk.image_since opened)
      (Disk.image_since now)
  pub stood : (c : List ℕ) → Disk.image_since now (Disk.moment opened) c
      → HasCopied header (length (records (Disk.reads opened))) copy c

-- so it is with each journal, by the disk from which it was opened
abbrev pub AllLast : {D : Type 0} {g : _} → DiskGhosts D → List ℕ → List D → List (Held D g)
    → Type 0
AllLast Disk header [] [] = Unit {0}
AllLast Disk header (opened ∷ disks) (held ∷ all) =
    Lasts Disk header opened (disk_of held.journal) (copy_in Disk.reads held)
    × AllLast Disk header disks all
AllLast Disk header disks all = ⊥

-- the count of its disk's faults is no less than this one, and where an append failed it rose
pub record CountsItsRecords {D : Type 0} {g : _} (faults : D → ℕ) (count : ℕ) (held : Held D g) :
    Type 0 where
  pub later : count ≤ faults (disk_of held.journal)
  pub rose : is_broken held.journal ≡ true → Rose count (faults (disk_of held.journal))

-- so it is with each journal
abbrev pub CountTheirRecords : {D : Type 0} {g : _} → (D → ℕ) → List ℕ → List (Held D g) → Type 0
CountTheirRecords faults [] [] = Unit {0}
CountTheirRecords faults (count ∷ counts) (held ∷ all) =
    CountsItsRecords faults count held × CountTheirRecords faults counts all
CountTheirRecords faults counts all = ⊥

-- whether an append to one of them failed
abbrev pub has_broken : {D : Type 0} {g : _} → List (Held D g) → Bool
has_broken all = list_any (λ held. is_broken held.journal) all
