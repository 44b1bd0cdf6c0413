-- What becomes of the disks of users whose journals are moved.
use Rattle.std.specs.Prelude.{◌≡◌, ◌≢◌, ◌⊎◌, ℕ, ◌<◌, List, [], ◌∷◌, ◌++◌, take, false, bytes_eq}
use Rattle.std.specs.Prelude.{slice_get, Option, Some}
use Rattle.outside.specs.Disk.{Only, Elapses}
use Rattle.outside.specs.Shelf.{bytes_on}
use Rattle.outside.specs.declared.disk.Disk.{Ghosts as DiskGhosts}
use Rattle.init_engine.specs.Stops.{Stays}
use Rattle.log_journal.specs.Names.{journal_name}
use Rattle.log_journal.specs.Opening.{first_eight, IsOldJournal}
use Rattle.log_journal.specs.Records.{Recorded, written, IsJournal}

-- Under every name but these two the same stands as before.
abbrev pub SameBut : {A : Type 0} → List ℕ → List ℕ → (List ℕ → A) → (List ℕ → A) → Type 0
SameBut one two old new = (other : List ℕ) → bytes_eq other one ≡ false
    → bytes_eq other two ≡ false → new other ≡ old other

-- eight bytes with which no journal begins
abbrev pub shut_eight : List ℕ
shut_eight = 0 ∷ 0 ∷ 0 ∷ 0 ∷ 0 ∷ 0 ∷ 0 ∷ 0 ∷ []

-- these bytes begin so
abbrev pub IsShut : List ℕ → Type 0
IsShut bytes = take 8 bytes ≡ shut_eight

-- The bytes don't begin as a journal, so that they are opened as none; or they are the journal with
-- this header and all of these records.
abbrev pub IsNoneOrWhole : List ℕ → List Recorded → List ℕ → Type 0
IsNoneOrWhole header all bytes = (take 8 bytes ≢ first_eight) ⊎ IsJournal header all bytes

module _ {D : Type 0} (Disk : DiskGhosts D) where
  -- What was done between left the first eight bytes of each image shut, at each moment.
  pub record StaysShut (before after : D) : Type 0 where
    pub images : (c : List ℕ) → Disk.image after c → IsShut c
    pub moments : (c : List ℕ) → Disk.image_since after (Disk.moment before) c → IsShut c
    pub time : Elapses (Disk.moment before) (Disk.moment after) (Disk.image_since before)
        (Disk.image_since after)

  -- To an empty disk, of which no crash left anything, eight shut bytes were to be written: their
  -- sync failed, or their write, and then no moment left anything but what a crash may leave now.
  pub record FailsFirst (after : D) : Type 0 where
    pub empty : D
    pub bytes : Disk.reads empty ≡ []
    pub durable : Only [] (Disk.image empty)
    pub time : Elapses (Disk.moment empty) (Disk.moment after) (Disk.image_since empty)
        (Disk.image_since after)
    pub left : (Disk.reads after ≡ shut_eight)
        ⊎ ((c : List ℕ) → Disk.image_since after (Disk.moment empty) c
        → (c ≡ []) ⊎ Disk.image after c)

module _ {D : Type 0} (Disk : DiskGhosts D) (header : List ℕ) where
  -- Once eight shut bytes were all that a disk read and that a crash left. Since then it opens as
  -- no journal or as the whole one, at no moment as one with fewer records.
  pub record IsMaking (all : List Recorded) (after : D) : Type 0 where
    pub begun : D
    pub bytes : Disk.reads begun ≡ shut_eight
    pub durable : Only shut_eight (Disk.image begun)
    pub images : (c : List ℕ) → Disk.image after c → IsNoneOrWhole header all c
    pub moments : (c : List ℕ) → Disk.image_since after (Disk.moment begun) c
        → IsNoneOrWhole header all c
    pub time : Elapses (Disk.moment begun) (Disk.moment after) (Disk.image_since begun)
        (Disk.image_since after)

  -- A disk that had no bytes is a journal with this header and these records, and nothing lies
  -- behind its closed gate. A crash leaves this and nothing else. On the way it opened as no other.
  pub record IsFilled (all : List Recorded) (before : List ℕ) (disk : D) : Type 0 where
    pub empty : before ≡ []
    pub bytes : Disk.reads disk ≡ header ++ written all ++ 0 ∷ []
    pub journal : IsJournal header all (Disk.reads disk)
    pub durable : Only (Disk.reads disk) (Disk.image disk)
    pub making : IsMaking all disk

  -- What stood under a name stays; or it had no bytes, and of the journal that was to be made of it
  -- the first eight bytes weren't written, or it opens as none or as the whole one.
  abbrev pub IsHalfMade : List Recorded → Option D → Option D → Type 0
  IsHalfMade all before after = Stays Disk before after
      ⊎ ((bytes_on Disk.reads before ≡ []) × (disk : D) × (after ≡ Some disk)
      × (FailsFirst Disk disk ⊎ IsMaking all disk))

  -- The same of what stands under a name.
  pub record IsFilledAt (all : List Recorded) (before after : Option D) : Type 0 where
    pub disk : D
    pub stands : after ≡ Some disk
    pub filled : IsFilled all (bytes_on Disk.reads before) disk

  -- What stood under one name was a journal of version 1 with the digests of this header. What
  -- stands under another, where nothing was, is a journal with this header and the same records.
  pub record IsMoved (source target target' : Option D) : Type 0 where
    pub all : List Recorded
    pub old : IsOldJournal header all (bytes_on Disk.reads source)
    pub filled : IsFilledAt all target target'

  -- Of these users the first are moved, no disk is touched but the two of each of the first of
  -- them, and the old journals of all stay as they were.
  pub record Moves (from to : List ℕ) (names : List (List ℕ)) (old new : List ℕ → Option D)
      (moved touched : ℕ) : Type 0 where
    pub are : (i : ℕ) (name : List ℕ) → i < moved → slice_get names i ≡ Some name
        → IsMoved (old (journal_name from name)) (old (journal_name to name))
        (new (journal_name to name))
    pub sources : (i : ℕ) (name : List ℕ) → slice_get names i ≡ Some name
        → Stays Disk (old (journal_name from name)) (new (journal_name from name))
    pub others : (other : List ℕ)
        → ((i : ℕ) (name : List ℕ) → i < touched → slice_get names i ≡ Some name
        → (bytes_eq other (journal_name from name) ≡ false)
        × (bytes_eq other (journal_name to name) ≡ false)) → new other ≡ old other
