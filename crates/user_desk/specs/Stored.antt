-- What a desk's disk shows, now and since the desk was opened.
use Rattle.std.specs.Prelude.{◌≡◌, ℕ, ◌+◌, ◌≤◌, Bool, true, false, List}
use Rattle.outside.specs.Disk.{Elapses}
use Rattle.outside.specs.Faults.{Rose}
use Rattle.log_journal.specs.Records.{Recorded}
use Rattle.log_journal.specs.Walk.{AreThere}

-- a disk now and as a desk was opened on it; whether it has a journal, whether an append of that
-- failed, and how many bytes of room that has
pub record Stored (D : Type 0) : Type 0 where
  pub disk : D
  pub opened : D
  pub has_journal : Bool
  pub has_failed : Bool
  pub room : ℕ

module _ {D : Type 0} where
  -- the disk
  abbrev pub stored_disk : Stored D → D
  stored_disk store = store.disk

  -- the disk as the desk was opened
  abbrev pub opened_disk : Stored D → D
  opened_disk store = store.opened

  -- it has a journal
  abbrev pub has_journal : Stored D → Bool
  has_journal store = store.has_journal

  -- an append of its journal failed
  abbrev pub has_failed : Stored D → Bool
  has_failed store = store.has_failed

  -- it has room for a record of a text of this length, which is four bytes longer
  abbrev pub HasRoomFor : Stored D → ℕ → Type 0
  HasRoomFor store size = size + 4 ≤ store.room

module _ {D : Type 0} (tells : Type 0) (reads : D → List ℕ) (moment : D → ℕ)
    (since : D → ℕ → List ℕ → Type 0) (faults : D → ℕ) (heard : D → ℕ → Recorded → Type 0)
    (origin : D → List (List ℕ)) where
  -- Since the opening the clock has gone on, and the count of faults hasn't fallen; it rose where
  -- an append failed, and without a journal the disk is as it was. It comes from where it came. And
  -- what was told of is a record that lies there, where it was so.
  pub record GoesOn (store : Stored D) : Type 0 where
    pub time : Elapses (moment store.opened) (moment store.disk) (since store.opened)
        (since store.disk)
    pub count : faults store.opened ≤ faults store.disk
    pub cause : store.has_failed ≡ true → Rose (faults store.opened) (faults store.disk)
    pub idle : store.has_journal ≡ false → store.disk ≡ store.opened
    pub comes : origin store.disk ≡ origin store.opened
    pub there : tells → AreThere (heard store.opened) (reads store.opened)
        → AreThere (heard store.disk) (reads store.disk)
