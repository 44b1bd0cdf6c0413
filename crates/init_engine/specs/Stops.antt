-- Why one user's journal isn't made.
use Rattle.std.specs.Prelude.{◌≡◌, ◌≢◌, ℕ, List, [], Option}
use Rattle.outside.specs.Shelf.{bytes_on, image_on, NoNewSince}
use Rattle.outside.specs.Faults.{Rose}
use Rattle.outside.specs.declared.disk.Disk.{Ghosts as DiskGhosts}
use Rattle.log_journal.specs.Opening.{IsRefused, IsOnlyRead}
use Rattle.log_journal.specs.declared.header.OpenError.{OpenError}
use Rattle.log_journal.specs.declared.header.OpenError.TheVariants.{Memory}
use Rattle.init_engine.specs.declared.end.Stop.{Stop}
use Rattle.init_engine.specs.declared.end.Stop.TheVariants as stop

-- Why it stopped at a disk with these bytes and, before and after, these counts of its faults and
-- of the shelf's.
abbrev pub HasReason : Type 0 → List ℕ → List ℕ → ℕ → ℕ → ℕ → ℕ → Stop → Type 0
HasReason told header bytes before now shelf_before shelf_now (stop.Refused why) =
    (told → bytes ≢ []) × (why ≢ Memory) × IsRefused told header bytes before now why
HasReason told header bytes before now shelf_before shelf_now stop.DiskFault = Rose before now
HasReason told header bytes before now shelf_before shelf_now stop.ShelfFault =
    Rose shelf_before shelf_now
HasReason told header bytes before now shelf_before shelf_now stop.Memory = Unit {0}

module _ {D : Type 0} (Disk : DiskGhosts D) where
  -- what was done between only reads the disk
  abbrev pub OnlyReads : D → D → Type 0
  OnlyReads before after = IsOnlyRead (Disk.reads before) (Disk.reads after) (Disk.image before)
      (Disk.image after) (Disk.moment before) (Disk.moment after) (Disk.image_since before)
      (Disk.image_since after) (Disk.faults before) (Disk.faults after)

  -- what stood under a name has its bytes, and a crash leaves nothing new, now and at each moment
  -- of the call
  pub record Stays (before after : Option D) : Type 0 where
    pub bytes : bytes_on Disk.reads after ≡ bytes_on Disk.reads before
    pub images : (c : List ℕ) → image_on Disk.image after c → image_on Disk.image before c
    pub rests : NoNewSince Disk.moment Disk.image_since Disk.image before after

  -- At this stop it stays. Only what had no bytes may have others, where it failed.
  abbrev pub StaysAt : Option D → Option D → Stop → Type 0
  StaysAt before after stop.DiskFault = bytes_on Disk.reads before ≢ [] → Stays before after
  StaysAt before after why = Stays before after

-- why a user is stopped at whose journal isn't opened
abbrev pub stop_of : OpenError → Stop
stop_of Memory = stop.Memory
stop_of why = stop.Refused why
