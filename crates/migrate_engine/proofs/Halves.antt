-- What is told of one of a user's disks, as what is told of him.
use Rattle.std.proofs.Common.{◌≡◌, ◌∙◌, ℕ, ◌≤◌, List, Option}
use Rattle.outside.proofs.Rises.{rose_wide}
use Rattle.outside.specs.Faults.{Rose}
use Rattle.outside.specs.Shelf.{bytes_on}
use Rattle.outside.specs.declared.disk.Disk.{Ghosts as DiskGhosts}
use Rattle.log_journal.specs.Opening.{old_header, IsOldJournal, IsRefusedOld}
use Rattle.log_journal.specs.Records.{Recorded}
use Rattle.log_journal.specs.declared.header.OpenError.{OpenError}
use Rattle.log_journal.specs.declared.header.OpenError.TheVariants.{NotAJournal, OtherPolicy, Damaged, DiskFault, Memory, OldVersion}
use Rattle.init_engine.proofs.Reasons.{refused_of}
use Rattle.init_engine.specs.Ends.{Change}
use Rattle.migrate_engine.specs.Stops.{WasOpened, HasReason, LeavesTarget, LeavesUnfilled, IsUnread, IsUnfilled, stop_of}
use Rattle.migrate_engine.specs.declared.end.Stop.{Stop}
use Rattle.migrate_engine.specs.declared.end.Stop.TheVariants as stop

-- an old journal that isn't opened isn't read
pub unread_of : (told : Type 0) (header bytes : List ℕ) (before now : ℕ) (why : OpenError) → IsRefusedOld told header bytes before now why
    → IsUnread told header bytes before now 0 0 (stop_of why)
unread_of told header bytes before now NotAJournal refused = (λ is. (cc), refused)
unread_of told header bytes before now OtherPolicy refused = (λ is. (cc), refused)
unread_of told header bytes before now (Damaged number) refused = (λ is. (cc), refused)
unread_of told header bytes before now DiskFault refused = (λ is. (cc), refused)
unread_of told header bytes before now OldVersion refused = (λ is. (cc), refused)
unread_of told header bytes before now Memory refused = tt

-- ---- within a longer time, and of what stands under the name of a disk that was taken

module _ (told told' : Type 0) (header bytes bytes' : List ℕ) (before before' now now' : ℕ) (gives : told' → told) (same : told' → bytes ≡ bytes')
    (le : before' ≤ before) (le' : now ≤ now') (sb sb' sn sn' : ℕ) (rises : Rose sb sn → Rose sb' sn') where
  pub unread_wide : (why : Stop) → IsUnread told header bytes before now sb sn why → IsUnread told' header bytes' before' now' sb' sn' why
  unread_wide (stop.Refused why) is =
      (is.0, refused_of told told' (old_header header) bytes bytes' before before' now now' gives same le le' 4 why is.1)
  unread_wide stop.NotEmpty is = absurd is
  unread_wide stop.DiskFault is = absurd is
  unread_wide stop.ShelfFault is = rises is
  unread_wide stop.Memory is = tt

  pub unfilled_wide : (why : Stop) → IsUnfilled told bytes before now sb sn why → IsUnfilled told' bytes' before' now' sb' sn' why
  unfilled_wide (stop.Refused why) is = absurd is
  unfilled_wide stop.NotEmpty is = λ t none. is (gives t) (same t ∙ none)
  unfilled_wide stop.DiskFault is = rose_wide before' before now now' le le' is
  unfilled_wide stop.ShelfFault is = rises is
  unfilled_wide stop.Memory is = tt

-- ---- the reason at a user

module _ {D : Type 0} (told : Type 0) (Disk : DiskGhosts D) (header source target : List ℕ) (change : Change D) where
  pub unread_reason : (why : Stop)
      → IsUnread told header (bytes_on Disk.reads (change.old source)) (change.before source) (change.now source) change.shelf_before change.shelf_now why
      → HasReason told Disk header source target change why
  unread_reason (stop.Refused why) is = is
  unread_reason stop.NotEmpty is = absurd is
  unread_reason stop.DiskFault is = absurd is
  unread_reason stop.ShelfFault is = is
  unread_reason stop.Memory is = tt

  pub unfilled_reason : WasOpened told Disk header source target change → (why : Stop)
      → IsUnfilled told (bytes_on Disk.reads (change.old target)) (change.before target) (change.now target) change.shelf_before change.shelf_now why
      → HasReason told Disk header source target change why
  unfilled_reason opened (stop.Refused why) is = absurd is
  unfilled_reason opened stop.NotEmpty is = (opened, is)
  unfilled_reason opened stop.DiskFault is = (opened, is)
  unfilled_reason opened stop.ShelfFault is = is
  unfilled_reason opened stop.Memory is = tt

-- ---- what is left of the new journal's disk

module _ {D : Type 0} (Disk : DiskGhosts D) (header : List ℕ) (before after : Option D) where
  -- it wasn't touched, since the old journal wasn't read
  pub unread_left : (told : Type 0) (source : List ℕ) (from to sb sn : ℕ) → after ≡ before → (bytes : List ℕ) (why : Stop)
      → IsUnread told header bytes from to sb sn why → LeavesTarget Disk header source before after why
  unread_left told source from to sb sn same bytes (stop.Refused why) is = same
  unread_left told source from to sb sn same bytes stop.NotEmpty is = absurd is
  unread_left told source from to sb sn same bytes stop.DiskFault is = absurd is
  unread_left told source from to sb sn same bytes stop.ShelfFault is = same
  unread_left told source from to sb sn same bytes stop.Memory is = same

  -- it wasn't filled with the records of the old one
  pub unfilled_left : (source : List ℕ) (all : List Recorded) → IsOldJournal header all source → (why : Stop)
      → LeavesUnfilled Disk header all before after why → LeavesTarget Disk header source before after why
  unfilled_left source all old (stop.Refused why) is = absurd is
  unfilled_left source all old stop.NotEmpty is = is
  unfilled_left source all old stop.DiskFault is = (all, old, is)
  unfilled_left source all old stop.ShelfFault is = is
  unfilled_left source all old stop.Memory is = is
