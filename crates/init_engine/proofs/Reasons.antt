-- The reason at a disk that was taken is the reason at what stands under its name.
use Rattle.std.proofs.Common.{◌≡◌, ◌∙◌, sym, subst, inl, inr, ℕ, ◌≤◌, List, Option, Some, None, arith}
use Rattle.outside.proofs.Rises.{rose_wide}
use Rattle.outside.proofs.Taken.{taken_reads}
use Rattle.outside.specs.Faults.{Rose}
use Rattle.outside.specs.Shelf.{IsTaken}
use Rattle.outside.specs.declared.disk.Disk.{Ghosts as DiskGhosts}
use Rattle.log_journal.specs.Opening.{IsRefusedOf, RefusesOf}
use Rattle.log_journal.specs.declared.header.OpenError.{OpenError}
use Rattle.log_journal.specs.declared.header.OpenError.TheVariants.{NotAJournal, OtherPolicy, Damaged, DiskFault, Memory, OldVersion}
use Rattle.init_engine.specs.Stops.{HasReason, Stays, StaysAt}
use Rattle.init_engine.specs.declared.end.Stop.{Stop}
use Rattle.init_engine.specs.declared.end.Stop.TheVariants as stop

-- what stays of a disk that was taken stays of what was held
module _ {D : Type 0} (Disk : DiskGhosts D) (after : D) where
  pub held_stays : (held : Option D) (disk : D) → IsTaken Disk.reads Disk.image held disk → Stays Disk (Some disk) (Some after) → Stays Disk held (Some after)
  held_stays (Some held) disk is stays = subst (λ d. Stays Disk (Some d) (Some after)) is stays
  held_stays None disk is stays = record { bytes = stays.bytes ∙ is.0; images = λ c left. is.1 c (stays.images c left); rests = tt }

  pub held_stays_at : (held : Option D) (disk : D) → IsTaken Disk.reads Disk.image held disk → (why : Stop) → StaysAt Disk (Some disk) (Some after) why
      → StaysAt Disk held (Some after) why
  held_stays_at held disk is (stop.Refused why) stays = held_stays held disk is stays
  held_stays_at held disk is stop.DiskFault stays = λ some.
      held_stays held disk is (stays (λ none. some (sym (taken_reads Disk.reads Disk.image held disk is) ∙ none)))
  held_stays_at held disk is stop.ShelfFault stays = held_stays held disk is stays
  held_stays_at held disk is stop.Memory stays = held_stays held disk is stays

module _ (told told' : Type 0) (header bytes bytes' : List ℕ) (before before' now now' : ℕ) (gives : told' → told) (same : told' → bytes ≡ bytes')
    (le : before' ≤ before) (le' : now ≤ now') where
  pub refused_of : (kinds : ℕ) (why : OpenError) → IsRefusedOf kinds told header bytes before now why → IsRefusedOf kinds told' header bytes' before' now' why
  refused_of kinds NotAJournal is = λ t. subst (λ b. RefusesOf kinds header b NotAJournal) (same t) (is (gives t))
  refused_of kinds OtherPolicy is = λ t. subst (λ b. RefusesOf kinds header b OtherPolicy) (same t) (is (gives t))
  refused_of kinds (Damaged number) is = λ t. subst (λ b. RefusesOf kinds header b (Damaged number)) (same t) (is (gives t))
  refused_of kinds DiskFault is = rose_wide before' before now now' le le' is
  refused_of kinds Memory is = tt
  refused_of kinds OldVersion is = (is.0, λ t. subst (λ b. RefusesOf kinds header b OldVersion) (same t) (is.1 (gives t)))

  pub reason_of : (shelf_before shelf_before' shelf_now shelf_now' : ℕ) → (Rose shelf_before shelf_now → Rose shelf_before' shelf_now') → (why : Stop)
      → HasReason told header bytes before now shelf_before shelf_now why → HasReason told' header bytes' before' now' shelf_before' shelf_now' why
  reason_of sb sb' sn sn' rises (stop.Refused why) is = (λ t none. is.0 (gives t) (same t ∙ none), is.1, refused_of 5 why is.2)
  reason_of sb sb' sn sn' rises stop.DiskFault is = rose_wide before' before now now' le le' is
  reason_of sb sb' sn sn' rises stop.ShelfFault is = rises is
  reason_of sb sb' sn sn' rises stop.Memory is = tt

-- a count of 0 that stands at 0 didn't rise
pub none_rose : {P : Type 0} → Rose 0 0 → P
none_rose (inl less) = absurd (omega (arith, less))
none_rose (inr full) = absurd (omega (arith, full))
