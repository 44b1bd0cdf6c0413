-- A disk that was filled, as what stands under its name.
use Rattle.std.proofs.Common.{◌≡◌, ◌∙◌, sym, subst, List, ℕ, inl, inr, Option, Some}
use Rattle.outside.proofs.Taken.{taken_reads}
use Rattle.outside.specs.Shelf.{IsTaken, bytes_on}
use Rattle.outside.specs.declared.disk.Disk.{Ghosts as DiskGhosts}
use Rattle.init_engine.proofs.Reasons.{held_stays}
use Rattle.init_engine.specs.Stops.{Stays}
use Rattle.log_journal.specs.Opening.{IsOldJournal}
use Rattle.log_journal.specs.Records.{Recorded}
use Rattle.migrate_engine.specs.Moves.{IsFilled, IsFilledAt, IsHalfMade, IsMoved}
use Rattle.migrate_engine.specs.Stops.{LeavesDisk, LeavesUnfilled}
use Rattle.migrate_engine.specs.declared.end.Stop.{Stop}
use Rattle.migrate_engine.specs.declared.end.Stop.TheVariants as stop

module _ {D : Type 0} (Disk : DiskGhosts D) (header : List ℕ) where
  -- the same of what stands under the name of a disk that was taken and given back
  pub held_filled : (all : List Recorded) (held new : Option D) (disk after : D) → IsTaken Disk.reads Disk.image held disk → new ≡ Some after
      → IsFilled Disk header all (Disk.reads disk) after → IsFilledAt Disk header all held new
  held_filled all held new disk after is back filled = record {
    disk = after;
    stands = back;
    filled = subst (λ (b : List ℕ). IsFilled Disk header all b after) (taken_reads Disk.reads Disk.image held disk is) filled;
  }

  -- or that wasn't
  module _ (all : List Recorded) (held new : Option D) (disk after : D) (is : IsTaken Disk.reads Disk.image held disk) (back : new ≡ Some after) where
    stays_held : Stays Disk (Some disk) (Some after) → Stays Disk held new
    stays_held stays = subst (λ o. Stays Disk held o) (sym back) (held_stays Disk after held disk is stays)

    half_held : IsHalfMade Disk header all (Some disk) (Some after) → IsHalfMade Disk header all held new
    half_held (inl stays) = inl (stays_held stays)
    half_held (inr half) = inr (sym (taken_reads Disk.reads Disk.image held disk is) ∙ half.0, half.1, back ∙ half.2, half.3)

    pub held_left : (why : Stop) → LeavesDisk Disk header all disk after why → LeavesUnfilled Disk header all held new why
    held_left (stop.Refused why) left = absurd left
    held_left stop.NotEmpty left = stays_held left
    held_left stop.DiskFault left = half_held left
    held_left stop.ShelfFault left = absurd left
    held_left stop.Memory left = absurd left

  -- and of a user whose old journal had these records
  pub moved_of : (all all' : List Recorded) (source target mid target' : Option D) → all' ≡ all → mid ≡ target
      → IsOldJournal header all (bytes_on Disk.reads source) → IsFilledAt Disk header all' mid target' → IsMoved Disk header source target target'
  moved_of all all' source target mid target' list same old filled = record {
    all = all;
    old = old;
    filled = subst (λ (t : Option D). IsFilledAt Disk header all t target') same
        (subst (λ (l : List Recorded). IsFilledAt Disk header l mid target') list filled);
  }
