-- Doors that are given back one after the other.
use Rattle.std.proofs.Common.{◌≡◌, ◌≢◌, ◌⊎◌, inl, inr, ℕ, ◌+◌, ◌≤◌, List, [], ◌∷◌, ◌++◌, sym, ap, ◌∙◌, append_assoc, append-nil, arith}
use Rattle.std.specs.List.{sum_by, flat_map}
use Rattle.std.proofs.lemmas.List.Sums.{sum_by-append}
use Rattle.std.proofs.lemmas.Grind.{flat_map-append}
use Rattle.outside.proofs.Rises.{rose_wide}
use Rattle.outside.specs.Faults.{Rose}
use Rattle.serve_engine.specs.Doors.{SomeFailed}

module _ {O : Type 0} where
  -- one more door counts what it counts more
  pub sum_more : (f : O → ℕ) (doors : List O) (door : O) (old mid new : ℕ) → mid ≡ old + sum_by f doors → new ≡ mid + f door
      → new ≡ old + sum_by f (doors ++ door ∷ [])
  sum_more f doors door old mid new so_far is =
      let more = sum_by-append f doors (door ∷ []) in
      omega (arith, so_far, is, more)

  -- and what it brings stands behind
  pub flat_more : {A : Type 0} (f : O → List A) (doors : List O) (door : O) (old mid new : List A) → mid ≡ old ++ flat_map f doors → new ≡ mid ++ f door
      → new ≡ old ++ flat_map f (doors ++ door ∷ [])
  flat_more f doors door old mid new so_far is =
      is ∙ ap (λ l. l ++ f door) so_far ∙ append_assoc old (flat_map f doors) (f door)
      ∙ ap (λ l. old ++ l) (ap (λ l. flat_map f doors ++ l) (sym (append-nil (f door))) ∙ sym (flat_map-append f doors (door ∷ [])))

  failed_before : (faults : O → ℕ) (doors : List O) (door : O) → SomeFailed faults (doors ++ door ∷ []) → SomeFailed faults doors ⊎ (faults door ≢ 0)
  failed_before faults [] door (inl here) = inr here
  failed_before faults [] door (inr none) = absurd none
  failed_before faults (d ∷ doors) door (inl here) = inl (inl here)
  failed_before faults (d ∷ doors) door (inr further) = by (failed_before faults doors door further)
    where
      by : SomeFailed faults doors ⊎ (faults door ≢ 0) → SomeFailed faults (d ∷ doors) ⊎ (faults door ≢ 0)
      by (inl deep) = inl (inr deep)
      by (inr last) = inr last

  -- where one of the doors failed, the count rose, which doesn't fall
  pub failed_more : (faults : O → ℕ) (doors : List O) (door : O) (first mid now : ℕ) → first ≤ mid → mid ≤ now → (SomeFailed faults doors → Rose first mid)
      → (faults door ≢ 0 → Rose mid now) → SomeFailed faults (doors ++ door ∷ []) → Rose first now
  failed_more faults doors door first mid now before after so_far this failed = by (failed_before faults doors door failed)
    where
      by : SomeFailed faults doors ⊎ (faults door ≢ 0) → Rose first now
      by (inl some) = rose_wide first first mid now (omega arith) after (so_far some)
      by (inr last) = rose_wide first mid now now before (omega arith) (this last)
