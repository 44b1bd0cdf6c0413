-- A trail over numbered variables, and what is kept of it at hand.
use Rattle.std.specs.Prelude.{◌≡◌, ℕ, suc, ◌<◌, ◌≤◌, ◌*◌, Bool, true, false, ◌==◌, if◌then◌else◌}
use Rattle.std.specs.Prelude.{List, [], ◌∷◌, length, Option, Some, None, slice_index_or}
use Rattle.cqe_base.specs.Literal.{Literal, Positive, variable_of}
use Rattle.cqe_base.specs.Machine.{Assigned, assigned_literal, is_true, level, level_of}
use Rattle.cqe_base.specs.MachineStates.{is_assigned, IsDistinct}
use Rattle.clause_store.specs.Codes.{code_of}

-- a trail, and how many variables there are
pub record Assigning : Type 0 where
  pub variables : ℕ
  pub trail : List Assigned

-- how long the trail is up to and with a variable, and 0 where that isn't assigned
abbrev pub place_of : List Assigned → ℕ → ℕ
place_of [] v = 0
place_of (a ∷ trail) v =
    if v == variable_of (assigned_literal a) then suc (length trail) else place_of trail v

-- the truth of each literal, the sign, the level and the place of each variable, the level, and a
-- number below which each variable is assigned are those of the trail
pub record IsKept (n : ℕ) (trail : List Assigned) (truths signs : List Bool)
    (levels places : List ℕ) (decisions next : ℕ) : Type 0 where
  pub once : IsDistinct n trail
  pub truths_room : 2 * n ≤ length truths
  pub signs_room : n ≤ length signs
  pub levels_room : n ≤ length levels
  pub places_room : n ≤ length places
  pub true_at : (l : Literal) → slice_index_or truths (code_of l) false ≡ is_true trail l
  pub sign_at : (v : ℕ) → slice_index_or signs v false ≡ is_true trail (Positive v)
  pub level_at : (v : ℕ) → slice_index_or levels v 0 ≡ level_of trail (Positive v)
  pub place_at : (v : ℕ) → slice_index_or places v 0 ≡ place_of trail v
  pub level_is : decisions ≡ level trail
  pub assigned_below : (v : ℕ) → v < next → is_assigned trail v ≡ true
  pub next_room : next ≤ n

-- the first number from one up to another at which a list has 0
abbrev pub IsFirstZero : List ℕ → ℕ → ℕ → Option ℕ → Type 0
IsFirstZero xs start end None = (k : ℕ) → start ≤ k → k < end → slice_index_or xs k 0 ≡ 0 → ⊥
IsFirstZero xs start end (Some i) =
    (start ≤ i) × (i < end) × (slice_index_or xs i 0 ≡ 0)
    × ((k : ℕ) → start ≤ k → k < i → slice_index_or xs k 0 ≡ 0 → ⊥)
