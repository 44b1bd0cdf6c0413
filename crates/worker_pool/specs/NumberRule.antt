-- The rule of the numbers: what holds between any two steps.
use Rattle.std.specs.Prelude.{◌≡◌, ℕ, ◌+◌, ◌*◌, ◌^◌, ◌≤◌, [], ◌∷◌, sum_by}
use mathlib.Core.Option.{some}
use lib.ListN.{get_elem?}
use Rattle.atomic_table.specs.Table.{State, Me, Step}
use Rattle.worker_pool.specs.declared.hand.Hand.{Hand}
use Rattle.worker_pool.specs.Hands.{sum_below, is_below, drawing_hand}

-- between any two steps
pub record NumberRule (s : State (Unit {0}) Hand) : Type 0 where
  -- the one word is the number that is drawn next
  pub next : ℕ
  pub words : s.words ≡ next ∷ []
  -- however numbers are weighed, those that were drawn weigh what all below the next one do: each
  -- was drawn once
  pub drawn : (f : ℕ → ℕ) → sum_by (λ hand. sum_by f hand.drawn) s.views ≡ sum_below f next
  -- there are 65 parts, and a hand without a part has drawn nothing
  pub parts : sum_by (λ hand. hand.parts) s.views ≡ 65
  pub idle : (k : ℕ) (hand : Hand) → get_elem? s.views k ≡ some hand → hand.parts ≡ 0
      → hand.drawn ≡ []
  -- the next number and the turns that are left have one sum
  pub turns : next + sum_by (λ hand. hand.turns) s.views ≡ 65 * 2 ^ 31

-- draw: the number found, and of the numbers below any n that this hand drew there are at most n
abbrev pub Drew : Step (Unit {0}) → Me (Unit {0}) Hand → ℕ → Me (Unit {0}) Hand → Type 0
Drew at hand found after = (after ≡ (drawing_hand hand.0 found, hand.1))
    × ((n : ℕ) → sum_by (is_below n) after.0.drawn ≤ n)
