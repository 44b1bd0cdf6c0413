-- The first clause that a trail falsifies.
use Rattle.std.proofs.Common.{◌≡◌, ℕ, zero, suc, ◌+◌, ◌<◌, ◌≤◌, Bool, true, false, cond, ◌||◌, List, [], ◌∷◌, ◌++◌, length, length-append, get_or, Option, Some}
use Rattle.std.proofs.Common.{None}
use Rattle.std.proofs.Common.{refl, sym, ap, ◌∙◌, subst, inl, inr, ⊎_elim, ◌⊎◌, arith}
use Rattle.std.specs.Prelude.{nat_le}
use Rattle.std.specs.List.{list_all}
use Rattle.std.proofs.lemmas.Bool.{both_ways, cases_lt, or_parts, leb-true, leb-false}
use Rattle.std.proofs.lemmas.List.{get_or-append-add, get_or_append_left}
use Rattle.cqe_base.specs.Literal.{Literal}
use Rattle.cqe_base.specs.Machine.{Assigned, is_false}
use Rattle.cqe_base.specs.KeptTrail.{has_conflict, latest_place, IsFirstFalsified}
use Rattle.clause_solver.specs.KeptStates.{IsFirstOfFalsified, IsLeastFalsified, IsFalsifiedAt, place_at, sooner}
use Rattle.clause_solver.specs.declared.falsified.Falsified.{Falsified}

abbrev pub first_at : ℕ → ℕ → Falsified
first_at place number = record { place = place; number = number }

-- ---- one more clause

module _ (cs : List (List Literal)) (t : List Assigned) (start k : ℕ) (c : List Literal) (at : get_or cs k [] ≡ c) (low : start ≤ k) where
  same_number : (i : ℕ) → i < k + 1 → k ≤ i → i ≡ k
  same_number i hi ge = omega arith

  -- one that isn't falsified
  pub skipped : (o : Option Falsified) → list_all (is_false t) c ≡ false → IsFirstOfFalsified cs t start k o → IsFirstOfFalsified cs t start (k + 1) o
  skipped None none h = λ i lo hi f. elim (cases_lt i k) [
    | inl lt ↦ h i lo lt f
    | inr ge ↦ absurd (both_ways _ none (subst (λ x. list_all (is_false t) x ≡ true) at (subst (IsFalsifiedAt cs t) (same_number i hi ge) f)))
  ]
  skipped (Some b) none h = record {
    lowest = h.lowest;
    below = let lt = h.below in omega arith;
    falsified = h.falsified;
    placed = h.placed;
    least = λ i lo hi f. elim (cases_lt i k) [
      | inl lt ↦ h.least i lo lt f
      | inr ge ↦ absurd (both_ways _ none (subst (λ x. list_all (is_false t) x ≡ true) at (subst (IsFalsifiedAt cs t) (same_number i hi ge) f)))
    ];
  }

  -- one that is
  module _ (place : ℕ) (false_now : list_all (is_false t) c ≡ true) (is : place ≡ latest_place t c) where
    falsified_here : IsFalsifiedAt cs t k
    falsified_here = ap (list_all (is_false t)) at ∙ false_now

    placed_here : place_at cs t k ≡ place
    placed_here = ap (latest_place t) at ∙ sym is

    placed_at : (i : ℕ) → i < k + 1 → k ≤ i → place ≡ place_at cs t i
    placed_at i hi ge = sym placed_here ∙ ap (place_at cs t) (sym (same_number i hi ge))

    pub found : (o : Option Falsified) → IsFirstOfFalsified cs t start k o → IsFirstOfFalsified cs t start (k + 1) (sooner o (first_at place k))
    found None h = record {
      lowest = low;
      below = omega arith;
      falsified = falsified_here;
      placed = placed_here;
      least = λ i lo hi f. elim (cases_lt i k) [ inl lt ↦ absurd (h i lo lt f) | inr ge ↦ inr (placed_at i hi ge, ge) ];
    }
    found (Some b) h = step (nat_le b.place place) refl
      where
        step : (x : Bool) → nat_le b.place place ≡ x → IsFirstOfFalsified cs t start (k + 1) (cond x (Some b) (Some (first_at place k)))
        step true e = record {
          lowest = h.lowest;
          below = let lt = h.below in omega arith;
          falsified = h.falsified;
          placed = h.placed;
          least = λ i lo hi f. elim (cases_lt i k) [
            | inl lt ↦ h.least i lo lt f
            | inr ge ↦ later i hi ge (leb-true b.place place e)
          ];
        }
          where
            later : (i : ℕ) → i < k + 1 → k ≤ i → b.place ≤ place → (b.place < place_at cs t i) ⊎ ((b.place ≡ place_at cs t i) × (b.number ≤ i))
            later i hi ge le = let same = placed_at i hi ge in let lt = h.below in elim (cases_lt b.place place) [
              | inl less ↦ inl (omega arith)
              | inr more ↦ inr (omega arith, omega arith)
            ]
        step false e = record {
          lowest = low;
          below = omega arith;
          falsified = falsified_here;
          placed = placed_here;
          least = λ i lo hi f. elim (cases_lt i k) [
            | inl lt ↦ let less = leb-false b.place place e in inl (⊎_elim (λ z. omega arith) (λ z. let same = z.0 in omega arith) (h.least i lo lt f))
            | inr ge ↦ inr (placed_at i hi ge, ge)
          ];
        }

-- no clause yet
pub none_yet : (cs : List (List Literal)) (t : List Assigned) (start : ℕ) → IsFirstOfFalsified cs t start start None
none_yet cs t start = λ i lo hi f. omega arith

-- ---- behind the kept clauses

-- no clause has only false literals
pub no_conflict : (t : List Assigned) (cs : List (List Literal)) → ((i : ℕ) → i < length cs → IsFalsifiedAt cs t i → ⊥) → has_conflict t cs ≡ false
no_conflict t [] h = refl
no_conflict t (c ∷ cs) h = step (list_all (is_false t) c) refl (no_conflict t cs (λ i lt f. h (suc i) (omega arith) f))
  where
    step : (b : Bool) → list_all (is_false t) c ≡ b → has_conflict t cs ≡ false → (b || has_conflict t cs) ≡ false
    step true e go = absurd (h 0 (omega arith) e)
    step false e go = go

pub not_falsified : (t : List Assigned) (cs : List (List Literal)) (i : ℕ) → i < length cs → has_conflict t cs ≡ false → list_all (is_false t) (get_or cs i [])
    ≡ false
not_falsified t [] i lt h = absurd (omega arith)
not_falsified t (c ∷ cs) zero lt h = (or_parts (list_all (is_false t) c) (has_conflict t cs) h).0
not_falsified t (c ∷ cs) (suc i) lt h = not_falsified t cs i (omega arith) (or_parts (list_all (is_false t) c) (has_conflict t cs) h).1

module _ (t : List Assigned) (kept more : List (List Literal)) where
  size : length (kept ++ more) ≡ length kept + length more
  size = length-append kept more

  pub none_of_more : IsFirstOfFalsified (kept ++ more) t (length kept) (length (kept ++ more)) None → has_conflict t more ≡ false
  none_of_more h = no_conflict t more (λ i lt f. h (length kept + i) (omega arith) (let e = size in omega arith)
      (ap (list_all (is_false t)) (get_or-append-add kept more i []) ∙ f))

  pub first_of_all : (f : Falsified) → has_conflict t kept ≡ false → IsLeastFalsified (kept ++ more) t (length kept) (length (kept ++ more)) f
      → IsFirstFalsified (kept ++ more) t f.place f.number
  first_of_all f calm h = record {
    within = h.below;
    falsified = h.falsified;
    placed = h.placed;
    least = λ i lt g. elim (cases_lt i (length kept)) [
      | inl old ↦ absurd (both_ways _ (ap (list_all (is_false t)) (get_or_append_left kept more [] i old) ∙ not_falsified t kept i old calm) g)
      | inr ge ↦ h.least i ge lt g
    ];
  }
