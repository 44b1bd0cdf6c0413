-- The numbers of a heap's values, of which the first one has the least.
use Rattle.std.proofs.Common.{◌≡◌, ℕ, ◌<◌, ◌≤◌, true, false, eqb, ◌||◌, List, [], ◌∷◌, length, map, Option, Some, None, refl, sym, ap, ◌∙◌, subst, ⊎_elim}
use Rattle.std.proofs.Common.{arith}
use Rattle.std.specs.Prelude.{slice_index_or, IfSome, IfNone}
use Rattle.std.specs.List.{list_any}
use Rattle.std.specs.List.Sorted.{IsPermutation}
use Rattle.std.specs.BinaryHeap.{IsHeap, IsUpperBound, PopsGreatest}
use Rattle.std.specs.Ordering.{nat_cmp}
use Rattle.std.proofs.lemmas.List.{length-map}
use Rattle.std.proofs.lemmas.List.Sorted.{list_any-IsPermutation, length_permutation}
use Rattle.std.proofs.lemmas.Map.Keys.{ge_from_not_lt}
use Rattle.std.proofs.lemmas.Bool.{both_ways, or_cases, or_left, or_right, eq-eqb, eqb-true}
use Rattle.clause_solver.specs.Watching.{has_number, IsLeast, IsWithout}

module _ {X : Type 0} (f : X → ℕ) where
  -- a number of a list of values is found among them
  number_of : (xs : List X) (i : ℕ) → has_number (map f xs) i ≡ list_any (λ x. eqb (f x) i) xs
  number_of [] i = refl
  number_of (x ∷ xs) i = ap (λ b. eqb (f x) i || b) (number_of xs i)

  -- the same values in another order have the same numbers
  pub same_numbers : (xs ys : List X) (i : ℕ) → IsPermutation xs ys → has_number (map f xs) i ≡ has_number (map f ys) i
  same_numbers xs ys i h = number_of xs i ∙ list_any-IsPermutation (λ x. eqb (f x) i) xs ys h ∙ sym (number_of ys i)

  no_number : (xs : List X) (k : ℕ) → length xs ≡ 0 → has_number (map f xs) k ≡ true → ⊥
  no_number [] k e h = both_ways false refl h
  no_number (x ∷ xs) k e h = omega arith

  -- what is above none in the heap's order is below each number
  below_each : (x : X) (xs : List X) (k : ℕ) → IsUpperBound (λ a b. nat_cmp (f b) (f a)) x xs → has_number (map f xs) k ≡ true → f x ≤ k
  below_each x [] k h e = absurd (both_ways false refl e)
  below_each x (y ∷ ys) k h e =
      ⊎_elim (λ u. subst (λ m. f x ≤ m) (eqb-true (f y) k u) (ge_from_not_lt (f y) (f x) h.0)) (λ u. below_each x ys k h.1 u) (or_cases _ _ e)

  first_there : (x : X) (xs : List X) → 0 < length xs → x ≡ slice_index_or xs 0 x → has_number (map f xs) (f x) ≡ true
  first_there x [] lt e = absurd (omega arith)
  first_there x (y ∷ ys) lt e = or_left _ _ (eq-eqb _ _ (ap f (sym e)))

  pub first_is_least : (x : X) (xs : List X) → 0 < length xs → x ≡ slice_index_or xs 0 x → IsUpperBound (λ a b. nat_cmp (f b) (f a)) x xs
      → IsLeast (map f xs) (f x)
  first_is_least x xs lt e h = record { there = first_there x xs lt e; low = λ k. below_each x xs k h }

  without : (x : X) (xs ys : List X) (k : ℕ) → f x ≡ k → IsPermutation xs (x ∷ ys) → IsWithout k (map f xs) (map f ys)
  without x xs ys k e h = record {
    fewer = λ i has. same_numbers xs (x ∷ ys) i h ∙ or_right _ _ has;
    others = λ i ne has.
        ⊎_elim (λ u. absurd (ne (sym (eqb-true (f x) i u) ∙ e))) (λ u. u) (or_cases _ _ (sym (same_numbers xs (x ∷ ys) i h) ∙ has));
    shorter = let a = length_permutation xs (x ∷ ys) h in let b = length-map xs f in let c = length-map ys f in omega arith;
  }

  -- the value that is popped has the least number
  pub popped : (o : Option X) (xs ys : List X) (size k : ℕ) → size ≡ length xs → IsHeap (λ a b. nat_cmp (f b) (f a)) xs
      → IfSome o (λ x. IsPermutation xs (x ∷ ys)) → IfSome o (λ x. PopsGreatest (λ a b. nat_cmp (f b) (f a)) xs x ys) → IfNone o (size ≡ 0)
      → IsLeast (map f xs) k → IsWithout k (map f xs) (map f ys)
  popped None xs ys size k same heap permuted greatest none l = absurd (no_number xs k (sym same ∙ none) l.there)
  popped (Some x) xs ys size k same heap permuted greatest none l =
      let above = below_each x xs k (greatest heap).1 l.there in
      let below = l.low (f x) (same_numbers xs (x ∷ ys) (f x) permuted ∙ or_left _ _ (eq-eqb (f x) (f x) refl)) in
      let e : f x ≡ k = omega arith in
      without x xs ys k e permuted
