-- Sums over a list that is read by `get_elem?` and set at a place.
use Rattle.std.proofs.Common.{◌≡◌, ◌≢◌, ℕ, zero, suc, ◌+◌, ◌<◌, ◌≤◌, List, [], ◌∷◌, ◌++◌, set, sum_by, refl, sym, ap, arith}
use Rattle.std.proofs.lemmas.List.Sums.{sum_by-cons, sum_by_push}
use mathlib.Core.Logic.{dite}
use native.Mathlib.Decide.{dec_le}
use mathlib.Core.Option.{some, some-injective, some-ne-none}
use lib.ListN.{get_elem?}

module _ {X : Type 0} where
  -- a place that is there still is, once it is set
  pub set_there : (l : List X) (i : ℕ) (a b : X) → get_elem? l i ≡ some a → get_elem? (set l i b) i ≡ some b
  set_there [] i a b e = absurd (some-ne-none a (sym e))
  set_there (x ∷ xs) zero a b e = refl
  set_there (x ∷ xs) (suc i) a b e = set_there xs i a b e

module _ {X : Type 0} (f : X → ℕ) where
  -- what a sum becomes where one term is replaced
  pub sum_set : (l : List X) (i : ℕ) (a b : X) → get_elem? l i ≡ some a → sum_by f (set l i b) + f a ≡ sum_by f l + f b
  sum_set [] i a b e = absurd (some-ne-none a (sym e))
  sum_set (x ∷ xs) zero a b e = let same : f x ≡ f a = ap f (some-injective x a e) in omega (arith, sum_by-cons f x xs, sum_by-cons f b xs)
  sum_set (x ∷ xs) (suc i) a b e = omega (arith, sum_by-cons f x xs, sum_by-cons f x (set xs i b), sum_set xs i a b e)

  -- a term is at most the sum
  pub sum_at : (l : List X) (i : ℕ) (a : X) → get_elem? l i ≡ some a → f a ≤ sum_by f l
  sum_at [] i a e = absurd (some-ne-none a (sym e))
  sum_at (x ∷ xs) zero a e = let same : f x ≡ f a = ap f (some-injective x a e) in omega (arith, sum_by-cons f x xs)
  sum_at (x ∷ xs) (suc i) a e = omega (arith, sum_by-cons f x xs, sum_at xs i a e)

  -- so are two terms at different places
  pub sum_two : (l : List X) (i j : ℕ) (a b : X) → i ≢ j → get_elem? l i ≡ some a → get_elem? l j ≡ some b → f a + f b ≤ sum_by f l
  sum_two [] i j a b n e h = absurd (some-ne-none a (sym e))
  sum_two (x ∷ xs) zero zero a b n e h = absurd (n refl)
  sum_two (x ∷ xs) zero (suc j) a b n e h = let same : f x ≡ f a = ap f (some-injective x a e) in omega (arith, sum_by-cons f x xs, sum_at xs j b h)
  sum_two (x ∷ xs) (suc i) zero a b n e h = let same : f x ≡ f b = ap f (some-injective x b h) in omega (arith, sum_by-cons f x xs, sum_at xs i a e)
  sum_two (x ∷ xs) (suc i) (suc j) a b n e h = omega (arith, sum_by-cons f x xs, sum_two xs i j a b (λ s. n (ap suc s)) e h)

  -- a sum that isn't 0 has a term that isn't
  pub sum_some : (l : List X) → 0 < sum_by f l → (i : ℕ) × (a : X) × (get_elem? l i ≡ some a) × (0 < f a)
  sum_some [] h = absurd (omega arith)
  sum_some (x ∷ xs) h = dite (dec_le 1 (f x)) (λ here. (0, x, refl, here))
      (λ no. let t = sum_some xs (omega (arith, sum_by-cons f x xs)) in (suc t.0, t.1, t.2, t.3))

  -- the sum where a term is cut in two
  pub sum_cut : (l : List X) (i : ℕ) (a b c : X) → get_elem? l i ≡ some a → sum_by f (set l i b ++ c ∷ []) + f a ≡ sum_by f l + f b + f c
  sum_cut l i a b c e = omega (arith, sum_set l i a b e, sum_by_push f (set l i b) c)

  -- the sum where two terms are replaced
  pub sum_joined : (l : List X) (i : ℕ) (a : X) (j : ℕ) (b both spent : X) → get_elem? l i ≡ some a → get_elem? (set l i both) j ≡ some b
      → sum_by f (set (set l i both) j spent) + f a + f b ≡ sum_by f l + f both + f spent
  sum_joined l i a j b both spent e h = omega (arith, sum_set l i a both e, sum_set (set l i both) j b spent h)
