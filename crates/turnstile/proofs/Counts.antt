-- Numbers that are counted once.
use Rattle.std.proofs.Common.{◌≡◌, ◌≢◌, ℕ, ◌+◌, ◌<◌, ◌≤◌, eqb, cond, Bool, List, [], ◌∷◌, ◌++◌, refl, sym, ap, ◌∙◌, subst, arith, eq-eqb, ne_eqb}
use Rattle.std.proofs.lemmas.List.Sums.{sum_by-append}
use mathlib.Core.Logic.{dite}
use native.Mathlib.Decide.{ℕ_discrete, dec_le}
use Rattle.turnstile.specs.History.{count_of, OnceBetween}

pub count_of-append : (x : ℕ) (xs ys : List ℕ) → count_of x (xs ++ ys) ≡ count_of x xs + count_of x ys
count_of-append x xs ys = sum_by-append (λ (y : ℕ). cond (eqb y x) 1 0) xs ys

pub count_of-here : (x : ℕ) → count_of x (x ∷ []) ≡ 1
count_of-here x = ap (λ (b : Bool). 0 + cond b 1 0) (eq-eqb x x refl)

pub count_of-else : (x n : ℕ) → x ≢ n → count_of x (n ∷ []) ≡ 0
count_of-else x n other = ap (λ (b : Bool). 0 + cond b 1 0) (ne_eqb n x (λ e. other (sym e)))

-- one more number is counted, at the top
pub counts_more : (low high n : ℕ) (count now : ℕ → ℕ) → OnceBetween low high count → n ≡ high → low ≤ high → ((x : ℕ) → now x ≡ count x + count_of x (n ∷ []))
    → OnceBetween low (n + 1) now
counts_more low high n count now h is ord more = record {
  inside = λ x l u. dite (ℕ_discrete x n)
      (λ e. let here : count_of x (n ∷ []) ≡ 1 = subst (λ (z : ℕ). count_of x (z ∷ []) ≡ 1) e (count_of-here x) in
      omega (arith, more x, h.above x (omega arith)))
      (λ e. omega (arith, more x, count_of-else x n e, h.inside x l (omega arith)));
  below = λ x l. omega (arith, more x, count_of-else x n (λ e. omega arith), h.below x l);
  above = λ x l. omega (arith, more x, count_of-else x n (λ e. omega arith), h.above x (omega arith));
}

-- the lowest number is counted no more
pub counts_less : (low high n : ℕ) (count now : ℕ → ℕ) → OnceBetween low high count → n ≡ low → low < high → ((x : ℕ) → now x + count_of x (n ∷ []) ≡ count x)
    → OnceBetween (n + 1) high now
counts_less low high n count now h is ord less = record {
  inside = λ x l u. omega (arith, less x, count_of-else x n (λ e. omega arith), h.inside x (omega arith) u);
  below = λ x l. dite (ℕ_discrete x n)
      (λ e. let here : count_of x (n ∷ []) ≡ 1 = subst (λ (z : ℕ). count_of x (z ∷ []) ≡ 1) e (count_of-here x) in
      omega (arith, less x, h.inside x (omega arith) (omega arith)))
      (λ e. omega (arith, less x, count_of-else x n e, h.below x (omega arith)));
  above = λ x l. omega (arith, less x, h.above x l);
}

pub counts_same : (low high : ℕ) (count now : ℕ → ℕ) → OnceBetween low high count → ((x : ℕ) → now x ≡ count x) → OnceBetween low high now
counts_same low high count now h same = record {
  inside = λ x l u. same x ∙ h.inside x l u;
  below = λ x l. same x ∙ h.below x l;
  above = λ x l. same x ∙ h.above x l;
}

-- what is counted lies between
pub counted_within : (low high x : ℕ) (count : ℕ → ℕ) → OnceBetween low high count → 0 < count x → (low ≤ x) × (x < high) × (count x ≡ 1)
counted_within low high x count h some_of = let over : low ≤ x = within_low in let under : x < high = within_high in (over, under, h.inside x over under)
  where
    within_low : low ≤ x
    within_low = dite (dec_le low x) (λ d. d) (λ d. let no = h.below x (omega arith) in absurd (omega arith))

    within_high : x < high
    within_high = dite (dec_le high x) (λ d. let no = h.above x d in absurd (omega arith)) (λ d. omega arith)

pub counted_most : (low high x : ℕ) (count : ℕ → ℕ) → OnceBetween low high count → count x ≤ 1
counted_most low high x count h = dite (dec_le 1 (count x)) (λ d. let e = (counted_within low high x count h d).2 in omega arith) (λ d. omega arith)
