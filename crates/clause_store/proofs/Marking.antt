-- The marks of a clause stay those of the clause.
use Rattle.std.proofs.Common.{◌≡◌, ℕ, ◌<◌, ◌*◌, Bool, true, false, cond, not, ◌||◌, eqb, List, [], ◌∷◌, length, get_or, set, refl, sym, ap, ◌∙◌, inl, inr, ◌⊎◌}
use Rattle.std.proofs.Common.{arith}
use Rattle.std.specs.Prelude.{Result, Ok, Err, OnErr}
use Rattle.std.proofs.lemmas.Bool.{cases_eq, cases_lt, false_from_ne_true, eqb-true, eqb-false}
use Rattle.std.proofs.lemmas.List.{get_or-set_same, get_or-set_other, length-set, get_or_past, set_past}
use Rattle.cqe_base.specs.Literal.{Literal, Positive, Negative, variable_of, opposite, same_literal, has_literal, union}
use Rattle.cqe_base.specs.Refutation.{without_variable}
use Rattle.cqe_base.proofs.ClauseTruth.{same_literal-true, variable_of-opposite}
use Rattle.clause_store.specs.Codes.{code_of}
use Rattle.clause_store.specs.Marking.{AreMarksOf}

-- each literal has its own code
pub code_of-injective : (l m : Literal) → code_of l ≡ code_of m → l ≡ m
code_of-injective (Positive v) (Positive w) e = ap Positive (let x : v ≡ w = omega arith in x)
code_of-injective (Positive v) (Negative w) e = absurd (omega arith)
code_of-injective (Negative v) (Positive w) e = absurd (omega arith)
code_of-injective (Negative v) (Negative w) e = ap Negative (let x : v ≡ w = omega arith in x)

pub code_of-below : (n : ℕ) (l : Literal) → variable_of l < n → code_of l < 2 * n
code_of-below n (Positive v) h = omega arith
code_of-below n (Negative v) h = omega arith

-- a literal of another variable is another literal
other_variable : (m l : Literal) → (variable_of m ≡ variable_of l → ⊥) → same_literal m l ≡ false
other_variable m l ne = false_from_ne_true _ (λ e. ne (ap variable_of (same_literal-true m l e)))

module _ (v : ℕ) (m : Literal) where
  has_without : (clause : List Literal) → variable_of m ≡ v → has_literal (without_variable v clause) m ≡ false
  has_without [] e = refl
  has_without (l ∷ clause) e = step (has_without clause e) (eqb (variable_of l) v) refl
    where
      step : has_literal (without_variable v clause) m ≡ false → (b : Bool) → eqb (variable_of l) v ≡ b
          → has_literal (cond (not b) (l ∷ without_variable v clause) (without_variable v clause)) m ≡ false
      step go true g = go
      step go false g = ap (λ b. b || has_literal (without_variable v clause) m) (other_variable m l (λ s. eqb-false _ _ g (sym s ∙ e))) ∙ go

  has_still : (clause : List Literal) → (variable_of m ≡ v → ⊥) → has_literal (without_variable v clause) m ≡ has_literal clause m
  has_still [] ne = refl
  has_still (l ∷ clause) ne = step (has_still clause ne) (eqb (variable_of l) v) refl
    where
      step : has_literal (without_variable v clause) m ≡ has_literal clause m → (b : Bool) → eqb (variable_of l) v ≡ b
          → has_literal (cond (not b) (l ∷ without_variable v clause) (without_variable v clause)) m ≡ (same_literal m l || has_literal clause m)
      step go true g = go ∙ sym (ap (λ b. b || has_literal clause m) (other_variable m l (λ s. ne (s ∙ eqb-true _ _ g))))
      step go false g = ap (λ b. same_literal m l || b) go

cleared_at : (xs : List Bool) (i : ℕ) → get_or (set xs i false) i false ≡ false
cleared_at xs i = elim (cases_lt i (length xs)) [
  | inl low ↦ get_or-set_same xs i false false low
  | inr high ↦ ap (λ ys. get_or ys i false) (set_past xs i false high) ∙ get_or_past xs i false high
]

-- a place that is false stays so
cleared : (xs : List Bool) (i k : ℕ) → (k ≡ i) ⊎ (get_or xs k false ≡ false) → get_or (set xs i false) k false ≡ false
cleared xs i k (inl same) = ap (λ j. get_or (set xs i false) j false) same ∙ cleared_at xs i
cleared xs i k (inr none) = elim (cases_eq k i) [
  | inl same ↦ ap (λ j. get_or (set xs i false) j false) same ∙ cleared_at xs i
  | inr other ↦ get_or-set_other xs i k false false other ∙ none
]

same_or_other : (m l : Literal) → variable_of m ≡ variable_of l → (m ≡ l) ⊎ (m ≡ opposite l)
same_or_other (Positive v) (Positive w) e = inl (ap Positive e)
same_or_other (Positive v) (Negative w) e = inr (ap Positive e)
same_or_other (Negative v) (Positive w) e = inr (ap Negative e)
same_or_other (Negative v) (Negative w) e = inl (ap Negative e)

-- the literals of a variable leave
pub marks_without : (n : ℕ) (clause : List Literal) (marks : List Bool) (l : Literal) → AreMarksOf n clause marks
    → AreMarksOf n (without_variable (variable_of l) clause) (set (set marks (code_of l) false) (code_of (opposite l)) false)
marks_without n clause marks l h = record {
  room = length-set (set marks (code_of l) false) (code_of (opposite l)) false ∙ length-set marks (code_of l) false ∙ h.room;
  marked = λ m. elim (cases_eq (variable_of m) (variable_of l)) [
    | inl same ↦ gone m (same_or_other m l same) ∙ sym (has_without (variable_of l) m clause same)
    | inr other ↦
        get_or-set_other (set marks (code_of l) false) (code_of (opposite l)) (code_of m) false false (λ e.
        other (ap variable_of (code_of-injective m (opposite l) e) ∙ variable_of-opposite l))
        ∙ get_or-set_other marks (code_of l) (code_of m) false false (λ e. other (ap variable_of (code_of-injective m l e)))
        ∙ h.marked m ∙ sym (has_still (variable_of l) m clause other)
  ];
}
  where
    gone : (m : Literal) → (m ≡ l) ⊎ (m ≡ opposite l) → get_or (set (set marks (code_of l) false) (code_of (opposite l)) false) (code_of m) false ≡ false
    gone m (inl e) = cleared (set marks (code_of l) false) (code_of (opposite l)) (code_of m) (inr (cleared marks (code_of l) (code_of m) (inl (ap code_of e))))
    gone m (inr e) = cleared (set marks (code_of l) false) (code_of (opposite l)) (code_of m) (inl (ap code_of e))

-- one literal of a clause that is resolved with
pub union_more : (v : ℕ) (c : List Literal) (l : Literal) (rest : List Literal)
    → union (union c (without_variable v (l ∷ []))) (without_variable v rest) ≡ union c (without_variable v (l ∷ rest))
union_more v c l rest = step (eqb (variable_of l) v)
  where
    step : (b : Bool)
        → union (union c (cond (not b) (l ∷ []) [])) (without_variable v rest) ≡ union c (cond (not b) (l ∷ without_variable v rest) (without_variable v rest))
    step true = refl
    step false = refl

-- what holds in any case holds of a refusal
pub at_refusal : {T E P : Type 0} (r : Result T E) → P → OnErr r P
at_refusal (Ok x) p = tt
at_refusal (Err x) p = p
