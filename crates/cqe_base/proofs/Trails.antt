-- Facts about trails: what is assigned, and at which level.
use Rattle.std.proofs.Common.{◌≡◌, ℕ, suc, ◌≤◌, Bool, true, false, cond, eqb, List, [], ◌∷◌, refl, sym, ap, ◌∙◌, subst, ⊎_elim, arith}
use Rattle.std.proofs.lemmas.Bool.{or_cases, or_left, or_right, both_ways, eq-eqb, ne_eqb, cond_both}
use Rattle.cqe_base.specs.Literal.{Literal, Positive, Negative, variable_of, opposite}
use Rattle.cqe_base.specs.Machine.{Assigned, Decided, Because, assigned_literal, is_true, is_false, level, level_of}
use Rattle.cqe_base.specs.MachineStates.{is_assigned, IsDistinct}
use Rattle.cqe_base.proofs.ClauseTruth.{same_literal-true, opposite-opposite, variable_of-opposite}

-- a true literal's variable is on the trail
pub true_is_assigned : (t : List Assigned) (l : Literal) → is_true t l ≡ true → is_assigned t (variable_of l) ≡ true
true_is_assigned [] l h = h
true_is_assigned (a ∷ t) l h =
    ⊎_elim (λ e. or_left _ _ (eq-eqb _ _ (ap variable_of (same_literal-true l (assigned_literal a) e))))
    (λ e. or_right _ _ (true_is_assigned t l e))
    (or_cases _ _ h)

-- so is a false literal's
pub false_is_assigned : (t : List Assigned) (l : Literal) → is_false t l ≡ true → is_assigned t (variable_of l) ≡ true
false_is_assigned t l h = let e = true_is_assigned t (opposite l) h in rw variable_of-opposite at e

pub no_opposite : (l : Literal) → opposite l ≡ l → ⊥
no_opposite (Positive v) h = cc
no_opposite (Negative v) h = cc

-- no literal is both true and false
pub not_both : (n : ℕ) (t : List Assigned) (l : Literal) → IsDistinct n t → is_true t l ≡ true → is_false t l ≡ true → ⊥
not_both n [] l d h k = both_ways false refl h
not_both n (a ∷ t) l d h k =
    ⊎_elim
    (λ e. let le : l ≡ assigned_literal a = same_literal-true l (assigned_literal a) e in
    ⊎_elim
    (λ f. no_opposite l (same_literal-true (opposite l) (assigned_literal a) f ∙ sym le))
    (λ f. both_ways _ d.1 (subst (λ x. is_assigned t (variable_of x) ≡ true) le (false_is_assigned t l f)))
    (or_cases _ _ k))
    (λ e.
    ⊎_elim
    (λ f. let lo : opposite l ≡ assigned_literal a = same_literal-true (opposite l) (assigned_literal a) f in
    both_ways _ d.1 (subst (λ v. is_assigned t v ≡ true) (sym (variable_of-opposite l) ∙ ap variable_of lo) (true_is_assigned t l e)))
    (λ f. not_both n t l d.2 e f)
    (or_cases _ _ k))
    (or_cases _ _ h)

-- the level falls along the trail
pub level-step : (a : Assigned) (t : List Assigned) → level t ≤ level (a ∷ t)
level-step (Decided l) t = omega arith
level-step (Because i l) t = omega arith

-- no literal has a level above the current one
pub level_of-le : (t : List Assigned) (l : Literal) → level_of t l ≤ level t
level_of-le [] l = omega arith
level_of-le (a ∷ t) l =
    cond_both (eqb (variable_of l) (variable_of (assigned_literal a))) (level (a ∷ t)) (level_of t l) (λ k. k ≤ level (a ∷ t))
    (λ _. omega arith) (λ _. let h = level_of-le t l in let k = level-step a t in omega arith)

-- the trail before its last decision
abbrev pub base : List Assigned → List Assigned
base [] = []
base (Decided l ∷ t) = t
base (Because i l ∷ t) = base t

assigned_here : (a : Assigned) (t : List Assigned) (l : Literal) (k : ℕ) (b : Bool) → eqb (variable_of l) (variable_of (assigned_literal a)) ≡ b
    → is_assigned (a ∷ t) (variable_of l) ≡ true → (is_assigned t (variable_of l) ≡ true → level_of t l ≡ k) → level (a ∷ t) ≡ k
    → cond b (level (a ∷ t)) (level_of t l) ≡ k
assigned_here a t l k true e h go top = top
assigned_here a t l k false e h go top = go (⊎_elim (λ u. absurd (both_ways _ e u)) (λ u. u) (or_cases _ _ h))

-- a literal that was assigned since the last decision is of the current level
pub level_of-current : (t : List Assigned) (l : Literal) → is_assigned t (variable_of l) ≡ true → is_assigned (base t) (variable_of l) ≡ false
    → level_of t l ≡ level t
level_of-current [] l h k = refl
level_of-current (Decided d ∷ t) l h k =
    assigned_here (Decided d) t l (suc (level t)) _ refl h (λ u. absurd (both_ways _ k u)) refl
level_of-current (Because i d ∷ t) l h k =
    assigned_here (Because i d) t l (level t) _ refl h (λ u. level_of-current t l u k) refl

-- the level of what is on the rest of a trail is that on the rest
abbrev pub Suffix : List Assigned → List Assigned → Type 0
Suffix whole rest = (l : Literal) → is_assigned rest (variable_of l) ≡ true → level_of whole l ≡ level_of rest l

pub other_variable : (a : Assigned) (t : List Assigned) (v : ℕ) → is_assigned t (variable_of (assigned_literal a)) ≡ false → is_assigned t v ≡ true
    → eqb v (variable_of (assigned_literal a)) ≡ false
other_variable a t v free there = ne_eqb _ _ (λ e. both_ways _ free (subst (λ x. is_assigned t x ≡ true) e there))

pub Suffix-tail : (n : ℕ) (whole : List Assigned) (a : Assigned) (t : List Assigned) → IsDistinct n (a ∷ t) → Suffix whole (a ∷ t) → Suffix whole t
Suffix-tail n whole a t d s l h =
    s l (or_right _ _ h) ∙ ap (λ b. cond b (level (a ∷ t)) (level_of t l)) (other_variable a t (variable_of l) d.1 h)

-- a literal that isn't the opposite of the first entry is false on the rest
pub false_on_rest : (a : Assigned) (t : List Assigned) (l : Literal) → is_false (a ∷ t) l ≡ true → (l ≡ opposite (assigned_literal a) → ⊥) → is_false t l ≡ true
false_on_rest a t l h ne =
    ⊎_elim
    (λ e. absurd (ne (sym (opposite-opposite l) ∙ ap opposite (same_literal-true (opposite l) (assigned_literal a) e))))
    (λ e. e)
    (or_cases _ _ h)
