-- What holds of every state that the machine reaches.
use Rattle.std.proofs.Common.{◌≡◌, ℕ, suc, ◌+◌, ◌<◌, ◌≤◌, Bool, true, false, cond, not, ◌||◌, eqb, List, [], ◌∷◌, Option, Some, None, refl, ap, ◌∙◌, inl, inr}
use Rattle.std.proofs.Common.{⊎_elim, ◌⊎◌, arith, length}
use Rattle.std.specs.Prelude.{slice_index_or}
use Rattle.std.specs.List.{list_any, list_all, filter, position_from, AllByRecursion}
use Rattle.std.proofs.lemmas.List.Sums.{length-filter}
use Rattle.std.proofs.lemmas.Bool.{false_from_ne_true, or_cases, or_left, or_right, and_parts, both_ways, eq-eqb, not-true}
use Rattle.cqe_base.specs.Literal.{Literal, Positive, Negative, variable_of, opposite, same_literal}
use Rattle.cqe_base.specs.Machine.{Assigned, Decided, Because, assigned_literal, is_true, is_false, level, is_current, current_count, unit_literal, first_unit}
use Rattle.cqe_base.specs.Machine.{unit_or}
use Rattle.cqe_base.specs.MachineStates.{is_assigned, IsDistinct, Reasons, NotForced, AllFalse}
use Rattle.cqe_base.proofs.Trails.{base, not_both, false_is_assigned, level_of-current}
use Rattle.cqe_base.proofs.Analysis.{each_weaker}

-- what is before the last decision is on the trail
base_true : (t : List Assigned) (l : Literal) → is_true (base t) l ≡ true → is_true t l ≡ true
base_true [] l h = h
base_true (Decided d ∷ t) l h = or_right _ _ h
base_true (Because i d ∷ t) l h = or_right _ _ (base_true t l h)

base_distinct : (n : ℕ) (t : List Assigned) → IsDistinct n t → IsDistinct n (base t)
base_distinct n [] d = d
base_distinct n (Decided l ∷ t) d = d.2
base_distinct n (Because i l ∷ t) d = base_distinct n t d.2

-- at the last decision no clause was forced
pub base_open : (cs : List (List Literal)) (t : List Assigned) → 0 < level t → Reasons cs t → AllByRecursion (NotForced (base t)) cs
base_open cs [] pos r = absurd (omega arith)
base_open cs (Decided l ∷ t) pos r = r.0
base_open cs (Because i l ∷ t) pos r = base_open cs t pos r.2

pub assigned_cases : (t : List Assigned) (l : Literal) → is_assigned t (variable_of l) ≡ true → (is_true t l ≡ true) ⊎ (is_false t l ≡ true)
assigned_cases [] l h = absurd (both_ways false refl h)
assigned_cases (a ∷ t) l h =
    ⊎_elim (λ e. head_cases l (assigned_literal a) e)
    (λ e. ⊎_elim (λ u. inl (or_right _ _ u)) (λ u. inr (or_right _ _ u)) (assigned_cases t l e))
    (or_cases _ _ h)
  where
    same_var : (l m : Literal) → eqb (variable_of l) (variable_of m) ≡ true → (same_literal l m ≡ true) ⊎ (same_literal (opposite l) m ≡ true)
    same_var (Positive v) (Positive w) e = inl e
    same_var (Positive v) (Negative w) e = inr e
    same_var (Negative v) (Positive w) e = inr e
    same_var (Negative v) (Negative w) e = inl e

    head_cases : (l m : Literal) → eqb (variable_of l) (variable_of m) ≡ true → ((same_literal l m || is_true t l) ≡ true)
        ⊎ ((same_literal (opposite l) m || is_true t (opposite l)) ≡ true)
    head_cases l m e = ⊎_elim (λ u. inl (or_left _ _ u)) (λ u. inr (or_left _ _ u)) (same_var l m e)

-- a false literal that wasn't false before the last decision is of the current level
false_since : (n : ℕ) (t : List Assigned) (l : Literal) → IsDistinct n t → is_false t l ≡ true → not (is_false (base t) l) ≡ true → is_current t l ≡ true
false_since n t l d f o =
    let unassigned : is_assigned (base t) (variable_of l) ≡ false =
    false_from_ne_true _ (λ a. ⊎_elim (λ u. not_both n t l d (base_true t l u) f) (λ u. both_ways _ (not-true _ o) u) (assigned_cases (base t) l a)) in
    eq-eqb _ _ (level_of-current t l (false_is_assigned t l f) unassigned)

count_weaker : (p q : Literal → Bool) (c : List Literal) → AllByRecursion (λ l. p l ≡ true → q l ≡ true) c → length (filter p c) ≤ length (filter q c)
count_weaker p q [] h = omega arith
count_weaker p q (l ∷ c) h = step (p l) (q l) refl refl (count_weaker p q c h.1)
  where
    step : (a b : Bool) → p l ≡ a → q l ≡ b → length (filter p c) ≤ length (filter q c)
        → length (cond a (l ∷ filter p c) (filter p c)) ≤ length (cond b (l ∷ filter q c) (filter q c))
    step true true ea eb le = omega arith
    step true false ea eb le = absurd (both_ways _ eb (h.0 ea))
    step false true ea eb le = omega arith
    step false false ea eb le = le

any_false : (n : ℕ) (t u : List Assigned) (c : List Literal) → IsDistinct n t → ((l : Literal) → is_true u l ≡ true → is_true t l ≡ true) → AllFalse t c
    → list_any (is_true u) c ≡ true → ⊥
any_false n t u [] d w f h = both_ways false refl h
any_false n t u (l ∷ c) d w f h = ⊎_elim (λ e. not_both n t l d (w l e) f.0) (λ e. any_false n t u c d w f.1 e) (or_cases _ _ h)

-- a false clause that wasn't forced before the last decision has two literals of the current level
pub two_current : (n : ℕ) (t : List Assigned) (c : List Literal) → IsDistinct n t → AllFalse t c → NotForced (base t) c → 2 ≤ current_count t c
two_current n t c d f unforced =
    ⊎_elim (λ h. absurd (any_false n t (base t) c d (base_true t) f h))
    (λ two.
    let more = count_weaker (λ l. not (is_false (base t) l)) (is_current t) c
    (each_weaker (λ l. is_false t l ≡ true) (λ l. not (is_false (base t) l) ≡ true → is_current t l ≡ true) (λ l fl o. false_since n t l d fl o) c f) in
    let e = length-filter (is_current t) c in
    omega arith)
    unforced

pub all_false : (t : List Assigned) (c : List Literal) → list_all (is_false t) c ≡ true → AllFalse t c
all_false t [] h = tt
all_false t (l ∷ c) h = let parts = and_parts (is_false t l) _ h in (parts.0, all_false t c parts.1)

-- where a test passes
pub record PassesAt (p : List Literal → Bool) (cs : List (List Literal)) (k i : ℕ) : Type 0 where
  pub place : ℕ
  pub number : i ≡ k + place
  pub within : place < length cs
  pub passes : p (slice_index_or cs place []) ≡ true

position_step : (p : List Literal → Bool) (c : List Literal) (cs : List (List Literal)) (k i : ℕ) (b : Bool) → p c ≡ b
    → (position_from p (k + 1) cs ≡ Some i → PassesAt p cs (k + 1) i) → cond b (Some k) (position_from p (k + 1) cs) ≡ Some i → PassesAt p (c ∷ cs) k i
position_step p c cs k i true e go h = let same : k ≡ i = cc in record { place = 0; number = omega arith; within = omega arith; passes = e }
position_step p c cs k i false e go h =
    let later = go h in
    let number = later.number in
    let within = later.within in
    record { place = suc later.place; number = omega arith; within = omega arith; passes = later.passes }

-- the first place of a test is one where it passes
pub position_passes : (p : List Literal → Bool) (cs : List (List Literal)) (k i : ℕ) → position_from p k cs ≡ Some i → PassesAt p cs k i
position_passes p [] k i h = absurd (let x : ⊥ = cc in x)
position_passes p (c ∷ cs) k i h = position_step p c cs k i (p c) refl (λ e. position_passes p cs (k + 1) i e) h

position_none_step : (p : List Literal → Bool) (c : List Literal) (cs : List (List Literal)) (k : ℕ) (b : Bool) → p c ≡ b
    → cond b (Some k) (position_from p (k + 1) cs) ≡ None → (p c ≡ false) × (position_from p (k + 1) cs ≡ None)
position_none_step p c cs k true e h = absurd (let x : ⊥ = cc in x)
position_none_step p c cs k false e h = (e, h)

-- with no first place no clause passes
pub position_none : (p : List Literal → Bool) (cs : List (List Literal)) (k : ℕ) → position_from p k cs ≡ None → AllByRecursion (λ c. p c ≡ false) cs
position_none p [] k h = tt
position_none p (c ∷ cs) k h = let e = position_none_step p c cs k (p c) refl h in (e.0, position_none p cs (k + 1) e.1)

-- the unit clause that was found
pub record UnitAt (t : List Assigned) (cs : List (List Literal)) (k : ℕ) (u : ℕ × Literal) : Type 0 where
  pub place : ℕ
  pub number : u.0 ≡ k + place
  pub within : place < length cs
  pub unit : unit_literal t (slice_index_or cs place []) ≡ Some u.1

unit_step : (t : List Assigned) (c : List Literal) (cs : List (List Literal)) (k : ℕ) (u : ℕ × Literal) (o : Option Literal) → unit_literal t c ≡ o
    → (first_unit t (k + 1) cs ≡ Some u → UnitAt t cs (k + 1) u) → unit_or k o (first_unit t (k + 1) cs) ≡ Some u → UnitAt t (c ∷ cs) k u
unit_step t c cs k u (Some l) e go h =
    let same : (k, l) ≡ u = cc in
    let number : k ≡ u.0 = ap (λ (x : ℕ × Literal). x.0) same in
    record { place = 0; number = omega arith; within = omega arith; unit = e ∙ ap Some (ap (λ (x : ℕ × Literal). x.1) same) }
unit_step t c cs k u None e go h =
    let later = go h in
    let number = later.number in
    let within = later.within in
    record { place = suc later.place; number = omega arith; within = omega arith; unit = later.unit }

pub unit_at : (t : List Assigned) (cs : List (List Literal)) (k : ℕ) (u : ℕ × Literal) → first_unit t k cs ≡ Some u → UnitAt t cs k u
unit_at t [] k u h = absurd (let x : ⊥ = cc in x)
unit_at t (c ∷ cs) k u h = unit_step t c cs k u (unit_literal t c) refl (λ e. unit_at t cs (k + 1) u e) h

unit_none_step : (t : List Assigned) (c : List Literal) (cs : List (List Literal)) (k : ℕ) (o : Option Literal) → unit_literal t c ≡ o
    → unit_or k o (first_unit t (k + 1) cs) ≡ None → (unit_literal t c ≡ None) × (first_unit t (k + 1) cs ≡ None)
unit_none_step t c cs k (Some l) e h = absurd (let x : ⊥ = cc in x)
unit_none_step t c cs k None e h = (e, h)

pub unit_none : (t : List Assigned) (cs : List (List Literal)) (k : ℕ) → first_unit t k cs ≡ None → AllByRecursion (λ c. unit_literal t c ≡ None) cs
unit_none t [] k h = tt
unit_none t (c ∷ cs) k h = let e = unit_none_step t c cs k (unit_literal t c) refl h in (e.0, unit_none t cs (k + 1) e.1)
