-- What is kept of a trail stays that of the trail.
use Rattle.std.proofs.Common.{◌≡◌, ℕ, zero, suc, ◌+◌, ◌-◌, ◌*◌, ◌<◌, ◌≤◌, min, Bool, true, false, cond, not, ◌&&◌, ◌||◌, eqb, List, [], ◌∷◌, ◌++◌, length}
use Rattle.std.proofs.Common.{reverse, get_or, set, map, take, replicate, Option, Some, None, refl, sym, ap, ◌∙◌, subst, inl, inr, ⊎_elim, ◌⊎◌, arith}
use Rattle.std.specs.Prelude.{unwrap_or, IfSome}
use Rattle.std.specs.List.{find, range_with_len}
use Rattle.std.proofs.lemmas.Bool.{both_ways, cases_eq, cases_lt, false_from_ne_true, true_from_ne_false, or_left, or_right, eq-eqb, ne_eqb, and_from, and_left}
use Rattle.std.proofs.lemmas.Bool.{and_right}
use Rattle.std.proofs.lemmas.List.{get_or-set_same, get_or-set_other, length-set, get_or_past, get_or-replicate, length-replicate, reverse-append}
use Rattle.cqe_base.specs.Literal.{Literal, Positive, Negative, variable_of, same_literal}
use Rattle.cqe_base.specs.Machine.{Assigned, assigned_literal, is_true, level, level_of, signs_of, first_unassigned}
use Rattle.cqe_base.specs.MachineStates.{is_assigned, IsDistinct}
use Rattle.cqe_base.proofs.ClauseTruth.{same_literal-true, same_literal-same}
use Rattle.cqe_base.proofs.Trails.{true_is_assigned}
use Rattle.clause_solver.specs.Entries.{is_decided}
use Rattle.clause_store.specs.Codes.{code_of}
use Rattle.clause_store.proofs.Marking.{code_of-injective, code_of-below}
use Rattle.clause_solver.specs.Assigning.{place_of, IsKept, IsFirstZero}
use Rattle.clause_solver.proofs.Trails.{level-cons}

pub level_of-variable : (t : List Assigned) (l : Literal) → level_of t l ≡ level_of t (Positive (variable_of l))
level_of-variable [] l = refl
level_of-variable (a ∷ t) l = ap (λ k. cond (eqb (variable_of l) (variable_of (assigned_literal a))) (level (a ∷ t)) k) (level_of-variable t l)

pub unassigned-true : (t : List Assigned) (l : Literal) → is_assigned t (variable_of l) ≡ false → is_true t l ≡ false
unassigned-true t l h = false_from_ne_true _ (λ e. both_ways _ h (true_is_assigned t l e))

pub unassigned-level : (t : List Assigned) (v : ℕ) → is_assigned t v ≡ false → level_of t (Positive v) ≡ 0
unassigned-level [] v h = refl
unassigned-level (a ∷ t) v h = step (λ e. unassigned-level t v e) (eqb v (variable_of (assigned_literal a))) h
  where
    step : (is_assigned t v ≡ false → level_of t (Positive v) ≡ 0) → (b : Bool) → (b || is_assigned t v) ≡ false
        → cond b (level (a ∷ t)) (level_of t (Positive v)) ≡ 0
    step go true e = absurd (both_ways true e refl)
    step go false e = go e

pub unassigned-place : (t : List Assigned) (v : ℕ) → is_assigned t v ≡ false → place_of t v ≡ 0
unassigned-place [] v h = refl
unassigned-place (a ∷ t) v h = step (λ e. unassigned-place t v e) (eqb v (variable_of (assigned_literal a))) h
  where
    step : (is_assigned t v ≡ false → place_of t v ≡ 0) → (b : Bool) → (b || is_assigned t v) ≡ false → cond b (suc (length t)) (place_of t v) ≡ 0
    step go true e = absurd (both_ways true e refl)
    step go false e = go e

pub assigned-place : (t : List Assigned) (v : ℕ) → is_assigned t v ≡ true → 0 < place_of t v
assigned-place [] v h = absurd (both_ways false refl h)
assigned-place (a ∷ t) v h = step (λ e. assigned-place t v e) (eqb v (variable_of (assigned_literal a))) h
  where
    step : (is_assigned t v ≡ true → 0 < place_of t v) → (b : Bool) → (b || is_assigned t v) ≡ true → 0 < cond b (suc (length t)) (place_of t v)
    step go true e = omega arith
    step go false e = go e

-- an assigned variable has a true literal
pub assigned-true : (t : List Assigned) (v : ℕ) → is_assigned t v ≡ true → (is_true t (Positive v) ≡ true) ⊎ (is_true t (Negative v) ≡ true)
assigned-true [] v h = absurd (both_ways false refl h)
assigned-true (a ∷ t) v h = step (λ e. assigned-true t v e) (assigned_literal a) (eqb v (variable_of (assigned_literal a))) refl h
  where
    step : (is_assigned t v ≡ true → (is_true t (Positive v) ≡ true) ⊎ (is_true t (Negative v) ≡ true)) → (m : Literal) (b : Bool) → eqb v (variable_of m) ≡ b
        → (b || is_assigned t v) ≡ true → ((same_literal (Positive v) m || is_true t (Positive v)) ≡ true)
        ⊎ ((same_literal (Negative v) m || is_true t (Negative v)) ≡ true)
    step go (Positive w) true e h = inl (or_left _ _ e)
    step go (Negative w) true e h = inr (or_left _ _ e)
    step go m false e h = ⊎_elim (λ u. inl (or_right _ _ u)) (λ u. inr (or_right _ _ u)) (go h)

-- the test of the lowest variable that isn't assigned is that it isn't
pub open_test : (t : List Assigned) (v : ℕ) → (not (is_true t (Positive v)) && not (is_true t (Negative v))) ≡ not (is_assigned t v)
open_test t v = step (is_assigned t v) refl
  where
    step : (b : Bool) → is_assigned t v ≡ b → (not (is_true t (Positive v)) && not (is_true t (Negative v))) ≡ not b
    step true e = ⊎_elim (λ u. and_left _ _ (ap not u)) (λ u. and_right _ _ (ap not u)) (assigned-true t v e)
    step false e = and_from _ _ (ap not (unassigned-true t (Positive v) e)) (ap not (unassigned-true t (Negative v) e))

module _ (p : ℕ → Bool) where
  find_range-none : (n s : ℕ) → ((k : ℕ) → s ≤ k → k < s + n → p k ≡ false) → find p (range_with_len s n) ≡ None
  find_range-none zero s h = refl
  find_range-none (suc n) s h =
      ap (λ b. cond b (Some s) (find p (range_with_len (s + 1) n))) (h s (omega arith) (omega arith))
      ∙ find_range-none n (s + 1) (λ k lo hi. h k (omega arith) (omega arith))

  find_range-some : (n s i : ℕ) → s ≤ i → i < s + n → p i ≡ true → ((k : ℕ) → s ≤ k → k < i → p k ≡ false) → find p (range_with_len s n) ≡ Some i
  find_range-some zero s i lo hi e h = absurd (omega arith)
  find_range-some (suc n) s i lo hi e h = elim (cases_eq s i) [
    | inl same ↦ ap (λ b. cond b (Some s) (find p (range_with_len (s + 1) n))) (subst (λ x. p x ≡ true) (sym same) e) ∙ ap Some same
    | inr other ↦ ap (λ b. cond b (Some s) (find p (range_with_len (s + 1) n))) (h s (omega arith) (omega arith))
        ∙ find_range-some n (s + 1) i (omega arith) (omega arith) e (λ k l2 h2. h k (omega arith) h2)
  ]

module _ (n : ℕ) (t : List Assigned) (truths signs : List Bool) (levels places : List ℕ) (decisions next : ℕ)
    (kept : IsKept n t truths signs levels places decisions next) where
  -- a variable whose place isn't 0 is assigned
  placed : (v : ℕ) → (get_or places v 0 ≡ 0 → ⊥) → is_assigned t v ≡ true
  placed v h = true_from_ne_false _ (λ e. h (kept.place_at v ∙ unassigned-place t v e))

  unplaced : (v : ℕ) → get_or places v 0 ≡ 0 → is_assigned t v ≡ false
  unplaced v h = false_from_ne_true _ (λ e. let x = assigned-place t v e in let y = kept.place_at v in omega arith)

  taken : (v : ℕ) → is_assigned t v ≡ true → (not (is_true t (Positive v)) && not (is_true t (Negative v))) ≡ false
  taken v e = open_test t v ∙ ap not e

  -- the first variable without a place, where each one before the first that is looked at is assigned
  pub first_open : (r : Option ℕ) → IsFirstZero places next n r → r ≡ first_unassigned t n
  first_open None h = sym (find_range-none (λ v. not (is_true t (Positive v)) && not (is_true t (Negative v))) n 0 (λ k lo hi. taken k (elim (cases_lt k next) [
    | inl low ↦ kept.assigned_below k low
    | inr high ↦ placed k (h k high (omega arith))
  ])))
  first_open (Some i) h = sym (find_range-some (λ v. not (is_true t (Positive v)) && not (is_true t (Negative v))) n 0 i (omega arith) (let x = h.1 in
      omega arith) (open_test t i ∙ ap not (unplaced i h.2)) (λ k lo hi. taken k (elim (cases_lt k next) [
        | inl low ↦ kept.assigned_below k low
        | inr high ↦ placed k (h.3 k high hi)
      ])))

  pub first_below : (r : Option ℕ) → IsFirstZero places next n r → IfSome r (λ v. v < n)
  first_below None h = tt
  first_below (Some i) h = h.1

  pub first_free : (r : Option ℕ) → IsFirstZero places next n r → IfSome r (λ v. is_assigned t v ≡ false)
  first_free None h = tt
  first_free (Some i) h = unplaced i h.2

  pub first_kept : (r : Option ℕ) → IsFirstZero places next n r → IsKept n t truths signs levels places decisions (unwrap_or r n)
  first_kept None h = record {
    once = kept.once;
    truths_room = kept.truths_room;
    signs_room = kept.signs_room;
    levels_room = kept.levels_room;
    places_room = kept.places_room;
    true_at = kept.true_at;
    sign_at = kept.sign_at;
    level_at = kept.level_at;
    place_at = kept.place_at;
    level_is = kept.level_is;
    next_room = omega arith;
    assigned_below = λ v low. elim (cases_lt v next) [
      | inl lo ↦ kept.assigned_below v lo
      | inr hi ↦ placed v (h v hi low)
    ];
  }
  first_kept (Some i) h = record {
    once = kept.once;
    truths_room = kept.truths_room;
    signs_room = kept.signs_room;
    levels_room = kept.levels_room;
    places_room = kept.places_room;
    true_at = kept.true_at;
    sign_at = kept.sign_at;
    level_at = kept.level_at;
    place_at = kept.place_at;
    level_is = kept.level_is;
    next_room = (let x = h.1 in omega arith);
    assigned_below = λ v low. elim (cases_lt v next) [
      | inl lo ↦ kept.assigned_below v lo
      | inr hi ↦ placed v (h.3 v hi low)
    ];
  }

  or_false : (b : Bool) → (b || false) ≡ b
  or_false true = refl
  or_false false = refl

  -- one more entry
  pub kept_push : (a : Assigned) (c v size more : ℕ) (sign : Bool) → c ≡ code_of (assigned_literal a) → v ≡ variable_of (assigned_literal a)
      → size ≡ length t + 1
      → more ≡ level (a ∷ t) → sign ≡ same_literal (Positive (variable_of (assigned_literal a))) (assigned_literal a) → v < n
      → is_assigned t v ≡ false
      → IsKept n (a ∷ t) (set truths c true) (set signs v sign) (set levels v more) (set places v size) more next
  kept_push a c v size more sign ec ev es em eg low free = record {
    once = (subst (λ x. x < n) ev low, subst (λ x. is_assigned t x ≡ false) ev free, kept.once);
    truths_room = let e = length-set truths c true in let r = kept.truths_room in omega arith;
    signs_room = let e = length-set signs v sign in let r = kept.signs_room in omega arith;
    levels_room = let e = length-set levels v more in let r = kept.levels_room in omega arith;
    places_room = let e = length-set places v size in let r = kept.places_room in omega arith;
    true_at = λ l. elim (cases_eq (code_of l) c) [
      | inl same ↦ subst (λ x. get_or (set truths c true) x false ≡ true) (sym same) (get_or-set_same truths c true false in_truths)
          ∙ sym (or_left _ _ (subst (λ m. same_literal l m ≡ true) (code_of-injective l (assigned_literal a) (same ∙ ec)) (same_literal-same l)))
      | inr other ↦ get_or-set_other truths c (code_of l) true false other ∙ kept.true_at l
          ∙ sym (ap (λ b. b || is_true t l) (false_from_ne_true _ (λ s. other (ap code_of (same_literal-true l (assigned_literal a) s) ∙ sym ec))))
    ];
    sign_at = λ w. elim (cases_eq w v) [
      | inl same ↦ subst (λ x. get_or (set signs v sign) x false ≡ sign) (sym same) (get_or-set_same signs v sign false in_signs) ∙ eg
          ∙ ap (λ x. same_literal (Positive x) (assigned_literal a)) (sym (same ∙ ev))
          ∙ sym (or_false (same_literal (Positive w) (assigned_literal a)))
          ∙ ap (λ b. same_literal (Positive w) (assigned_literal a) || b)
          (sym (unassigned-true t (Positive w) (subst (λ x. is_assigned t x ≡ false) (sym same) free)))
      | inr other ↦ get_or-set_other signs v w sign false other ∙ kept.sign_at w
          ∙ sym (ap (λ b. b || is_true t (Positive w))
          (false_from_ne_true _ (λ s. other (ap variable_of (same_literal-true (Positive w) (assigned_literal a) s) ∙ sym ev))))
    ];
    level_at = λ w. elim (cases_eq w v) [
      | inl same ↦ subst (λ x. get_or (set levels v more) x 0 ≡ more) (sym same) (get_or-set_same levels v more 0 in_levels) ∙ em
          ∙ sym (ap (λ b. cond b (level (a ∷ t)) (level_of t (Positive w))) (eq-eqb _ _ (same ∙ ev)))
      | inr other ↦ get_or-set_other levels v w more 0 other ∙ kept.level_at w
          ∙ sym (ap (λ b. cond b (level (a ∷ t)) (level_of t (Positive w))) (ne_eqb _ _ (λ e. other (e ∙ sym ev))))
    ];
    place_at = λ w. elim (cases_eq w v) [
      | inl same ↦ subst (λ x. get_or (set places v size) x 0 ≡ size) (sym same) (get_or-set_same places v size 0 in_places) ∙ es
          ∙ (let x : length t + 1 ≡ suc (length t) = omega arith in x) ∙ sym (ap (λ b. cond b (suc (length t)) (place_of t w)) (eq-eqb _ _ (same ∙ ev)))
      | inr other ↦ get_or-set_other places v w size 0 other ∙ kept.place_at w
          ∙ sym (ap (λ b. cond b (suc (length t)) (place_of t w)) (ne_eqb _ _ (λ e. other (e ∙ sym ev))))
    ];
    level_is = em;
    assigned_below = λ w low. assigned_more w (kept.assigned_below w low);
    next_room = kept.next_room;
  }
    where
      in_truths : c < length truths
      in_truths = let h = code_of-below n (assigned_literal a) (subst (λ x. x < n) ev low) in let r = kept.truths_room in omega arith

      in_signs : v < length signs
      in_signs = let r = kept.signs_room in omega arith

      in_levels : v < length levels
      in_levels = let r = kept.levels_room in omega arith

      in_places : v < length places
      in_places = let r = kept.places_room in omega arith

      assigned_more : (w : ℕ) → is_assigned t w ≡ true → (eqb w (variable_of (assigned_literal a)) || is_assigned t w) ≡ true
      assigned_more w e = or_right _ _ e

-- without the latest entry
pub kept_pop : (n : ℕ) (a : Assigned) (t : List Assigned) (truths signs : List Bool) (levels places : List ℕ) (decisions next c v less low : ℕ)
    → IsKept n (a ∷ t) truths signs levels places decisions next → c ≡ code_of (assigned_literal a) → v ≡ variable_of (assigned_literal a)
    → less ≡ cond (is_decided a) (decisions - 1) decisions → low ≡ min next v
    → IsKept n t (set truths c false) (set signs v false) (set levels v 0) (set places v 0) less low
kept_pop n a t truths signs levels places decisions next c v less low kept ec ev el ew = record {
  once = kept.once.2;
  truths_room = let e = length-set truths c false in let r = kept.truths_room in omega arith;
  signs_room = let e = length-set signs v false in let r = kept.signs_room in omega arith;
  levels_room = let e = length-set levels v 0 in let r = kept.levels_room in omega arith;
  places_room = let e = length-set places v 0 in let r = kept.places_room in omega arith;
  true_at = λ l. elim (cases_eq (code_of l) c) [
    | inl same ↦ subst (λ x. get_or (set truths c false) x false ≡ false) (sym same) (get_or-set_same truths c false false in_truths)
        ∙ sym (unassigned-true t l (subst (λ m. is_assigned t (variable_of m) ≡ false) (sym (code_of-injective l (assigned_literal a) (same ∙ ec))) free))
    | inr other ↦ get_or-set_other truths c (code_of l) false false other ∙ kept.true_at l
        ∙ ap (λ b. b || is_true t l) (false_from_ne_true _ (λ s. other (ap code_of (same_literal-true l (assigned_literal a) s) ∙ sym ec)))
  ];
  sign_at = λ w. elim (cases_eq w v) [
    | inl same ↦ subst (λ x. get_or (set signs v false) x false ≡ false) (sym same) (get_or-set_same signs v false false in_signs)
        ∙ sym (unassigned-true t (Positive w) (subst (λ x. is_assigned t x ≡ false) (sym (same ∙ ev)) free))
    | inr other ↦ get_or-set_other signs v w false false other ∙ kept.sign_at w
        ∙ ap (λ b. b || is_true t (Positive w))
        (false_from_ne_true _ (λ s. other (ap variable_of (same_literal-true (Positive w) (assigned_literal a) s) ∙ sym ev)))
  ];
  level_at = λ w. elim (cases_eq w v) [
    | inl same ↦ subst (λ x. get_or (set levels v 0) x 0 ≡ 0) (sym same) (get_or-set_same levels v 0 0 in_levels)
        ∙ sym (unassigned-level t w (subst (λ x. is_assigned t x ≡ false) (sym (same ∙ ev)) free))
    | inr other ↦ get_or-set_other levels v w 0 0 other ∙ kept.level_at w
        ∙ ap (λ b. cond b (level (a ∷ t)) (level_of t (Positive w))) (ne_eqb _ _ (λ e. other (e ∙ sym ev)))
  ];
  place_at = λ w. elim (cases_eq w v) [
    | inl same ↦ subst (λ x. get_or (set places v 0) x 0 ≡ 0) (sym same) (get_or-set_same places v 0 0 in_places)
        ∙ sym (unassigned-place t w (subst (λ x. is_assigned t x ≡ false) (sym (same ∙ ev)) free))
    | inr other ↦ get_or-set_other places v w 0 0 other ∙ kept.place_at w
        ∙ ap (λ b. cond b (suc (length t)) (place_of t w)) (ne_eqb _ _ (λ e. other (e ∙ sym ev)))
  ];
  level_is = el ∙ lower (is_decided a) (kept.level_is ∙ level-cons a t);
  assigned_below =
      λ w lt. subst (λ b. (b || is_assigned t w) ≡ true) (ne_eqb _ _ (λ e. apart (omega arith) (e ∙ sym ev))) (kept.assigned_below w (omega arith));
  next_room = let r = kept.next_room in omega arith;
}
  where
    below : variable_of (assigned_literal a) < n
    below = kept.once.0

    free : is_assigned t (variable_of (assigned_literal a)) ≡ false
    free = kept.once.1

    in_truths : c < length truths
    in_truths = let h = code_of-below n (assigned_literal a) below in let r = kept.truths_room in omega arith

    in_signs : v < length signs
    in_signs = let r = kept.signs_room in let b = below in omega arith

    in_levels : v < length levels
    in_levels = let r = kept.levels_room in let b = below in omega arith

    in_places : v < length places
    in_places = let r = kept.places_room in let b = below in omega arith

    apart : {w : ℕ} → w < v → w ≡ v → ⊥
    apart lt e = omega arith

    lower : (b : Bool) → decisions ≡ cond b (level t + 1) (level t) → cond b (decisions - 1) decisions ≡ level t
    lower true e = omega arith
    lower false e = e

pub replicate_at : {X : Type 0} (n i : ℕ) (x : X) → get_or (replicate n x) i x ≡ x
replicate_at n i x =
    elim (cases_lt i n) [ inl low ↦ get_or-replicate n i x x low | inr high ↦ get_or_past (replicate n x) i x (let e = length-replicate n x in omega arith) ]

room_of : {X : Type 0} (n : ℕ) (x : X) → n ≤ length (replicate n x)
room_of n x = let e = length-replicate n x in omega arith

-- nothing is assigned
pub kept_none : (n : ℕ) → IsKept n [] (replicate (2 * n) false) (replicate n false) (replicate n 0) (replicate n 0) 0 0
kept_none n = record {
  once = tt;
  truths_room = room_of (2 * n) false;
  signs_room = room_of n false;
  levels_room = room_of n 0;
  places_room = room_of n 0;
  true_at = λ l. replicate_at (2 * n) (code_of l) false;
  sign_at = λ v. replicate_at n v false;
  level_at = λ v. replicate_at n v 0;
  place_at = λ v. replicate_at n v 0;
  level_is = refl;
  assigned_below = λ v low. absurd (omega arith);
  next_room = omega arith;
}

-- a variable past the last one isn't assigned
pub above : (n : ℕ) (t : List Assigned) (v : ℕ) → IsDistinct n t → n ≤ v → is_assigned t v ≡ false
above n [] v d le = refl
above n (a ∷ t) v d le =
    ap (λ b. b || is_assigned t v) (ne_eqb v (variable_of (assigned_literal a)) (λ e. let lt = d.0 in omega arith)) ∙ above n t v d.2 le

-- the same with more room
pub kept_grown : (n : ℕ) (t : List Assigned) (truths truths' signs signs' : List Bool) (levels levels' places places' : List ℕ) (decisions next : ℕ)
    → IsKept n t truths signs levels places decisions next
    → length truths ≤ length truths' → ((i : ℕ) → get_or truths' i false ≡ get_or truths i false)
    → length signs ≤ length signs' → ((i : ℕ) → get_or signs' i false ≡ get_or signs i false)
    → length levels ≤ length levels' → ((i : ℕ) → get_or levels' i 0 ≡ get_or levels i 0)
    → length places ≤ length places' → ((i : ℕ) → get_or places' i 0 ≡ get_or places i 0)
    → IsKept n t truths' signs' levels' places' decisions next
kept_grown n t truths truths' signs signs' levels levels' places places' decisions next kept t_more t_same s_more s_same l_more l_same p_more p_same = record {
  once = kept.once;
  truths_room = let r = kept.truths_room in omega arith;
  signs_room = let r = kept.signs_room in omega arith;
  levels_room = let r = kept.levels_room in omega arith;
  places_room = let r = kept.places_room in omega arith;
  true_at = λ l. t_same (code_of l) ∙ kept.true_at l;
  sign_at = λ v. s_same v ∙ kept.sign_at v;
  level_at = λ v. l_same v ∙ kept.level_at v;
  place_at = λ v. p_same v ∙ kept.place_at v;
  level_is = kept.level_is;
  assigned_below = kept.assigned_below;
  next_room = kept.next_room;
}

-- and over another number of variables
pub kept_over : (n m : ℕ) (t : List Assigned) (truths signs : List Bool) (levels places : List ℕ) (decisions next low : ℕ)
    → IsKept n t truths signs levels places decisions next → IsDistinct m t → 2 * m ≤ length truths → m ≤ length signs → m ≤ length levels → m ≤ length places
    → low ≡ min next m → IsKept m t truths signs levels places decisions low
kept_over n m t truths signs levels places decisions next low kept once t_room s_room l_room p_room e = record {
  once = once;
  truths_room = t_room;
  signs_room = s_room;
  levels_room = l_room;
  places_room = p_room;
  true_at = kept.true_at;
  sign_at = kept.sign_at;
  level_at = kept.level_at;
  place_at = kept.place_at;
  level_is = kept.level_is;
  assigned_below = λ v lt. kept.assigned_below v (omega arith);
  next_room = omega arith;
}

-- one more entry comes first in the reverse
pub reverse_push : {X : Type 0} (xs : List X) (x : X) → reverse (xs ++ x ∷ []) ≡ x ∷ reverse xs
reverse_push xs x = reverse-append xs (x ∷ [])

-- the same of fields
pub kept_with : (n : ℕ) (t u : List Assigned) (truths signs : List Bool) (levels places : List ℕ) (decisions next : ℕ) → t ≡ u
    → IsKept n t truths signs levels places decisions next → IsKept n u truths signs levels places decisions next
kept_with n t u truths signs levels places decisions next e h = subst (λ w. IsKept n w truths signs levels places decisions next) e h

pub pop_kept : (n : ℕ) (a : Assigned) (xs t : List Assigned) (truths signs : List Bool) (levels places : List ℕ) (decisions next c v less low : ℕ)
    → reverse xs ≡ a ∷ t → IsKept n (reverse xs) truths signs levels places decisions next → c ≡ code_of (assigned_literal a)
    → v ≡ variable_of (assigned_literal a)
    → less ≡ cond (is_decided a) (decisions - 1) decisions → low ≡ min next v
    → IsKept n t (set truths c false) (set signs v false) (set levels v 0) (set places v 0) less low
pop_kept n a xs t truths signs levels places decisions next c v less low e kept =
    kept_pop n a t truths signs levels places decisions next c v less low (kept_with n (reverse xs) (a ∷ t) truths signs levels places decisions next e kept)

pub push_kept : (n : ℕ) (t : List Assigned) (truths signs : List Bool) (levels places : List ℕ) (decisions next : ℕ)
    → IsKept n t truths signs levels places decisions next
    → (a : Assigned) (xs : List Assigned) (c v size more : ℕ) (sign : Bool) → xs ≡ a ∷ t → c ≡ code_of (assigned_literal a)
    → v ≡ variable_of (assigned_literal a)
    → size ≡ length t + 1 → more ≡ level (a ∷ t) → sign ≡ same_literal (Positive (variable_of (assigned_literal a))) (assigned_literal a) → v < n
    → is_assigned t v ≡ false
    → IsKept n xs (set truths c true) (set signs v sign) (set levels v more) (set places v size) more next
push_kept n t truths signs levels places decisions next kept a xs c v size more sign e ec ev es em eg low free =
    kept_with n (a ∷ t) xs (set truths c true) (set signs v sign) (set levels v more) (set places v size) more next (sym e)
    (kept_push n t truths signs levels places decisions next kept a c v size more sign ec ev es em eg low free)

-- the first signs, so many, are those of the variables
signs_from : (f : ℕ → Bool) (xs : List Bool) (s n : ℕ) → n ≤ length xs → ((i : ℕ) → get_or xs i false ≡ f (s + i))
    → take n xs ≡ map f (range_with_len s n)
signs_from f xs s zero low at = refl
signs_from f [] s (suc n) low at = absurd (omega arith)
signs_from f (x ∷ xs) s (suc n) low at =
    ap (λ y. y ∷ take n xs) (at 0 ∙ ap f (let e : s + 0 ≡ s = omega arith in e))
    ∙ ap (λ ys. f s ∷ ys) (signs_from f xs (s + 1) n (omega arith) (λ i. at (suc i) ∙ ap f (let e : s + suc i ≡ s + 1 + i = omega arith in e)))

pub signs_are : (n : ℕ) (t : List Assigned) (signs : List Bool) → n ≤ length signs → ((v : ℕ) → get_or signs v false ≡ is_true t (Positive v))
    → take n signs ≡ signs_of t n
signs_are n t signs room at =
    signs_from (λ v. is_true t (Positive v)) signs 0 n room
    (λ i. at i ∙ ap (λ v. is_true t (Positive v)) (let e : i ≡ 0 + i = omega arith in e))
