-- What the watched literals say of the falsified and of the unit clauses.
use Rattle.std.proofs.Common.{◌≡◌, ℕ, zero, suc, ◌+◌, ◌<◌, ◌≤◌, Bool, true, false, cond, not, ◌&&◌, List, [], ◌∷◌, length, get_or, Option, Some, None, refl}
use Rattle.std.proofs.Common.{sym, ap, ◌∙◌, subst, inl, inr, ⊎_elim, ◌⊎◌, arith}
use Rattle.std.specs.Prelude.{IfSome}
use Rattle.std.specs.List.{list_all, filter, position_from}
use Rattle.std.proofs.lemmas.Bool.{both_ways, or_parts, cases_eq, cases_lt, false_from_ne_true, or_cases, or_left, or_right, and_parts, and_from, leb-true}
use Rattle.std.proofs.lemmas.Bool.{not-true}
use Rattle.cqe_base.specs.Literal.{Literal, same_literal, has_literal, HasNoRepeat, HaveNoRepeat}
use Rattle.cqe_base.specs.Machine.{Assigned, is_true, is_false, level, unit_literal, only_literal, first_unit, unit_or}
use Rattle.cqe_base.specs.MachineStates.{IsDistinct}
use Rattle.cqe_base.proofs.ClauseTruth.{same_literal-true, same_literal-same}
use Rattle.cqe_base.proofs.Trails.{not_both, true_is_assigned, level_of-le}
use Rattle.cqe_base.proofs.MachineRules.{IsUnit, is_unit, each_has}
use Rattle.cqe_base.proofs.NoRepeats.{no_repeat_at}
use Rattle.clause_solver.specs.declared.watches.Pair.{Pair}
use Rattle.clause_solver.specs.declared.watches.Watch.{Watch}
use Rattle.clause_solver.specs.Watching.{HasTrue, IsAnswered, satisfied, is_unit as answered_unit, is_falsified, IsWatched, IsWatching, AllFalseBut, has_number}
use Rattle.clause_solver.specs.Watching.{is_caught, no_pair, IsOpenOf, AreClosed, HaveSameLiterals}
use Rattle.clause_solver.proofs.Watching.{watched_more}

-- ---- literals of a clause

pub all_from_has : (p : Literal → Bool) (c : List Literal) → ((l : Literal) → has_literal c l ≡ true → p l ≡ true) → list_all p c ≡ true
all_from_has p [] h = refl
all_from_has p (x ∷ c) h = and_from _ _ (h x (or_left _ _ (same_literal-same x))) (all_from_has p c (λ l m. h l (or_right _ _ m)))

pub all_has : (p : Literal → Bool) (c : List Literal) (l : Literal) → list_all p c ≡ true → has_literal c l ≡ true → p l ≡ true
all_has p [] l h m = absurd (both_ways false refl m)
all_has p (x ∷ c) l h m =
    let parts : (p x ≡ true) × (list_all p c ≡ true) = and_parts _ _ h in
    ⊎_elim (λ e. subst (λ y. p y ≡ true) (sym (same_literal-true l x e)) parts.0) (λ e. all_has p c l parts.1 e) (or_cases _ _ m)

pub all_same : (p : Literal → Bool) (c d : List Literal) → ((l : Literal) → has_literal c l ≡ has_literal d l) → list_all p c ≡ true → list_all p d ≡ true
all_same p c d same h = all_from_has p d (λ l m. all_has p c l h (same l ∙ m))

-- ---- one clause

module _ (n : ℕ) (t : List Assigned) (d : IsDistinct n t) (c : List Literal) (p : Pair) (u q : Bool) (w : IsWatched t c p u q) where
  -- a falsified clause is known as one
  pub known_falsified : list_all (is_false t) c ≡ true → q ≡ true
  known_falsified h = elim (cases_lt 0 (length c)) [
    | inr none ↦ (w.empty (omega arith)).1
    | inl pos ↦ answer (w.second_in pos) (w.first_answered (all_has (is_false t) c p.first h (w.first_in pos)))
  ]
    where
      answer : {k : ℕ} {l : Literal} → has_literal c l ≡ true → IsAnswered t c u q k l → q ≡ true
      answer m (satisfied g) = absurd (not_both n t g.literal d g.holds (all_has (is_false t) c g.literal h g.has))
      answer m (answered_unit e o g) = absurd (both_ways _ o (all_has (is_false t) c _ h m))
      answer m (is_falsified e g) = g

  -- so is a unit clause
  pub known_unit : (l : Literal) → IsUnit t c l → q ≡ false → u ≡ true
  known_unit l is free = elim (same_literal p.first l) as (λ b. same_literal p.first l ≡ b → u ≡ true) [
    | true ↦ λ e. elim (same_literal p.second l) as (λ b. same_literal p.second l ≡ b → u ≡ true) [
      | true ↦ λ f. answer (w.alone pos (same_literal-true p.first l e ∙ sym (same_literal-true p.second l f)))
      | false ↦ λ f. answer (w.second_answered (other p.second (w.second_in pos) f))
    ] refl
    | false ↦ λ e. answer (w.first_answered (other p.first (w.first_in pos) e))
  ] refl
    where
      pos : 0 < length c
      pos = elim c as (λ c. has_literal c l ≡ true → 0 < length c) [ [] ↦ λ h. absurd (both_ways false refl h) | x ∷ c ↦ λ h. omega arith ] is.cause.has

      off : is_true t l ≡ false
      off = false_from_ne_true _ (λ h. both_ways _ is.unassigned (true_is_assigned t l h))

      other : (m : Literal) → has_literal c m ≡ true → same_literal m l ≡ false → is_false t m ≡ true
      other m h e = ⊎_elim (λ s. absurd (both_ways _ e (subst (λ x. same_literal m x ≡ true) s (same_literal-same m)))) (λ f. f)
          (each_has (λ m. (m ≡ l) ⊎ (is_false t m ≡ true)) c m is.cause.others h)

      answer : {k : ℕ} {m : Literal} → IsAnswered t c u q k m → u ≡ true
      answer (satisfied g) =
          absurd (⊎_elim (λ s. both_ways _ off (subst (λ x. is_true t x ≡ true) s g.holds)) (λ f. not_both n t g.literal d g.holds f)
          (each_has (λ m. (m ≡ l) ⊎ (is_false t m ≡ true)) c g.literal is.cause.others g.has))
      answer (answered_unit e o g) = g
      answer (is_falsified e g) = absurd (both_ways _ free g)

  -- a clause with a true literal needs not be known as a unit one
  pub settled : HasTrue t (level t) c → (u' : Bool) → IsWatched t c p u' q
  settled h u' = record {
    first_in = w.first_in;
    second_in = w.second_in;
    single = w.single;
    first_answered = λ f. answer (w.first_answered f);
    second_answered = λ f. answer (w.second_answered f);
    alone = λ pos e. answer (w.alone pos e);
    empty = w.empty;
  }
    where
      answer : {k : ℕ} {m : Literal} → IsAnswered t c u q k m → IsAnswered t c u' q k m
      answer (satisfied g) = satisfied g
      answer (answered_unit e o g) = satisfied (subst (λ j. HasTrue t j c) (sym e) h)
      answer (is_falsified e g) = is_falsified e g

  -- where no watched literal is open it has a true literal, unless it is falsified
  pub held : q ≡ false → AreClosed t p → HasTrue t (level t) c
  held free closed = elim (cases_lt 0 (length c)) [
    | inr none ↦ absurd (both_ways _ free (w.empty (omega arith)).1)
    | inl pos ↦
        ⊎_elim (λ on. true_one p.first (w.first_in pos) on)
        (λ off. ⊎_elim (λ on. true_one p.second (w.second_in pos) on) (λ f. answer f (w.first_answered off)) (on_or_off _ _ closed.1))
        (on_or_off _ _ closed.0)
  ]
    where
      true_one : (l : Literal) → has_literal c l ≡ true → is_true t l ≡ true → HasTrue t (level t) c
      true_one l has on = record { literal = l; has = has; holds = on; low = level_of-le t l }

      on_or_off : (a b : Bool) → (not a && not b) ≡ false → (a ≡ true) ⊎ (b ≡ true)
      on_or_off true b e = inl refl
      on_or_off false true e = inr refl
      on_or_off false false e = absurd (both_ways true e refl)

      answer : {k : ℕ} {l : Literal} → is_false t l ≡ true → IsAnswered t c u q k l → HasTrue t (level t) c
      answer off (satisfied g) = true_one g.literal g.has g.holds
      answer off (answered_unit e o g) = absurd (both_ways _ o off)
      answer off (is_falsified e g) = absurd (both_ways _ free g)

-- ---- the first place of a test

pub position_at : (p : List Literal → Bool) (cs : List (List Literal)) (s i : ℕ) → i < length cs → p (get_or cs i []) ≡ true
    → ((k : ℕ) → k < i → p (get_or cs k []) ≡ false) → position_from p s cs ≡ Some (s + i)
position_at p [] s i lt h before = absurd (omega arith)
position_at p (c ∷ cs) s zero lt h before = ap (λ b. cond b (Some s) (position_from p (s + 1) cs)) h ∙ ap Some (let e : s ≡ s + 0 = omega arith in e)
position_at p (c ∷ cs) s (suc i) lt h before =
    ap (λ b. cond b (Some s) (position_from p (s + 1) cs)) (before 0 (omega arith))
    ∙ position_at p cs (s + 1) i (omega arith) h (λ k l. before (suc k) (omega arith))
    ∙ ap Some (let e : s + 1 + i ≡ s + suc i = omega arith in e)

pub position_nowhere : (p : List Literal → Bool) (cs : List (List Literal)) (s : ℕ) → ((k : ℕ) → k < length cs → p (get_or cs k []) ≡ false)
    → position_from p s cs ≡ None
position_nowhere p [] s h = refl
position_nowhere p (c ∷ cs) s h =
    ap (λ b. cond b (Some s) (position_from p (s + 1) cs)) (h 0 (omega arith)) ∙ position_nowhere p cs (s + 1) (λ k lt. h (suc k) (omega arith))

pub unit_at_place : (t : List Assigned) (cs : List (List Literal)) (s i : ℕ) (l : Literal) → i < length cs → unit_literal t (get_or cs i []) ≡ Some l
    → ((k : ℕ) → k < i → unit_literal t (get_or cs k []) ≡ None) → first_unit t s cs ≡ Some (s + i, l)
unit_at_place t [] s i l lt h before = absurd (omega arith)
unit_at_place t (c ∷ cs) s zero l lt h before = ap (λ o. unit_or s o (first_unit t (s + 1) cs)) h ∙ ap (λ k. Some (k, l)) (let e : s ≡ s + 0 = omega arith in e)
unit_at_place t (c ∷ cs) s (suc i) l lt h before =
    ap (λ o. unit_or s o (first_unit t (s + 1) cs)) (before 0 (omega arith))
    ∙ unit_at_place t cs (s + 1) i l (omega arith) h (λ k m. before (suc k) (omega arith))
    ∙ ap (λ k. Some (k, l)) (let e : s + 1 + i ≡ s + suc i = omega arith in e)

pub unit_nowhere : (t : List Assigned) (cs : List (List Literal)) (s : ℕ) → ((k : ℕ) → k < length cs → unit_literal t (get_or cs k []) ≡ None)
    → first_unit t s cs ≡ None
unit_nowhere t [] s h = refl
unit_nowhere t (c ∷ cs) s h =
    ap (λ o. unit_or s o (first_unit t (s + 1) cs)) (h 0 (omega arith)) ∙ unit_nowhere t cs (s + 1) (λ k lt. h (suc k) (omega arith))

-- ---- an open literal of a clause whose other literals are false

abbrev pub not_false : List Assigned → Literal → Bool
not_false t l = not (is_false t l)

none_left : (t : List Assigned) (l : Literal) (c : List Literal) → AllFalseBut t l c → has_literal c l ≡ false → filter (not_false t) c ≡ []
none_left t l [] h m = refl
none_left t l (x ∷ c) h m =
    let parts : (same_literal l x ≡ false) × (has_literal c l ≡ false) = or_parts _ _ m in
    ⊎_elim (λ e. absurd (both_ways _ parts.0 (subst (λ y. same_literal l y ≡ true) (sym e) (same_literal-same l))))
    (λ f. ap (λ b. cond (not b) (x ∷ filter (not_false t) c) (filter (not_false t) c)) f ∙ none_left t l c h.1 parts.1)
    h.0

one_left : (t : List Assigned) (l : Literal) (c : List Literal) → AllFalseBut t l c → HasNoRepeat c → is_false t l ≡ false → has_literal c l ≡ true
    → filter (not_false t) c ≡ l ∷ []
one_left t l [] h r free m = absurd (both_ways false refl m)
one_left t l (x ∷ c) h r free m = elim (same_literal x l) as (λ b. same_literal x l ≡ b → filter (not_false t) (x ∷ c) ≡ l ∷ []) [
  | true ↦ λ e.
      let same = same_literal-true x l e in
      ap (λ b. cond (not b) (x ∷ filter (not_false t) c) (filter (not_false t) c)) (ap (is_false t) same ∙ free)
      ∙ (λ i. same i ∷ none_left t l c h.1 (ap (has_literal c) (sym same) ∙ r.0) i)
  | false ↦ λ e.
      let apart : x ≡ l → ⊥ = λ s. both_ways _ e (subst (λ y. same_literal x y ≡ true) s (same_literal-same x)) in
      ⊎_elim (λ s. absurd (apart s))
      (λ f. ap (λ b. cond (not b) (x ∷ filter (not_false t) c) (filter (not_false t) c)) f
      ∙ one_left t l c h.1 r.1 free (⊎_elim (λ s. absurd (apart (sym (same_literal-true l x s)))) (λ s. s) (or_cases _ _ m)))
      h.0
] refl

each_but : (t : List Assigned) (l : Literal) (c : List Literal) → ((m : Literal) → has_literal c m ≡ true → (m ≡ l) ⊎ (is_false t m ≡ true)) → AllFalseBut t l c
each_but t l [] h = tt
each_but t l (x ∷ c) h = (h x (or_left _ _ (same_literal-same x)), each_but t l c (λ m i. h m (or_right _ _ i)))

-- ---- all clauses

module _ (n : ℕ) (t : List Assigned) (d : IsDistinct n t) (cs ds : List (List Literal)) (same : HaveSameLiterals cs ds) (lists : List (List Watch))
    (pairs : List Pair) (units : List ℕ) (falsified : Option ℕ) (g : Literal)
    (w : IsWatching n t ds lists pairs units falsified g []) where
  watched : (i : ℕ) → i < length ds → IsWatched t (get_or ds i []) (get_or pairs i no_pair) (has_number units i) (is_caught falsified i)
  watched i lt = ⊎_elim (λ x. x) (λ h. absurd (both_ways false refl h.0)) (w.each i lt)

  to_sorted : (i : ℕ) → list_all (is_false t) (get_or cs i []) ≡ true → list_all (is_false t) (get_or ds i []) ≡ true
  to_sorted i h = all_same (is_false t) (get_or cs i []) (get_or ds i []) (same.same i) h

  from_sorted : (i : ℕ) → list_all (is_false t) (get_or ds i []) ≡ true → list_all (is_false t) (get_or cs i []) ≡ true
  from_sorted i h = all_same (is_false t) (get_or ds i []) (get_or cs i []) (λ l. sym (same.same i l)) h

  within : (i : ℕ) → i < length cs → i < length ds
  within i lt = let e = same.room in omega arith

  caught : (i : ℕ) → i < length cs → list_all (is_false t) (get_or cs i []) ≡ true → is_caught falsified i ≡ true
  caught i lt h = known_falsified n t d _ _ _ _ (watched i (within i lt)) (to_sorted i h)

  -- the least falsified clause is the first one
  pub first_falsified : (o : Option ℕ) → o ≡ falsified → o ≡ position_from (list_all (is_false t)) 0 cs
  first_falsified None e =
      sym (position_nowhere (list_all (is_false t)) cs 0 (λ k lt. false_from_ne_true _ (λ h. both_ways _ (ap (λ o. is_caught o k) (sym e)) (caught k lt h))))
  first_falsified (Some j) e =
      let is : (j < length ds)
      × (list_all (is_false t) (get_or ds j []) ≡ true) =
      subst (λ o. IfSome o (λ i. (i < length ds) × (list_all (is_false t) (get_or ds i []) ≡ true))) (sym e) w.falsified_is in
      let lt : j < length cs = (let a = is.0 in let r = same.room in omega arith) in
      sym (position_at (list_all (is_false t)) cs 0 j lt (from_sorted j is.1)
      (λ k low. false_from_ne_true _ (λ h. let le = leb-true j k (ap (λ o. is_caught o k) e ∙ caught k (omega arith) h) in absurd (omega arith)))
      ∙ ap Some (let z : 0 + j ≡ j = omega arith in z))

  pub falsified_within : (o : Option ℕ) → o ≡ falsified → IfSome o (λ i. i < length cs)
  falsified_within None e = tt
  falsified_within (Some j) e =
      let is : (j < length ds)
      × (list_all (is_false t) (get_or ds j []) ≡ true) =
      subst (λ o. IfSome o (λ i. (i < length ds) × (list_all (is_false t) (get_or ds i []) ≡ true))) (sym e) w.falsified_is in
      let a = is.0 in let r = same.room in omega arith

  module _ (none : falsified ≡ None) where
    free : (i : ℕ) → is_caught falsified i ≡ false
    free i = ap (λ o. is_caught o i) none

    -- each unit clause is among those that may be unit
    unit_has : (i : ℕ) (l : Literal) → i < length cs → unit_literal t (get_or cs i []) ≡ Some l → has_number units i ≡ true
    unit_has i l lt h =
        let u = is_unit t (get_or cs i []) l h in
        known_unit n t d _ _ _ _ (watched i (within i lt)) l
        (record {
          cause = record {
            has = sym (same.same i l) ∙ u.cause.has;
            others =
                each_but t l (get_or ds i []) (λ m e. each_has (λ x. (x ≡ l) ⊎ (is_false t x ≡ true)) (get_or cs i []) m u.cause.others (same.same i m ∙ e));
          };
          unassigned = u.unassigned;
        })
        (free i)

    no_unit : (i : ℕ) → i < length cs → has_number units i ≡ false → unit_literal t (get_or cs i []) ≡ None
    no_unit i lt h = step (unit_literal t (get_or cs i [])) refl
      where
        step : (o : Option Literal) → unit_literal t (get_or cs i []) ≡ o → unit_literal t (get_or cs i []) ≡ None
        step None e = e
        step (Some l) e = absurd (both_ways _ h (unit_has i l lt e))

    -- there is no unit clause
    pub no_unit_clause : units ≡ [] → first_unit t 0 cs ≡ None
    no_unit_clause e = unit_nowhere t cs 0 (λ k lt. no_unit k lt (ap (λ us. has_number us k) e))

    module _ (repeat : HaveNoRepeat cs) (i : ℕ) (has : has_number units i ≡ true) (least : (k : ℕ) → has_number units k ≡ true → i ≤ k) where
      pub unit_within : i < length cs
      unit_within = let a = (w.units_are i has).0 in let r = same.room in omega arith

      only : (m : Literal) → has_literal (get_or cs i []) m ≡ true → (m ≡ (w.units_are i has).1) ⊎ (is_false t m ≡ true)
      only m h = each_has (λ x. (x ≡ (w.units_are i has).1) ⊎ (is_false t x ≡ true)) (get_or ds i []) m (w.units_are i has).2 (sym (same.same i m) ∙ h)

      known : IsWatched t (get_or ds i []) (get_or pairs i no_pair) (has_number units i) (is_caught falsified i)
      known = watched i (within i unit_within)

      pub unit_listed : i < length pairs
      unit_listed = let a = unit_within in let r = same.room in let e = w.pairs_room in omega arith

      pub no_open : AreClosed t (get_or pairs i no_pair) → HasTrue t (level t) (get_or ds i [])
      no_open = held n t d _ _ _ _ known (free i)

      -- a watched literal of the least one that may be unit, where it isn't assigned
      module _ (l : Literal) (is : IsOpenOf t (get_or pairs i no_pair) l) where
        pub open_in : has_literal (get_or cs i []) l ≡ true
        open_in = elim (cases_lt 0 (length (get_or ds i []))) [
          | inr none ↦ absurd (both_ways _ (free i) (known.empty (omega arith)).1)
          | inl pos ↦
              same.same i l
              ∙ ⊎_elim (λ e. subst (λ m. has_literal (get_or ds i []) m ≡ true) e (known.first_in pos))
              (λ e. subst (λ m. has_literal (get_or ds i []) m ≡ true) e (known.second_in pos))
              is.1
        ]

        unassigned : (is_true t l ≡ false) × (is_false t l ≡ false)
        unassigned =
            let parts : (not (is_true t l) ≡ true) × (not (is_false t l) ≡ true) = and_parts _ _ is.0 in
            (not-true _ parts.0, not-true _ parts.1)

        is_only : (m : Literal) → has_literal (get_or cs i []) m ≡ true → (m ≡ l) ⊎ (is_false t m ≡ true)
        is_only m h =
            ⊎_elim
            (λ e. ⊎_elim (λ f. inl (e ∙ sym f)) (λ f. absurd (both_ways _ unassigned.1 f)) (only l open_in))
            (λ f. inr f)
            (only m h)

        pub is_unit_literal : unit_literal t (get_or cs i []) ≡ Some l
        is_unit_literal =
            ap (only_literal t)
            (one_left t l (get_or cs i []) (each_but t l (get_or cs i []) is_only) (no_repeat_at cs i repeat unit_within) unassigned.1 open_in)
            ∙ ap (λ b. cond b None (Some l)) unassigned.0

        -- it is the first unit clause
        pub is_first_unit : first_unit t 0 cs ≡ Some (i, l)
        is_first_unit =
            unit_at_place t cs 0 i l unit_within is_unit_literal
            (λ k lt. no_unit k (let a = unit_within in omega arith) (false_from_ne_true _ (λ h. let le = least k h in absurd (omega arith))))
            ∙ ap (λ k. Some (k, l)) (let z : 0 + i ≡ i = omega arith in z)

  -- a clause with a true literal is left out
  pub unit_dropped : (i : ℕ) (units' : List ℕ) → HasTrue t (level t) (get_or ds i []) → ((k : ℕ) → has_number units' k ≡ true → has_number units k ≡ true)
      → ((k : ℕ) → (k ≡ i → ⊥) → has_number units k ≡ true → has_number units' k ≡ true) → IsWatching n t ds lists pairs units' falsified g []
  unit_dropped i units' h fewer others = record {
    below = w.below;
    lists_room = w.lists_room;
    pairs_room = w.pairs_room;
    watches = w.watches;
    first_listed = w.first_listed;
    second_listed = w.second_listed;
    few = w.few;
    each = λ k lt. inl (elim (cases_eq k i) [
      | inl e ↦ settled n t d _ _ _ _ (watched k lt) (subst (λ m. HasTrue t (level t) (get_or ds m [])) (sym e) h) (has_number units' k)
      | inr ne ↦ watched_more t _ _ _ _ _ _ (others k ne) (λ x. x) (watched k lt)
    ]);
    units_are = λ k m. w.units_are k (fewer k m);
    falsified_is = w.falsified_is;
  }
