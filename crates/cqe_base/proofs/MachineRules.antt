-- Each rule leads from a reached state to a reached state.
use Rattle.std.proofs.Common.{◌≡◌, ℕ, zero, suc, ◌+◌, ◌<◌, Bool, true, false, cond, not, ◌&&◌, List, [], ◌∷◌, Some, None, refl, sym, ap, ◌∙◌, subst, inl, inr}
use Rattle.std.proofs.Common.{⊎_elim, ◌⊎◌, arith, length}
use Rattle.std.specs.Prelude.{slice_index_or}
use Rattle.std.specs.List.{range_with_len, list_any, list_all, filter, find, position_from, AllByRecursion}
use Rattle.std.proofs.lemmas.Bool.{false_from_ne_true, or_cases, or_left, or_right, and_parts, both_ways, cond_both, not-true}
use Rattle.cqe_base.specs.Literal.{Literal, Positive, Negative, variable_of, has_literal, ClauseBelow}
use Rattle.cqe_base.specs.Machine.{Assigned, Decided, Because, State, is_true, is_false, unit_literal, only_literal, first_unit, first_unassigned}
use Rattle.cqe_base.specs.MachineStates.{is_assigned, IsCause, NotForced, IsReached}
use Rattle.cqe_base.proofs.ClauseTruth.{same_literal-true, same_literal-same}
use Rattle.cqe_base.proofs.Truths.{true_if_not_false}
use Rattle.cqe_base.proofs.Analysis.{each_at, each_weaker, each_passes, filter_has}
use Rattle.cqe_base.proofs.Reached.{assigned_cases, position_none, unit_at, unit_none}

-- what holds of each literal holds of one that the clause has
pub each_has : (P : Literal → Type 0) (c : List Literal) (l : Literal) → AllByRecursion P c → has_literal c l ≡ true → P l
each_has P [] l h m = absurd (both_ways false refl m)
each_has P (x ∷ c) l h m =
    ⊎_elim (λ e. subst P (sym (same_literal-true l x e)) h.0) (λ e. each_has P c l h.1 e) (or_cases _ _ m)

pub filter_member : (p : Literal → Bool) (c : List Literal) (l : Literal) → has_literal (filter p c) l ≡ true → has_literal c l ≡ true
filter_member p [] l h = h
filter_member p (x ∷ c) l h = step (p x) h
  where
    later : has_literal (filter p c) l ≡ true → has_literal c l ≡ true
    later e = true_if_not_false (has_literal c l) (λ k. both_ways _ (filter_has p c l k) e)

    step : (b : Bool) → has_literal (cond b (x ∷ filter p c) (filter p c)) l ≡ true → has_literal (x ∷ c) l ≡ true
    step true h = ⊎_elim (λ e. or_left _ _ e) (λ e. or_right _ _ (later e)) (or_cases _ _ h)
    step false h = or_right _ _ (later h)

-- each literal that passes is kept
pub each_kept : (p : Literal → Bool) (c : List Literal) → AllByRecursion (λ m. p m ≡ true → has_literal (filter p c) m ≡ true) c
each_kept p [] = tt
each_kept p (x ∷ c) = (
  λ e. ap (λ b. has_literal (cond b (x ∷ filter p c) (filter p c)) x) e ∙ or_left _ _ (same_literal-same x),
  each_weaker (λ m. p m ≡ true → has_literal (filter p c) m ≡ true) (λ m. p m ≡ true → has_literal (filter p (x ∷ c)) m ≡ true)
      (λ m go e. cond_both (p x) (x ∷ filter p c) (filter p c) (λ d. has_literal d m ≡ true) (λ _. or_right _ _ (go e)) (λ _. go e)) c (each_kept p c),
)

-- what the unit rule knows of its literal
pub record IsUnit (t : List Assigned) (c : List Literal) (l : Literal) : Type 0 where
  pub cause : IsCause t l c
  pub unassigned : is_assigned t (variable_of l) ≡ false

only_one : (t : List Assigned) (xs : List Literal) (l : Literal) → only_literal t xs ≡ Some l → (xs ≡ l ∷ []) × (is_true t l ≡ false)
only_one t [] l h = absurd (let x : ⊥ = cc in x)
only_one t (x ∷ []) l h = step (is_true t x) refl h
  where
    step : (b : Bool) → is_true t x ≡ b → cond b None (Some x) ≡ Some l → ((x ∷ []) ≡ l ∷ []) × (is_true t l ≡ false)
    step true e h = absurd (let y : ⊥ = cc in y)
    step false e h = let same : x ≡ l = cc in (ap (λ y. y ∷ []) same, subst (λ y. is_true t y ≡ false) same e)
only_one t (x ∷ y ∷ xs) l h = absurd (let z : ⊥ = cc in z)

single : (m l : Literal) → has_literal (l ∷ []) m ≡ true → m ≡ l
single m l h = ⊎_elim (λ e. same_literal-true m l e) (λ e. absurd (both_ways false refl e)) (or_cases _ _ h)

false_unless : (t : List Assigned) (l m : Literal) (b : Bool) → is_false t m ≡ b → (not (is_false t m) ≡ true → m ≡ l) → (m ≡ l) ⊎ (is_false t m ≡ true)
false_unless t l m true e go = inr e
false_unless t l m false e go = inl (go (ap not e))

pub is_unit : (t : List Assigned) (c : List Literal) (l : Literal) → unit_literal t c ≡ Some l → IsUnit t c l
is_unit t c l h =
    let p : Literal → Bool = λ m. not (is_false t m) in
    let one = only_one t (filter p c) l h in
    let kept : has_literal (filter p c) l ≡ true = ap (λ xs. has_literal xs l) one.0 ∙ or_left _ _ (same_literal-same l) in
    let passes : p l ≡ true = each_has (λ m. p m ≡ true) (filter p c) l (each_passes p c) kept in
    record {
      cause = record {
        has = filter_member p c l kept;
        others = each_weaker (λ m. p m ≡ true → has_literal (filter p c) m ≡ true) (λ m. (m ≡ l) ⊎ (is_false t m ≡ true))
            (λ m go. false_unless t l m (is_false t m) refl (λ e. single m l (sym (ap (λ xs. has_literal xs m) one.0) ∙ go e))) c (each_kept p c);
      };
      unassigned = false_from_ne_true _ (λ a. ⊎_elim (λ u. both_ways _ one.1 u) (λ u. both_ways _ (not-true _ passes) u) (assigned_cases t l a));
    }

-- the unit rule leads to a reached state
pub unit_reached : (n : ℕ) (s : State) (u : ℕ × Literal) → IsReached n s → first_unit s.trail 0 s.clauses ≡ Some u → IsReached n (record s {
  trail =
      Because u.0 u.1 ∷ s.trail;
})
unit_reached n s u r h =
    let at = unit_at s.trail s.clauses 0 u h in
    let same : at.place ≡ u.0 = (let e = at.number in omega arith) in
    let unit : unit_literal s.trail (slice_index_or s.clauses u.0 []) ≡ Some u.1 =
    subst (λ i. unit_literal s.trail (slice_index_or s.clauses i []) ≡ Some u.1) same at.unit in
    let within : u.0 < length s.clauses = subst (λ i. i < length s.clauses) same at.within in
    let is = is_unit s.trail (slice_index_or s.clauses u.0 []) u.1 unit in
    record {
      distinct = (
        each_has (λ m. variable_of m < n) (slice_index_or s.clauses u.0 []) u.1 (each_at (ClauseBelow n) s.clauses u.0 r.below tt) is.cause.has,
        is.unassigned,
        r.distinct,
      );
      reasons = (within, is.cause, r.reasons);
      below = r.below;
      no_repeat = r.no_repeat;
    }

-- what the third rule knows of its variable
pub record IsFree (t : List Assigned) (n v : ℕ) : Type 0 where
  pub below : v < n
  pub unassigned : is_assigned t v ≡ false

find_range : (p : ℕ → Bool) (k m v : ℕ) → find p (range_with_len k m) ≡ Some v → (p v ≡ true) × (v < k + m)
find_range p k zero v h = absurd (let x : ⊥ = cc in x)
find_range p k (suc m) v h = step (p k) refl h (λ e. find_range p (k + 1) m v e)
  where
    step : (b : Bool) → p k ≡ b → cond b (Some k) (find p (range_with_len (k + 1) m)) ≡ Some v
        → (find p (range_with_len (k + 1) m) ≡ Some v → (p v ≡ true) × (v < k + 1 + m)) → (p v ≡ true) × (v < k + suc m)
    step true e h go = let same : k ≡ v = cc in (subst (λ x. p x ≡ true) same e, omega arith)
    step false e h go = let r = go h in let lt = r.1 in (r.0, omega arith)

pub is_free : (t : List Assigned) (n v : ℕ) → first_unassigned t n ≡ Some v → IsFree t n v
is_free t n v h =
    let p : ℕ → Bool = λ v. not (is_true t (Positive v)) && not (is_true t (Negative v)) in
    let r = find_range p 0 n v h in
    let parts = and_parts (not (is_true t (Positive v))) (not (is_true t (Negative v))) r.0 in
    let lt = r.1 in
    record {
      below = omega arith;
      unassigned = false_from_ne_true _ (λ a.
          ⊎_elim (λ u. both_ways _ (not-true _ parts.0) u) (λ u. both_ways _ (not-true _ parts.1) u) (assigned_cases t (Positive v) a));
    }

none_open_step : (f : Literal → Bool) (l : Literal) (c : List Literal) (b : Bool) → f l ≡ b → (filter (λ l. not (f l)) c ≡ [] → list_all f c ≡ true)
    → cond (not b) (l ∷ filter (λ l. not (f l)) c) (filter (λ l. not (f l)) c) ≡ [] → (f l && list_all f c) ≡ true
none_open_step f l c true e go h = ap (λ x. x && list_all f c) e ∙ go h
none_open_step f l c false e go h = absurd (let y : ⊥ = cc in y)

none_open : (f : Literal → Bool) (c : List Literal) → filter (λ l. not (f l)) c ≡ [] → list_all f c ≡ true
none_open f [] h = refl
none_open f (l ∷ c) h = none_open_step f l c (f l) refl (λ e. none_open f c e) h

pub any_has : (p : Literal → Bool) (c : List Literal) (l : Literal) → has_literal c l ≡ true → p l ≡ true → list_any p c ≡ true
any_has p [] l h e = absurd (both_ways false refl h)
any_has p (x ∷ c) l h e =
    ⊎_elim (λ u. or_left _ _ (subst (λ y. p y ≡ true) (same_literal-true l x u) e)) (λ u. or_right _ _ (any_has p c l u e)) (or_cases _ _ h)

-- a clause to which neither of the first two rules applies isn't forced
pub not_forced : (t : List Assigned) (c : List Literal) → list_all (is_false t) c ≡ false → unit_literal t c ≡ None → NotForced t c
not_forced t c nf nu = step (filter (λ l. not (is_false t l)) c) refl nu
  where
    step : (xs : List Literal) → filter (λ l. not (is_false t l)) c ≡ xs → only_literal t xs ≡ None → NotForced t c
    step [] e h = absurd (both_ways _ nf (none_open (is_false t) c e))
    step (l ∷ []) e h =
        let kept : has_literal (filter (λ l. not (is_false t l)) c) l ≡ true = ap (λ xs. has_literal xs l) e ∙ or_left _ _ (same_literal-same l) in
        inl (any_has (is_true t) c l (filter_member (λ l. not (is_false t l)) c l kept) (true_one (is_true t l) refl h))
      where
        true_one : (b : Bool) → is_true t l ≡ b → cond b None (Some l) ≡ None → is_true t l ≡ true
        true_one true e h = e
        true_one false e h = absurd (let y : ⊥ = cc in y)
    step (l ∷ m ∷ xs) e h = inr (let long = ap length e in omega arith)

pub each_not_forced : (t : List Assigned) (cs : List (List Literal)) → AllByRecursion (λ c. list_all (is_false t) c ≡ false) cs
    → AllByRecursion (λ c. unit_literal t c ≡ None) cs → AllByRecursion (NotForced t) cs
each_not_forced t [] h k = tt
each_not_forced t (c ∷ cs) h k = (not_forced t c h.0 k.0, each_not_forced t cs h.1 k.1)

-- the third rule leads to a reached state
pub decide_reached : (n : ℕ) (s : State) (v : ℕ) → IsReached n s → position_from (list_all (is_false s.trail)) 0 s.clauses ≡ None
    → first_unit s.trail 0 s.clauses ≡ None → first_unassigned s.trail n ≡ Some v → IsReached n (record s { trail = Decided (Negative v) ∷ s.trail })
decide_reached n s v r hc hu h =
    let free = is_free s.trail n v h in
    record {
      distinct = (free.below, free.unassigned, r.distinct);
      reasons = (each_not_forced s.trail s.clauses (position_none (list_all (is_false s.trail)) s.clauses 0 hc) (unit_none s.trail s.clauses 0 hu), r.reasons);
      below = r.below;
      no_repeat = r.no_repeat;
    }
