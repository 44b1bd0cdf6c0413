-- What a clause watches that joins others under a trail of level 0.
use Rattle.std.proofs.Common.{◌≡◌, ℕ, ◌≤◌, Bool, true, false, cond, not, ◌&&◌, eqb, List, [], ◌∷◌, length, Option, Some, None, refl, sym, ap, ◌∙◌}
use Rattle.std.proofs.Common.{subst, ⊎_elim, arith}
use Rattle.std.specs.Prelude.{unwrap_or}
use Rattle.std.specs.List.{find, list_all}
use Rattle.std.proofs.lemmas.Bool.{both_ways, or_cases, or_left, or_right, not-true}
use Rattle.cqe_base.specs.Literal.{Literal, same_literal, has_literal, HasNoRepeat}
use Rattle.cqe_base.specs.Machine.{Assigned, is_true, is_false, level, level_of}
use Rattle.cqe_base.proofs.ClauseTruth.{same_literal-true, same_literal-same}
use Rattle.cqe_base.proofs.Trails.{level_of-le}
use Rattle.clause_solver.specs.Watching.{IsAnswered, satisfied, is_unit, IsWatched}
use Rattle.clause_solver.proofs.Visits.{IsNext, not_empty}
use Rattle.clause_solver.proofs.Learnt.{all_one}

-- ---- what is found

module _ (p : Literal → Bool) where
  pub found_has : (c : List Literal) (l : Literal) → find p c ≡ Some l → (has_literal c l ≡ true) × (p l ≡ true)
  found_has [] l h = absurd (let x : ⊥ = cc in x)
  found_has (x ∷ c) l h = step (p x) refl (λ e. found_has c l e) h
    where
      step : (b : Bool) → p x ≡ b → (find p c ≡ Some l → (has_literal c l ≡ true) × (p l ≡ true)) → cond b (Some x) (find p c) ≡ Some l
          → (has_literal (x ∷ c) l ≡ true) × (p l ≡ true)
      step true e go h = let same : x ≡ l = cc in
          (or_left _ _ (subst (λ y. same_literal l y ≡ true) (sym same) (same_literal-same l)), subst (λ y. p y ≡ true) same e)
      step false e go h = let r = go h in (or_right _ _ r.0, r.1)

  pub none_has : (c : List Literal) (l : Literal) → find p c ≡ None → has_literal c l ≡ true → p l ≡ false
  none_has [] l h has = absurd (both_ways false refl has)
  none_has (x ∷ c) l h has = step (p x) refl (none_has c l) h
    where
      step : (b : Bool) → p x ≡ b → (find p c ≡ None → has_literal c l ≡ true → p l ≡ false) → cond b (Some x) (find p c) ≡ None → p l ≡ false
      step true e go h = absurd (let x : ⊥ = cc in x)
      step false e go h = ⊎_elim (λ s. subst (λ y. p y ≡ false) (sym (same_literal-true l x s)) e) (λ m. go h m)
          (or_cases (same_literal l x) (has_literal c l) has)

-- a clause that isn't falsified has a literal that isn't false
pub open_there : (t : List Assigned) (c : List Literal) → find (λ l. not (is_false t l)) c ≡ None → list_all (is_false t) c ≡ true
open_there t [] h = refl
open_there t (x ∷ c) h = step (is_false t x) (open_there t c) h
  where
    step : (b : Bool) → (find (λ l. not (is_false t l)) c ≡ None → list_all (is_false t) c ≡ true) → cond (not b) (Some x) (find (λ l. not (is_false t l)) c)
        ≡ None → (b && list_all (is_false t) c) ≡ true
    step true go h = go h
    step false go h = absurd (let x : ⊥ = cc in x)

-- ---- what is watched

module _ (t : List Assigned) (c : List Literal) (first : Literal) (zero_level : level t ≡ 0) (once : HasNoRepeat c) (has : has_literal c first ≡ true)
    (free : is_false t first ≡ false) where
  not_none : {X : Type 0} → length c ≡ 0 → X
  not_none none = let pos = not_empty c first has in absurd (omega arith)

  -- beside another one that isn't false
  pub watched_open : (second : Literal) → IsNext t first c second
      → IsWatched t c (record { first = first; second = second }) false (eqb (length c) 0)
  watched_open second n = record {
    first_in = λ _. has;
    second_in = λ _. n.has;
    first_answered = λ f. absurd (both_ways _ free f);
    second_answered = λ f. absurd (both_ways _ n.free f);
    single = λ same. absurd (n.apart (sym same));
    alone = λ pos same. absurd (n.apart (sym same));
    empty = λ none. not_none none;
  }

  -- where all others are false
  module _ (q u : Bool) (is : u ≡ not (is_true t first)) where
    answered : (k : ℕ) → k ≡ level t → IsAnswered t c u q k first
    answered k e = step (is_true t first) refl
      where
        step : (b : Bool) → is_true t first ≡ b → IsAnswered t c u q k first
        step true holds = satisfied (record { literal = first; has = has; holds = holds; low = let le = level_of-le t first in omega arith })
        step false off = is_unit e free (is ∙ ap not off)

    at_level : (l : Literal) → level_of t l ≡ level t
    at_level l = let le = level_of-le t l in omega arith

    beside : (o : Option Literal) → o ≡ find (λ l. not (same_literal l first)) c → has_literal c (unwrap_or o first) ≡ true
    beside None e = has
    beside (Some m) e = (found_has (λ l. not (same_literal l first)) c m (sym e)).0

    only : (o : Option Literal) → o ≡ find (λ l. not (same_literal l first)) c → first ≡ unwrap_or o first → length c ≤ 1
    only None e same = all_one c first once (λ x h. same_literal-true x first (not_false _ (none_has (λ l. not (same_literal l first)) c x (sym e) h)))
      where
        not_false : (b : Bool) → not b ≡ false → b ≡ true
        not_false true e = refl
        not_false false e = absurd (both_ways true e refl)
    only (Some m) e same = absurd (both_ways _ (not-true _ (found_has (λ l. not (same_literal l first)) c m (sym e)).1)
        (subst (λ x. same_literal m x ≡ true) (sym same) (same_literal-same m)))

    pub watched_closed : (o : Option Literal) → o ≡ find (λ l. not (same_literal l first)) c
        → IsWatched t c (record { first = first; second = unwrap_or o first }) u q
    watched_closed o e = record {
      first_in = λ _. has;
      second_in = λ _. beside o e;
      first_answered = λ f. absurd (both_ways _ free f);
      second_answered = λ f. answered _ (at_level (unwrap_or o first));
      single = λ same. only o e same;
      alone = λ pos same. answered 0 (sym zero_level);
      empty = λ none. not_none none;
    }
