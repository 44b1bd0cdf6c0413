-- The watched literals of one clause: one more entry of the trail, a look at it, and a cut.
use Rattle.std.proofs.Common.{◌≡◌, ℕ, ◌<◌, ◌≤◌, Bool, true, false, cond, List, ◌∷◌, length, refl, sym, ap, ◌∙◌, subst, inl, inr, ⊎_elim, ◌⊎◌, arith}
use Rattle.std.proofs.lemmas.Bool.{both_ways, false_from_ne_true, or_right}
use Rattle.cqe_base.specs.Literal.{Literal, Positive, variable_of, opposite, same_literal, has_literal}
use Rattle.cqe_base.specs.Machine.{Assigned, assigned_literal, is_true, is_false, level, level_of, cut}
use Rattle.cqe_base.specs.MachineStates.{is_assigned, IsDistinct}
use Rattle.cqe_base.proofs.ClauseTruth.{same_literal-true, same_literal-same, opposite-opposite, variable_of-opposite}
use Rattle.cqe_base.proofs.Trails.{true_is_assigned, false_is_assigned, other_variable, level_of-le, false_on_rest}
use Rattle.cqe_base.proofs.Conflicts.{cut_true, cut_level, cut_suffix, cut_false}
use Rattle.clause_solver.proofs.Kept.{level_of-variable}
use Rattle.clause_solver.specs.declared.watches.Pair.{Pair}
use Rattle.clause_solver.specs.Watching.{HasTrue, IsAnswered, satisfied, is_unit, is_falsified, IsWatched, IsHalfAnswered, satisfied_before, unit_before}
use Rattle.clause_solver.specs.Watching.{falsified_before, IsHalfWatched}

-- each literal is this one or another one
pub which : (f l : Literal) → (l ≡ f) ⊎ (l ≡ f → ⊥)
which f l = step (same_literal l f) refl
  where
    step : (b : Bool) → same_literal l f ≡ b → (l ≡ f) ⊎ (l ≡ f → ⊥)
    step true e = inl (same_literal-true l f e)
    step false e = inr (λ same. both_ways _ e (subst (λ x. same_literal l x ≡ true) same (same_literal-same l)))

-- ---- more that is known

answered_more : (t : List Assigned) (c : List Literal) (u q u' q' : Bool) (k : ℕ) (l : Literal) → (u ≡ true → u' ≡ true) → (q ≡ true → q' ≡ true)
    → IsAnswered t c u q k l → IsAnswered t c u' q' k l
answered_more t c u q u' q' k l fu fq (satisfied h) = satisfied h
answered_more t c u q u' q' k l fu fq (is_unit e o h) = is_unit e o (fu h)
answered_more t c u q u' q' k l fu fq (is_falsified e h) = is_falsified e (fq h)

pub watched_more : (t : List Assigned) (c : List Literal) (p : Pair) (u q u' q' : Bool) → (u ≡ true → u' ≡ true) → (q ≡ true → q' ≡ true) → IsWatched t c p u q
    → IsWatched t c p u' q'
watched_more t c p u q u' q' fu fq w = record {
  first_in = w.first_in;
  second_in = w.second_in;
  single = w.single;
  first_answered = λ f. answered_more t c u q u' q' _ _ fu fq (w.first_answered f);
  second_answered = λ f. answered_more t c u q u' q' _ _ fu fq (w.second_answered f);
  alone = λ pos same. answered_more t c u q u' q' _ _ fu fq (w.alone pos same);
  empty = λ none. let e = w.empty none in (e.0, fq e.1);
}

half_answered_more : (t : List Assigned) (c : List Literal) (u q u' q' : Bool) (k : ℕ) → (u ≡ true → u' ≡ true) → (q ≡ true → q' ≡ true)
    → IsHalfAnswered t c u q k → IsHalfAnswered t c u' q' k
half_answered_more t c u q u' q' k fu fq (satisfied_before h) = satisfied_before h
half_answered_more t c u q u' q' k fu fq (unit_before e h) = unit_before e (fu h)
half_answered_more t c u q u' q' k fu fq (falsified_before e h) = falsified_before e (fq h)

pub half_more : (t : List Assigned) (c : List Literal) (p : Pair) (u q u' q' : Bool) (f : Literal) → (u ≡ true → u' ≡ true) → (q ≡ true → q' ≡ true)
    → IsHalfWatched t c p u q f → IsHalfWatched t c p u' q' f
half_more t c p u q u' q' f fu fq w = record {
  watches = w.watches;
  first_in = w.first_in;
  second_in = w.second_in;
  single = w.single;
  first_half = λ ne e. half_answered_more t c u q u' q' _ fu fq (w.first_half ne e);
  second_half = λ ne e. half_answered_more t c u q u' q' _ fu fq (w.second_half ne e);
  alone_half = λ pos same. half_answered_more t c u q u' q' _ fu fq (w.alone_half pos same);
  empty = λ none. let e = w.empty none in (e.0, fq e.1);
}

-- a watched clause is half watched
half_of : (t : List Assigned) (c : List Literal) (u q : Bool) (k : ℕ) (l : Literal) → IsAnswered t c u q k l → IsHalfAnswered t c u q k
half_of t c u q k l (satisfied h) = satisfied_before h
half_of t c u q k l (is_unit e o h) = unit_before e h
half_of t c u q k l (is_falsified e h) = falsified_before e h

pub watched_half : (t : List Assigned) (c : List Literal) (p : Pair) (u q : Bool) (f : Literal) → (p.first ≡ f) ⊎ (p.second ≡ f) → IsWatched t c p u q
    → IsHalfWatched t c p u q f
watched_half t c p u q f at w = record {
  watches = at;
  first_in = w.first_in;
  second_in = w.second_in;
  single = w.single;
  first_half = λ ne e. half_of t c u q _ _ (w.first_answered e);
  second_half = λ ne e. half_of t c u q _ _ (w.second_answered e);
  alone_half = λ pos same. half_of t c u q _ _ (w.alone pos same);
  empty = w.empty;
}

-- ---- one more entry of the trail

-- the level stays, or nothing is known to be unit or falsified
abbrev pub IsSteady : Assigned → List Assigned → Bool → Bool → Type 0
IsSteady a t u q = (level (a ∷ t) ≡ level t) ⊎ ((u ≡ false) × (q ≡ false))

module _ (n : ℕ) (a : Assigned) (t : List Assigned) (d : IsDistinct n (a ∷ t)) where
  pub level_push : (l : Literal) → is_assigned t (variable_of l) ≡ true → level_of (a ∷ t) l ≡ level_of t l
  level_push l h = ap (λ b. cond b (level (a ∷ t)) (level_of t l)) (other_variable a t (variable_of l) d.1 h)

  pub true_push : (k : ℕ) (c : List Literal) → HasTrue t k c → HasTrue (a ∷ t) k c
  true_push k c h = record {
    literal = h.literal;
    has = h.has;
    holds = or_right _ _ h.holds;
    low = subst (λ j. j ≤ k) (sym (level_push h.literal (true_is_assigned t h.literal h.holds))) h.low;
  }

  -- a literal other than the one that became false was false before, of the same level
  module _ (l : Literal) (ne : l ≡ opposite (assigned_literal a) → ⊥) where
    false_before : is_false (a ∷ t) l ≡ true → is_false t l ≡ true
    false_before f = false_on_rest a t l f ne

    level_before : is_false (a ∷ t) l ≡ true → level_of t l ≡ level_of (a ∷ t) l
    level_before f = sym (level_push l (false_is_assigned t l (false_before f)))

    open_push : is_false t l ≡ false → is_false (a ∷ t) l ≡ false
    open_push o = false_from_ne_true _ (λ f. both_ways _ o (false_before f))

  module _ (c : List Literal) (u q : Bool) (steady : IsSteady a t u q) where
    answered_push : (k : ℕ) (l : Literal) → (l ≡ opposite (assigned_literal a) → ⊥) → IsAnswered t c u q k l → IsAnswered (a ∷ t) c u q k l
    answered_push k l ne (satisfied h) = satisfied (true_push k c h)
    answered_push k l ne (is_unit e o h) = ⊎_elim (λ same. is_unit (e ∙ sym same) (open_push l ne o) h) (λ none. absurd (both_ways _ none.0 h)) steady
    answered_push k l ne (is_falsified e h) = ⊎_elim (λ same. is_falsified (e ∙ sym same) h) (λ none. absurd (both_ways _ none.1 h)) steady

    half_push_answered : (k : ℕ) (l : Literal) → IsAnswered t c u q k l → IsHalfAnswered (a ∷ t) c u q k
    half_push_answered k l (satisfied h) = satisfied_before (true_push k c h)
    half_push_answered k l (is_unit e o h) = ⊎_elim (λ same. unit_before (e ∙ sym same) h) (λ none. absurd (both_ways _ none.0 h)) steady
    half_push_answered k l (is_falsified e h) = ⊎_elim (λ same. falsified_before (e ∙ sym same) h) (λ none. absurd (both_ways _ none.1 h)) steady

    empty_push : (level t ≡ 0) × (q ≡ true) → (level (a ∷ t) ≡ 0) × (q ≡ true)
    empty_push e = ⊎_elim (λ same. (same ∙ e.0, e.1)) (λ none. absurd (both_ways _ none.1 e.1)) steady

    -- a clause that doesn't watch the literal that became false
    pub watched_push : (p : Pair) → (p.first ≡ opposite (assigned_literal a) → ⊥) → (p.second ≡ opposite (assigned_literal a) → ⊥) → IsWatched t c p u q
        → IsWatched (a ∷ t) c p u q
    watched_push p nf ns w = record {
      first_in = w.first_in;
      second_in = w.second_in;
      single = w.single;
      first_answered =
          λ f. subst (λ k. IsAnswered (a ∷ t) c u q k p.second) (level_before p.first nf f)
          (answered_push _ p.second ns (w.first_answered (false_before p.first nf f)));
      second_answered =
          λ f. subst (λ k. IsAnswered (a ∷ t) c u q k p.first) (level_before p.second ns f)
          (answered_push _ p.first nf (w.second_answered (false_before p.second ns f)));
      alone = λ pos same. answered_push 0 p.first nf (w.alone pos same);
      empty = λ none. empty_push (w.empty none);
    }

    -- a clause that may watch it
    pub half_push : (p : Pair) → (p.first ≡ opposite (assigned_literal a)) ⊎ (p.second ≡ opposite (assigned_literal a)) → IsWatched t c p u q
        → IsHalfWatched (a ∷ t) c p u q (opposite (assigned_literal a))
    half_push p at w = record {
      watches = at;
      first_in = w.first_in;
      second_in = w.second_in;
      single = w.single;
      first_half = λ ne f.
          subst (IsHalfAnswered (a ∷ t) c u q) (level_before p.first ne f) (half_push_answered _ p.second (w.first_answered (false_before p.first ne f)));
      second_half = λ ne f.
          subst (IsHalfAnswered (a ∷ t) c u q) (level_before p.second ne f) (half_push_answered _ p.first (w.second_answered (false_before p.second ne f)));
      alone_half = λ pos same. half_push_answered 0 p.first (w.alone pos same);
      empty = λ none. empty_push (w.empty none);
    }

    -- a clause with no literal
    pub none_push : (p : Pair) → length c ≡ 0 → IsWatched t c p u q → IsWatched (a ∷ t) c p u q
    none_push p none w =
        let e = empty_push (w.empty none) in
        let top : (l : Literal) → level_of (a ∷ t) l ≡ level (a ∷ t) = λ l. (let le = level_of-le (a ∷ t) l in let z = e.0 in omega arith) in
        record {
          first_in = w.first_in;
          second_in = w.second_in;
          single = w.single;
          first_answered = λ f. is_falsified (top p.first) e.1;
          second_answered = λ f. is_falsified (top p.second) e.1;
          alone = λ pos same. absurd (omega arith);
          empty = λ _. e;
        }

-- ---- a look at a clause that watches a literal that became false

module _ (t : List Assigned) (c : List Literal) (f : Literal) (current : level_of t f ≡ level t) where
  -- a true literal answers all
  by_true : (u q : Bool) (k : ℕ) (l : Literal) → HasTrue t (level t) c → IsHalfAnswered t c u q k → IsAnswered t c u q k l
  by_true u q k l h (satisfied_before g) = satisfied g
  by_true u q k l h (unit_before e g) = satisfied (subst (λ j. HasTrue t j c) (sym e) h)
  by_true u q k l h (falsified_before e g) = satisfied (subst (λ j. HasTrue t j c) (sym e) h)

  pub looked_true : (p : Pair) (u q : Bool) → HasTrue t (level t) c → IsHalfWatched t c p u q f → IsWatched t c p u q
  looked_true p u q h w = record {
    first_in = w.first_in;
    second_in = w.second_in;
    single = w.single;
    first_answered =
        λ e. ⊎_elim (λ same. satisfied (subst (λ j. HasTrue t j c) (sym (ap (level_of t) same ∙ current)) h))
        (λ ne. by_true u q _ p.second h (w.first_half ne e)) (which f p.first);
    second_answered =
        λ e. ⊎_elim (λ same. satisfied (subst (λ j. HasTrue t j c) (sym (ap (level_of t) same ∙ current)) h))
        (λ ne. by_true u q _ p.first h (w.second_half ne e)) (which f p.second);
    alone = λ pos same. by_true u q 0 p.first h (w.alone_half pos same);
    empty = w.empty;
  }

  -- where this literal is watched first, beside another one
  module _ (other : Literal) (u q : Bool) where
    abbrev here : Pair
    here = record { first = f; second = other }

    -- the other one isn't false, and the clause is known as a unit one
    pub looked_unit : u ≡ true → is_false t other ≡ false → IsHalfWatched t c here u q f → IsWatched t c here u q
    looked_unit known fresh w = record {
      first_in = w.first_in;
      second_in = w.second_in;
      single = w.single;
      first_answered = λ e. is_unit current fresh known;
      second_answered = λ e. absurd (both_ways _ fresh e);
      alone = λ pos same. answer (w.alone_half pos same) same;
      empty = w.empty;
    }
      where
        answer : IsHalfAnswered t c u q 0 → f ≡ other → IsAnswered t c u q 0 f
        answer (satisfied_before h) same = satisfied h
        answer (unit_before e h) same = is_unit e (ap (is_false t) same ∙ fresh) h
        answer (falsified_before e h) same = is_falsified e h

    by_conflict : q ≡ true → (k : ℕ) (l : Literal) → IsHalfAnswered t c u q k → IsAnswered t c u q k l
    by_conflict known k l (satisfied_before h) = satisfied h
    by_conflict known k l (unit_before e h) = is_falsified e known
    by_conflict known k l (falsified_before e h) = is_falsified e h

    -- the clause is known as a falsified one
    pub looked_falsified : q ≡ true → IsHalfWatched t c here u q f → IsWatched t c here u q
    looked_falsified known w = record {
      first_in = w.first_in;
      second_in = w.second_in;
      single = w.single;
      first_answered = λ e. is_falsified current known;
      second_answered =
          λ e. ⊎_elim (λ same. is_falsified (ap (level_of t) same ∙ current) known) (λ ne. by_conflict known _ f (w.second_half ne e)) (which f other);
      alone = λ pos same. by_conflict known 0 f (w.alone_half pos same);
      empty = w.empty;
    }

    -- another literal that isn't false is watched from now on
    pub looked_moved : (fresh : Literal) → has_literal c fresh ≡ true → is_false t fresh ≡ false → (fresh ≡ other → ⊥) → (f ≡ other → ⊥)
        → IsHalfWatched t c here u q f → IsWatched t c (record { first = fresh; second = other }) u q
    looked_moved fresh has free ne apart w = record {
      first_in = λ _. has;
      second_in = w.second_in;
      single = λ same. absurd (ne same);
      first_answered = λ e. absurd (both_ways _ free e);
      second_answered = λ e. answer (w.second_half (λ same. apart (sym same)) e);
      alone = λ pos same. absurd (ne same);
      empty = w.empty;
    }
      where
        answer : {k : ℕ} → IsHalfAnswered t c u q k → IsAnswered t c u q k fresh
        answer (satisfied_before h) = satisfied h
        answer (unit_before e h) = is_unit e free h
        answer (falsified_before e h) = is_falsified e h

-- the two watched literals in the other order
pub half_turned : (t : List Assigned) (c : List Literal) (a b : Literal) (u q : Bool) (f : Literal) → IsHalfWatched t c (record {
  first =
      a;
  second = b;
}) u q f → IsHalfWatched t c (record { first = b; second = a }) u q f
half_turned t c a b u q f w = record {
  watches = ⊎_elim (λ e. inr e) (λ e. inl e) w.watches;
  first_in = w.second_in;
  second_in = w.first_in;
  single = λ same. w.single (sym same);
  first_half = w.second_half;
  second_half = w.first_half;
  alone_half = λ pos same. w.alone_half pos (sym same);
  empty = w.empty;
}

pub watched_turned : (t : List Assigned) (c : List Literal) (a b : Literal) (u q : Bool) → IsWatched t c (record {
  first =
      a;
  second = b;
}) u q → IsWatched t c (record { first = b; second = a }) u q
watched_turned t c a b u q w = record {
  first_in = w.second_in;
  second_in = w.first_in;
  single = λ same. w.single (sym same);
  first_answered = w.second_answered;
  second_answered = w.first_answered;
  alone = λ pos same. subst (IsAnswered t c u q 0) (sym same) (w.alone pos (sym same));
  empty = w.empty;
}

-- ---- a cut to a lower level

module _ (n k : ℕ) (t : List Assigned) (d : IsDistinct n t) where
  abbrev short : List Assigned
  short = cut k t

  cut_same_level : (l : Literal) → is_assigned short (variable_of l) ≡ true → level_of t l ≡ level_of short l
  cut_same_level l h = cut_suffix n k t d l h

  cut_low : (l : Literal) → level_of short l ≤ k
  cut_low l = let le = level_of-le short l in let top = cut_level k t in omega arith

  -- a true literal of a level that is kept stays true
  cut_true_kept : (l : Literal) → is_true t l ≡ true → level_of t l ≤ k → is_true short l ≡ true
  cut_true_kept l h low =
      let f : is_false t (opposite l) ≡ true = ap (is_true t) (opposite-opposite l) ∙ h in
      let le : level_of t (opposite l) ≤ k =
      subst (λ j. j ≤ k)
      (sym (level_of-variable t (opposite l) ∙ ap (λ v. level_of t (Positive v)) (variable_of-opposite l) ∙ sym (level_of-variable t l))) low in
      ap (is_true short) (sym (opposite-opposite l)) ∙ cut_false n k t (opposite l) f le

  has_true_cut : (j : ℕ) (c : List Literal) → j ≤ k → HasTrue t j c → HasTrue short j c
  has_true_cut j c low h =
      let le = h.low in
      let holds = cut_true_kept h.literal h.holds (omega arith) in
      record {
        literal = h.literal;
        has = h.has;
        holds = holds;
        low = subst (λ m. m ≤ j) (cut_same_level h.literal (true_is_assigned short h.literal holds)) h.low;
      }

  cut_false_before : (l : Literal) → is_false short l ≡ true → is_false t l ≡ true
  cut_false_before l e = cut_true k t (opposite l) e

  module _ (c : List Literal) (u q u' q' : Bool) (lower : k < level t) where
    answered_cut : (j : ℕ) (l m : Literal) → j ≤ k → IsAnswered t c u q j l → IsAnswered short c u' q' j m
    answered_cut j l m low (satisfied h) = satisfied (has_true_cut j c low h)
    answered_cut j l m low (is_unit e o h) = absurd (omega arith)
    answered_cut j l m low (is_falsified e h) = absurd (omega arith)

    side_cut : (l m : Literal) → (is_false t l ≡ true → IsAnswered t c u q (level_of t l) m) → is_false short l ≡ true
        → IsAnswered short c u' q' (level_of short l) m
    side_cut l m w e =
        let same = cut_same_level l (false_is_assigned short l e) in
        let low = cut_low l in
        answered_cut (level_of short l) m m low (subst (λ j. IsAnswered t c u q j m) same (w (cut_false_before l e)))

    pub watched_cut : (p : Pair) → IsWatched t c p u q → IsWatched short c p u' q'
    watched_cut p w = record {
      first_in = w.first_in;
      second_in = w.second_in;
      single = w.single;
      first_answered = side_cut p.first p.second w.first_answered;
      second_answered = side_cut p.second p.first w.second_answered;
      alone = λ pos same. answered_cut 0 p.first p.first (omega arith) (w.alone pos same);
      empty = λ none. let e = (w.empty none).0 in absurd (omega arith);
    }
