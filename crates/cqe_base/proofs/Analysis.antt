-- The analysis of a conflict keeps a false clause and ends with the literals of the current level that remain.
use Rattle.std.proofs.Common.{◌≡◌, ℕ, zero, suc, ◌+◌, ◌<◌, ◌≤◌, Bool, true, false, cond, not, ◌&&◌, eqb, List, [], ◌∷◌, ◌++◌, Some, append_assoc, refl, sym, ap}
use Rattle.std.proofs.Common.{◌∙◌, subst, inl, inr, ⊎_elim, ◌⊎◌, arith, length}
use Rattle.std.specs.Prelude.{slice_index_or, nat_lt, if◌then◌else◌}
use Rattle.std.specs.List.{filter, count_by, AllByRecursion}
use Rattle.std.proofs.lemmas.List.Sums.{sum_by-cons}
use Rattle.std.proofs.lemmas.Bool.{false_from_ne_true, or_cases, or_left, or_right, or_from, or_parts, both_ways, eqb-true, eq-eqb, cond_both, not-true}
use Rattle.std.proofs.lemmas.Bool.{ltb-true, ltb-false}
use Rattle.cqe_base.specs.Literal.{Literal, Positive, Negative, variable_of, opposite, same_literal, has_literal, union, ClauseBelow, ClausesBelow, HasNoRepeat}
use Rattle.cqe_base.specs.Literal.{HaveNoRepeat}
use Rattle.cqe_base.specs.Refutation.{RefutationLine, without_variable, resolvent}
use Rattle.cqe_base.specs.Machine.{Assigned, Decided, Because, assigned_literal, is_true, is_false, level, level_of, is_current, current_count, latest_against}
use Rattle.cqe_base.specs.Machine.{resolved_with, analysis, resolved_line}
use Rattle.cqe_base.specs.MachineStates.{is_assigned, IsDistinct, AllFalse, IsCause, IsFalseClause, Reasons, Walked}
use Rattle.cqe_base.proofs.ClauseTruth.{same_literal-true, same_literal-same, opposite-opposite, variable_of-opposite}
use Rattle.cqe_base.proofs.NoRepeats.{HasNoRepeat-union}
use Rattle.cqe_base.proofs.Trails.{Suffix, Suffix-tail, not_both, false_is_assigned, false_on_rest, level_of-le, other_variable}
use Rattle.cqe_base.proofs.Lists.{all_push}

module _ (P : Literal → Type 0) where
  -- what holds of each literal holds of each that is kept
  pub each_filter : (p : Literal → Bool) (c : List Literal) → AllByRecursion P c → AllByRecursion P (filter p c)
  each_filter p [] h = h
  each_filter p (l ∷ c) h = cond_both (p l) (l ∷ filter p c) (filter p c) (AllByRecursion P) (λ _. (h.0, each_filter p c h.1)) (λ _. each_filter p c h.1)

  -- and of each of a union
  pub each_union : (d c : List Literal) → AllByRecursion P c → AllByRecursion P d → AllByRecursion P (union c d)
  each_union [] c h i = h
  each_union (l ∷ d) c h i = each_union d _ (cond_both (has_literal c l) c (c ++ l ∷ []) (AllByRecursion P) (λ _. h) (λ _. all_push P c l h i.0)) i.1

-- each literal that is kept passes
pub each_passes : (p : Literal → Bool) (c : List Literal) → AllByRecursion (λ l. p l ≡ true) (filter p c)
each_passes p [] = tt
each_passes p (l ∷ c) = cond_both (p l) (l ∷ filter p c) (filter p c) (AllByRecursion (λ l. p l ≡ true)) (λ e. (e, each_passes p c)) (λ _. each_passes p c)

pub each_both : (P Q R : Literal → Type 0) → ((l : Literal) → P l → Q l → R l) → (c : List Literal) → AllByRecursion P c → AllByRecursion Q c
    → AllByRecursion R c
each_both P Q R f [] h i = tt
each_both P Q R f (l ∷ c) h i = (f l h.0 i.0, each_both P Q R f c h.1 i.1)

pub each_weaker : (P R : Literal → Type 0) → ((l : Literal) → P l → R l) → (c : List Literal) → AllByRecursion P c → AllByRecursion R c
each_weaker P R f [] h = tt
each_weaker P R f (l ∷ c) h = (f l h.0, each_weaker P R f c h.1)

-- a literal that a clause hasn't is none of its literals
pub each_differs : (x : Literal) (c : List Literal) → has_literal c x ≡ false → AllByRecursion (λ l. l ≡ x → ⊥) c
each_differs x [] h = tt
each_differs x (l ∷ c) h =
    let parts : (same_literal x l ≡ false) × (has_literal c x ≡ false) = or_parts _ _ h in
    (λ e. both_ways _ parts.0 (subst (λ y. same_literal x y ≡ true) (sym e) (same_literal-same x)), each_differs x c parts.1)

pub filter_has : (p : Literal → Bool) (c : List Literal) (l : Literal) → has_literal c l ≡ false → has_literal (filter p c) l ≡ false
filter_has p [] l h = h
filter_has p (m ∷ c) l h =
    let parts : (same_literal l m ≡ false) × (has_literal c l ≡ false) = or_parts _ _ h in
    cond_both (p m) (m ∷ filter p c) (filter p c) (λ d. has_literal d l ≡ false) (λ _. or_from _ _ parts.0 (filter_has p c l parts.1))
    (λ _. filter_has p c l parts.1)

pub HasNoRepeat-filter : (p : Literal → Bool) (c : List Literal) → HasNoRepeat c → HasNoRepeat (filter p c)
HasNoRepeat-filter p [] h = h
HasNoRepeat-filter p (m ∷ c) h =
    cond_both (p m) (m ∷ filter p c) (filter p c) HasNoRepeat (λ _. (filter_has p c m h.0, HasNoRepeat-filter p c h.1)) (λ _. HasNoRepeat-filter p c h.1)

pub count-cons : (p : Literal → Bool) (l : Literal) (c : List Literal) → count_by p (l ∷ c) ≡ cond (p l) 1 0 + count_by p c
count-cons p l c = sum_by-cons (λ x. cond (p x) 1 0) l c

pub one_or_none : (b : Bool) → cond b 1 0 ≤ 1
one_or_none true = omega arith
one_or_none false = omega arith

count_push : (p : Literal → Bool) (c : List Literal) (l : Literal) → count_by p c ≤ count_by p (c ++ l ∷ [])
count_push p [] l = omega arith
count_push p (m ∷ c) l =
    let h = count_push p c l in
    let e = count-cons p m c in
    let f = count-cons p m (c ++ l ∷ []) in
    omega arith

-- a union has at least as many literals of a kind
pub count_by-union : (p : Literal → Bool) (d c : List Literal) → count_by p c ≤ count_by p (union c d)
count_by-union p [] c = omega arith
count_by-union p (l ∷ d) c =
    let k = cond_both (has_literal c l) c (c ++ l ∷ []) (λ e. count_by p c ≤ count_by p e) (λ _. omega arith) (λ _. count_push p c l) in
    let h = count_by-union p d (cond (has_literal c l) c (c ++ l ∷ [])) in
    omega arith

count_none : (p : Literal → Bool) (c : List Literal) → AllByRecursion (λ l. p l ≡ false) c → count_by p c ≡ 0
count_none p [] h = refl
count_none p (l ∷ c) h = count-cons p l c ∙ ap (λ b. cond b 1 0 + count_by p c) h.0 ∙ (let e = count_none p c h.1 in omega arith)

count_one_step : (p : Literal → Bool) (x l : Literal) (c : List Literal) (b : Bool) → p l ≡ b → has_literal c l ≡ false → (p l ≡ true → l ≡ x)
    → AllByRecursion (λ l. p l ≡ true → l ≡ x) c → count_by p c ≤ 1 → cond b 1 0 + count_by p c ≤ 1
count_one_step p x l c true e r here h rest =
    let same : l ≡ x = here e in
    let none = each_both (λ m. m ≡ l → ⊥) (λ m. p m ≡ true → m ≡ x) (λ m. p m ≡ false) (λ m apart is. false_from_ne_true _ (λ t. apart (is t ∙ sym same))) c
    (each_differs l c r) h in
    let zero_left = count_none p c none in
    omega arith
count_one_step p x l c false e r here h rest = omega arith

-- a clause has at most one literal of a kind where all of that kind are the same
pub count_by-one : (p : Literal → Bool) (x : Literal) (c : List Literal) → HasNoRepeat c → AllByRecursion (λ l. p l ≡ true → l ≡ x) c → count_by p c ≤ 1
count_by-one p x [] r h = omega arith
count_by-one p x (l ∷ c) r h =
    let step = count_one_step p x l c (p l) refl r.0 h.0 h.1 (count_by-one p x c r.1 h.1) in
    let e = count-cons p l c in
    omega arith

without_same : (v : ℕ) (c : List Literal) → AllByRecursion (λ m. eqb (variable_of m) v ≡ false) c → without_variable v c ≡ c
without_same v [] h = refl
without_same v (l ∷ c) h =
    ap (λ b. cond (not b) (l ∷ without_variable v c) (without_variable v c)) h.0 ∙ ap (λ d. l ∷ d) (without_same v c h.1)

count_without_step : (p : Literal → Bool) (v : ℕ) (x l : Literal) (c : List Literal) (b : Bool) → eqb (variable_of l) v ≡ b → has_literal c l ≡ false
    → (eqb (variable_of l) v ≡ true → l ≡ x) → AllByRecursion (λ m. eqb (variable_of m) v ≡ true → m ≡ x) c
    → count_by p c ≤ count_by p (without_variable v c) + 1
    → count_by p (l ∷ c) ≤ count_by p (cond (not b) (l ∷ without_variable v c) (without_variable v c)) + 1
count_without_step p v x l c true e r here h rest =
    let same : l ≡ x = here e in
    let none = each_both (λ m. m ≡ l → ⊥) (λ m. eqb (variable_of m) v ≡ true → m ≡ x) (λ m. eqb (variable_of m) v ≡ false)
    (λ m apart is. false_from_ne_true _ (λ t. apart (is t ∙ sym same))) c (each_differs l c r) h in
    let kept = ap (count_by p) (without_same v c none) in
    let f = count-cons p l c in
    let g = one_or_none (p l) in
    omega arith
count_without_step p v x l c false e r here h rest =
    let f = count-cons p l c in
    let g = count-cons p l (without_variable v c) in
    omega arith

-- without a variable a clause loses at most one literal, where all of that variable are the same
pub count_by-without : (p : Literal → Bool) (v : ℕ) (x : Literal) (c : List Literal) → HasNoRepeat c
    → AllByRecursion (λ m. eqb (variable_of m) v ≡ true → m ≡ x) c → count_by p c ≤ count_by p (without_variable v c) + 1
count_by-without p v x [] r h = omega arith
count_by-without p v x (l ∷ c) r h =
    count_without_step p v x l c (eqb (variable_of l) v) refl r.0 h.0 h.1 (count_by-without p v x c r.1 h.1)

-- two literals of one variable are the same or opposite
pub same_or_opposite : (m l : Literal) → eqb (variable_of m) (variable_of l) ≡ true → (m ≡ l) ⊎ (m ≡ opposite l)
same_or_opposite (Positive w) (Positive v) h = inl (ap Positive (eqb-true w v h))
same_or_opposite (Positive w) (Negative v) h = inr (ap Positive (eqb-true w v h))
same_or_opposite (Negative w) (Positive v) h = inr (ap Negative (eqb-true w v h))
same_or_opposite (Negative w) (Negative v) h = inl (ap Negative (eqb-true w v h))

-- what is on the rest of a trail is on the trail
abbrev pub Within : List Assigned → List Assigned → Type 0
Within whole rest = (l : Literal) → is_true rest l ≡ true → is_true whole l ≡ true

-- what holds of the literals of one variable in a false clause
opposite_only : (n : ℕ) (whole : List Assigned) (l : Literal) (c : List Literal) → IsDistinct n whole → is_true whole l ≡ true → AllFalse whole c
    → AllByRecursion (λ m. eqb (variable_of m) (variable_of l) ≡ true → m ≡ opposite l) c
opposite_only n whole l c d t f =
    each_weaker (λ m. is_false whole m ≡ true) (λ m. eqb (variable_of m) (variable_of l) ≡ true → m ≡ opposite l)
    (λ m fm e. ⊎_elim (λ same. absurd (not_both n whole l d t (subst (λ x. is_false whole x ≡ true) same fm))) (λ o. o) (same_or_opposite m l e)) c f

false_before : (t : List Assigned) (l m : Literal) → (m ≡ l) ⊎ (is_false t m ≡ true) → not (eqb (variable_of m) (variable_of l)) ≡ true → is_false t m ≡ true
false_before t l m h ne = ⊎_elim (λ e. absurd (both_ways _ (not-true _ ne) (eq-eqb _ _ (ap variable_of e)))) (λ f. f) h

-- the literals that a cause adds were false before its entry
pub cause_rest_false : (t : List Assigned) (l : Literal) (c : List Literal) → IsCause t l c → AllFalse t (without_variable (variable_of l) c)
cause_rest_false t l c cause =
    each_both (λ m. (m ≡ l) ⊎ (is_false t m ≡ true)) (λ m. not (eqb (variable_of m) (variable_of l)) ≡ true) (λ m. is_false t m ≡ true)
    (λ m. false_before t l m)
    (without_variable (variable_of l) c)
    (each_filter (λ m. (m ≡ l) ⊎ (is_false t m ≡ true)) (λ m. not (eqb (variable_of m) (variable_of l))) c cause.others)
    (each_passes (λ m. not (eqb (variable_of m) (variable_of l))) c)

-- the resolvent of a false clause and a cause is false
pub IsFalseClause-resolvent : (n : ℕ) (whole t : List Assigned) (l : Literal) (c d : List Literal) → Within whole t → IsFalseClause n whole c → IsCause t l d
    → HasNoRepeat d → ClauseBelow n d → IsFalseClause n whole (resolvent (variable_of l) c d)
IsFalseClause-resolvent n whole t l c d within f cause r below =
    let v = variable_of l in
    record {
      no_repeat = HasNoRepeat-union (without_variable v d) (without_variable v c) (HasNoRepeat-filter _ c f.no_repeat);
      below = each_union (λ m. variable_of m < n) (without_variable v d) (without_variable v c) (each_filter (λ m. variable_of m < n) _ c f.below)
          (each_filter (λ m. variable_of m < n) _ d below);
      falsified = each_union (λ m. is_false whole m ≡ true) (without_variable v d) (without_variable v c)
          (each_filter (λ m. is_false whole m ≡ true) _ c f.falsified)
          (each_weaker (λ m. is_false t m ≡ true) (λ m. is_false whole m ≡ true) (λ m h. within (opposite m) h) _ (cause_rest_false t l d cause));
    }

pub each_at : (P : List Literal → Type 0) (cs : List (List Literal)) (i : ℕ) → AllByRecursion P cs → P [] → P (slice_index_or cs i [])
each_at P [] i h e = e
each_at P (c ∷ cs) zero h e = h.0
each_at P (c ∷ cs) (suc i) h e = each_at P cs i h.1 e

-- one walk back along the trail, latest first: while more than `keep` literals of the clause are of the current level, the one whose opposite is met is
-- resolved away with that opposite's cause
abbrev pub walk_back : List (List Literal) → List Assigned → ℕ → List Assigned → RefutationLine → RefutationLine
walk_back clauses trail keep [] line = line
walk_back clauses trail keep (Decided l ∷ rest) line = walk_back clauses trail keep rest line
walk_back clauses trail keep (Because i l ∷ rest) line =
    walk_back clauses trail keep rest
    (if nat_lt keep (current_count trail line.clause) && has_literal line.clause (opposite l)
    then resolved_line clauses i l line else line)

-- what holds on the way back, before the rest of the trail is walked
pub record Walk (n : ℕ) (whole : List Assigned) (keep : ℕ) (rest : List Assigned) (c : List Literal) : Type 0 where
  pub clause : IsFalseClause n whole c
  pub enough : keep ≤ current_count whole c
  pub ahead : (current_count whole c ≤ keep) ⊎ (AllFalse rest c × (level whole ≡ level rest))

keep_false : (i : ℕ) (l : Literal) (rest : List Assigned) (c : List Literal) → AllFalse (Because i l ∷ rest) c
    → AllFalse rest (without_variable (variable_of l) c)
keep_false i l rest c f =
    each_both (λ m. is_false (Because i l ∷ rest) m ≡ true) (λ m. not (eqb (variable_of m) (variable_of l)) ≡ true) (λ m. is_false rest m ≡ true)
    (λ m fm apart. false_on_rest (Because i l) rest m fm (λ e. both_ways _ (not-true _ apart) (eq-eqb _ _ (ap variable_of e ∙ variable_of-opposite l))))
    (without_variable (variable_of l) c)
    (each_filter (λ m. is_false (Because i l ∷ rest) m ≡ true) (λ m. not (eqb (variable_of m) (variable_of l))) c f)
    (each_passes (λ m. not (eqb (variable_of m) (variable_of l))) c)

pub walk_because : (n keep : ℕ) (cs : List (List Literal)) (whole : List Assigned) (i : ℕ) (l : Literal) (rest : List Assigned) (line : RefutationLine)
    (b b' : Bool) →
    nat_lt keep (current_count whole line.clause) ≡ b → has_literal line.clause (opposite l) ≡ b' →
    IsDistinct n whole → HaveNoRepeat cs → ClausesBelow n cs → Within whole (Because i l ∷ rest) → IsCause rest l (slice_index_or cs i []) →
    Walk n whole keep (Because i l ∷ rest) line.clause → Walk n whole keep rest (cond (b && b') (resolved_line cs i l line) line).clause
walk_because n keep cs whole i l rest line false b' e e' dw rs bs within cause w =
    record { clause = w.clause; enough = w.enough; ahead = inl (ltb-false _ _ e) }
walk_because n keep cs whole i l rest line true false e e' dw rs bs within cause w =
    let more = ltb-true _ _ e in
    record {
      clause = w.clause;
      enough = w.enough;
      ahead = ⊎_elim (λ le. absurd (omega arith))
          (λ f. inr (
            each_both (λ m. m ≡ opposite l → ⊥) (λ m. is_false (Because i l ∷ rest) m ≡ true) (λ m. is_false rest m ≡ true)
                (λ m apart fm. false_on_rest (Because i l) rest m fm apart) line.clause (each_differs (opposite l) line.clause e') f.0,
            f.1,
          ))
          w.ahead;
    }
walk_because n keep cs whole i l rest line true true e e' dw rs bs within cause w =
    let more = ltb-true _ _ e in
    let v = variable_of l in
    let d = slice_index_or cs i [] in
    let within_rest : Within whole rest = λ m h. within m (or_right _ _ h) in
    let here : is_true whole l ≡ true = within l (or_left _ _ (same_literal-same l)) in
    let lost =
    count_by-without (is_current whole) v (opposite l) line.clause w.clause.no_repeat (opposite_only n whole l line.clause dw here w.clause.falsified) in
    let kept = count_by-union (is_current whole) (without_variable v d) (without_variable v line.clause) in
    record {
      clause = IsFalseClause-resolvent n whole rest l line.clause d within_rest w.clause cause (each_at HasNoRepeat cs i rs tt)
          (each_at (ClauseBelow n) cs i bs tt);
      enough = omega arith;
      ahead = ⊎_elim (λ le. absurd (omega arith))
          (λ f. inr (
            each_union (λ m. is_false rest m ≡ true) (without_variable v d) (without_variable v line.clause) (keep_false i l rest line.clause f.0)
                (cause_rest_false rest l d cause),
            f.1,
          ))
          w.ahead;
    }

past_decision : (n : ℕ) (d : Literal) (rest : List Assigned) (m : Literal) → IsDistinct n (Decided d ∷ rest) → is_false rest m ≡ true
    → level_of (Decided d ∷ rest) m ≡ suc (level rest) → ⊥
past_decision n d rest m dd fm h =
    let apart : eqb (variable_of m) (variable_of d) ≡ false = other_variable (Decided d) rest (variable_of m) dd.1 (false_is_assigned rest m fm) in
    let same : level_of (Decided d ∷ rest) m ≡ level_of rest m = ap (λ b. cond b (suc (level rest)) (level_of rest m)) apart in
    let le = level_of-le rest m in
    omega arith

-- only the decision itself is of the level that it began
only_decision : (n : ℕ) (whole : List Assigned) (d : Literal) (rest : List Assigned) (c : List Literal) → IsDistinct n (Decided d ∷ rest)
    → Suffix whole (Decided d ∷ rest) → level whole ≡ level (Decided d ∷ rest) → AllFalse (Decided d ∷ rest) c
    → AllByRecursion (λ m. is_current whole m ≡ true → m ≡ opposite d) c
only_decision n whole d rest c dd s lev f =
    each_weaker (λ m. is_false (Decided d ∷ rest) m ≡ true) (λ m. is_current whole m ≡ true → m ≡ opposite d)
    (λ m fm cur.
    let at : level_of whole m ≡ level whole = eqb-true _ _ cur in
    let there : level_of whole m ≡ level_of (Decided d ∷ rest) m = s m (false_is_assigned (Decided d ∷ rest) m fm) in
    let top : level_of (Decided d ∷ rest) m ≡ suc (level rest) = sym there ∙ at ∙ lev in
    ⊎_elim (λ e. sym (opposite-opposite m)
    ∙ ap opposite (same_literal-true (opposite m) d e)) (λ e. absurd (past_decision n d rest m dd e top)) (or_cases _ _ fm))
    c f

-- either one literal of the current level is kept, or nothing was decided
abbrev pub Keeps : List Assigned → ℕ → Type 0
Keeps whole keep = (keep ≡ 1) ⊎ ((keep ≡ 0) × (level whole ≡ 0))

pub walk_decided : (n keep : ℕ) (whole : List Assigned) (d : Literal) (rest : List Assigned) (c : List Literal) → Keeps whole keep
    → IsDistinct n (Decided d ∷ rest) → Suffix whole (Decided d ∷ rest) → Walk n whole keep (Decided d ∷ rest) c → Walk n whole keep rest c
walk_decided n keep whole d rest c keeps dd s w =
    record {
      clause = w.clause;
      enough = w.enough;
      ahead = inl (⊎_elim (λ le. le)
          (λ f.
          ⊎_elim
          (λ one. let most = count_by-one (is_current whole) (opposite d) c w.clause.no_repeat (only_decision n whole d rest c dd s f.1 f.0) in omega arith)
          (λ none. let a : level whole ≡ suc (level rest) = f.1 in let b : level whole ≡ 0 = none.1 in absurd (omega arith))
          keeps)
          w.ahead);
    }

none_false : (whole : List Assigned) (keep : ℕ) (c : List Literal) → AllFalse [] c → current_count whole c ≤ keep
none_false whole keep [] f = omega arith
none_false whole keep (l ∷ c) f = absurd (both_ways false refl f.0)

-- the walk ends with a false clause of which just the literals of the current level remain that are kept
pub walk_back_walked : (n keep : ℕ) (cs : List (List Literal)) (whole : List Assigned) → Keeps whole keep → IsDistinct n whole → HaveNoRepeat cs
    → ClausesBelow n cs → (rest : List Assigned) (line : RefutationLine) → IsDistinct n rest → Reasons cs rest → Within whole rest → Suffix whole rest
    → Walk n whole keep rest line.clause → Walked n whole keep (walk_back cs whole keep rest line).clause
walk_back_walked n keep cs whole keeps dw rs bs [] line d r within s w =
    let enough = w.enough in
    let most : current_count whole line.clause ≤ keep = ⊎_elim (λ le. le) (λ f. none_false whole keep line.clause f.0) w.ahead in
    record { clause = w.clause; count = omega arith }
walk_back_walked n keep cs whole keeps dw rs bs (Decided l ∷ rest) line d r within s w =
    walk_back_walked n keep cs whole keeps dw rs bs rest line d.2 r.1 (λ m h. within m (or_right _ _ h)) (Suffix-tail n whole (Decided l) rest d s)
    (walk_decided n keep whole l rest line.clause keeps d s w)
walk_back_walked n keep cs whole keeps dw rs bs (Because i l ∷ rest) line d r within s w =
    walk_back_walked n keep cs whole keeps dw rs bs rest _ d.2 r.2 (λ m h. within m (or_right _ _ h)) (Suffix-tail n whole (Because i l) rest d s)
    (walk_because n keep cs whole i l rest line (nat_lt keep (current_count whole line.clause))
    (has_literal line.clause (opposite l)) refl refl dw rs bs within r.1 w)

-- ---- the walk back is the analysis

-- what isn't on a trail isn't on its rest
later_unassigned : (prefix rest : List Assigned) (v : ℕ) → is_assigned (prefix ++ rest) v ≡ false → is_assigned rest v ≡ false
later_unassigned [] rest v h = h
later_unassigned (a ∷ prefix) rest v h = later_unassigned prefix rest v (or_parts _ _ h).1

head_apart : (n : ℕ) (a : Assigned) (prefix rest : List Assigned) (c : List Literal) → IsDistinct n (a ∷ (prefix ++ rest)) → AllFalse rest c
    → has_literal c (opposite (assigned_literal a)) ≡ false
head_apart n a prefix rest c d f =
    false_from_ne_true _ (λ has. both_ways _ (later_unassigned prefix rest (variable_of (assigned_literal a)) d.1)
    (rw variable_of-opposite at (false_is_assigned rest (opposite (assigned_literal a)) (false_member c (opposite (assigned_literal a)) has f))))
  where
    false_member : (c : List Literal) (l : Literal) → has_literal c l ≡ true → AllFalse rest c → is_false rest l ≡ true
    false_member [] l h f = absurd (both_ways false refl h)
    false_member (m ∷ c) l h f =
        ⊎_elim (λ e. subst (λ x. is_false rest x ≡ true) (sym (same_literal-true l m e)) f.0) (λ e. false_member c l e f.1) (or_cases _ _ h)

-- nothing that is later than the literals of a clause is against it
pub skip_prefix : (n : ℕ) (prefix rest : List Assigned) (c : List Literal) → IsDistinct n (prefix ++ rest) → AllFalse rest c
    → latest_against (prefix ++ rest) c ≡ latest_against rest c
skip_prefix n [] rest c d f = refl
skip_prefix n (a ∷ prefix) rest c d f =
    ap (λ b. cond b (Some a) (latest_against (prefix ++ rest) c)) (head_apart n a prefix rest c d f) ∙ skip_prefix n prefix rest c d.2 f

-- no more resolutions where few enough literals of the current level are left
analysis_stops : (cs : List (List Literal)) (whole : List Assigned) (keep times : ℕ) (line : RefutationLine)
    → nat_lt keep (current_count whole line.clause) ≡ false → analysis cs whole keep times line ≡ line
analysis_stops cs whole keep zero line e = refl
analysis_stops cs whole keep (suc times) line e =
    ap (λ b. cond b (analysis cs whole keep times (resolved_with cs (latest_against whole line.clause) line)) line) e

not_more : (keep count : ℕ) → count ≤ keep → nat_lt keep count ≡ false
not_more keep count le = false_from_ne_true _ (λ e. let more = ltb-true keep count e in omega arith)

module _ (n keep : ℕ) (cs : List (List Literal)) (whole : List Assigned) (keeps : Keeps whole keep) (dw : IsDistinct n whole) (rs : HaveNoRepeat cs)
    (bs : ClausesBelow n cs) where
  -- the resolution at an entry of the trail
  resolution_same : (i : ℕ) (l : Literal) (prefix rest : List Assigned) (line : RefutationLine) (times : ℕ) (b b' : Bool)
      → nat_lt keep (current_count whole line.clause) ≡ b → has_literal line.clause (opposite l) ≡ b'
      → whole ≡ prefix ++ Because i l ∷ rest → suc (length rest) ≤ times → Walk n whole keep (Because i l ∷ rest) line.clause
      → ((line' : RefutationLine) (times' : ℕ) → cond (b && b') (resolved_line cs i l line) line ≡ line' → length rest ≤ times'
      → analysis cs whole keep times' line' ≡ walk_back cs whole keep rest line')
      → analysis cs whole keep times line ≡ walk_back cs whole keep rest (cond (b && b') (resolved_line cs i l line) line)
  resolution_same i l prefix rest line times false b' e e' is le w go = go line times refl (omega arith)
  resolution_same i l prefix rest line times true false e e' is le w go = go line times refl (omega arith)
  resolution_same i l prefix rest line zero true true e e' is le w go = absurd (omega arith)
  resolution_same i l prefix rest line (suc times) true true e e' is le w go =
      let more = ltb-true _ _ e in
      let ahead : AllFalse (Because i l ∷ rest) line.clause = ⊎_elim (λ few. absurd (omega arith)) (λ f. f.0) w.ahead in
      let latest : latest_against whole line.clause ≡ Some (Because i l) =
      ap (λ t. latest_against t line.clause) is
      ∙ skip_prefix n prefix (Because i l ∷ rest) line.clause (subst (IsDistinct n) is dw) ahead
      ∙ ap (λ b. cond b (Some (Because i l)) (latest_against rest line.clause)) e' in
      ap (λ b. cond b (analysis cs whole keep times (resolved_with cs (latest_against whole line.clause) line)) line) e
      ∙ ap (λ o. analysis cs whole keep times (resolved_with cs o line)) latest
      ∙ go (resolved_line cs i l line) times refl (omega arith)

  pub analysis_is_walk : (prefix rest : List Assigned) (line : RefutationLine) (times : ℕ) → whole ≡ prefix ++ rest → length rest ≤ times → IsDistinct n rest
      → Reasons cs rest → Within whole rest → Suffix whole rest → Walk n whole keep rest line.clause
      → analysis cs whole keep times line ≡ walk_back cs whole keep rest line
  analysis_is_walk prefix [] line times is le d r within s w =
      analysis_stops cs whole keep times line (not_more keep _ (⊎_elim (λ few. few) (λ f. none_false whole keep line.clause f.0) w.ahead))
  analysis_is_walk prefix (Decided l ∷ rest) line times is le d r within s w =
      analysis_is_walk (prefix ++ Decided l ∷ []) rest line times (is ∙ sym (append_assoc prefix (Decided l ∷ []) rest)) (omega arith) d.2 r.1
      (λ m h. within m (or_right _ _ h)) (Suffix-tail n whole (Decided l) rest d s) (walk_decided n keep whole l rest line.clause keeps d s w)
  analysis_is_walk prefix (Because i l ∷ rest) line times is le d r within s w =
      let b = nat_lt keep (current_count whole line.clause) in
      let b' = has_literal line.clause (opposite l) in
      resolution_same i l prefix rest line times b b' refl refl is (omega arith) w
      (λ line' times' same le'.
      analysis_is_walk (prefix ++ Because i l ∷ []) rest line' times' (is ∙ sym (append_assoc prefix (Because i l ∷ []) rest)) le' d.2 r.2
      (λ m h. within m (or_right _ _ h)) (Suffix-tail n whole (Because i l) rest d s)
      (subst (λ x. Walk n whole keep rest x.clause) same (walk_because n keep cs whole i l rest line b b' refl refl dw rs bs within r.1 w)))
