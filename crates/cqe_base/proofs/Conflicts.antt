-- A conflict leads from a reached state to a reached state.
use Rattle.std.proofs.Common.{◌≡◌, ℕ, zero, suc, ◌+◌, ◌<◌, ◌≤◌, Bool, true, false, cond, not, eqb, List, [], ◌∷◌, ◌++◌, Some, refl, sym, ap, ◌∙◌, subst, inl}
use Rattle.std.proofs.Common.{inr, ⊎_elim, ◌⊎◌, arith, length, length-append}
use Rattle.std.specs.Prelude.{slice_index_or, nat_le}
use Rattle.std.specs.List.{list_all, filter, find, count_by, position_from, AllByRecursion}
use Rattle.std.proofs.lemmas.Bool.{false_from_ne_true, or_cases, or_left, or_right, or_parts, both_ways, eqb-true, eqb-false, eq-eqb, cond_both, not-true}
use Rattle.std.proofs.lemmas.Bool.{leb-true, leb-false, cases_lt}
use Rattle.cqe_base.specs.Literal.{Literal, variable_of, same_literal, has_literal, ClauseBelow, HasNoRepeat}
use Rattle.cqe_base.specs.Refutation.{RefutationLine}
use Rattle.cqe_base.specs.Machine.{Assigned, Decided, Because, assigned_literal, State, is_true, is_false, level, level_of, is_current, current_count}
use Rattle.cqe_base.specs.Machine.{kept_count, conflict_line, highest_level, cut, with_asserted, state_after_conflict}
use Rattle.cqe_base.specs.MachineStates.{is_assigned, IsDistinct, IsCause, Reasons, NotForced, Walked, AllFalse, IsReached}
use Rattle.cqe_base.proofs.ClauseTruth.{same_literal-true, same_literal-same, variable_of-opposite}
use Rattle.cqe_base.proofs.Trails.{Suffix, Suffix-tail, base, false_is_assigned, false_on_rest, level_of-le, other_variable}
use Rattle.cqe_base.proofs.Analysis.{count-cons, Walk, Keeps, walk_back, walk_back_walked, analysis_is_walk, each_weaker, each_both, each_passes}
use Rattle.cqe_base.proofs.Reached.{base_open, two_current, all_false, position_passes}
use Rattle.cqe_base.proofs.MachineRules.{each_has, filter_member, each_kept}

cut_true_step : (k : ℕ) (a : Assigned) (t : List Assigned) (l : Literal) (b : Bool) → (is_true (cut k t) l ≡ true → is_true t l ≡ true)
    → is_true (cond b (a ∷ t) (cut k t)) l ≡ true → is_true (a ∷ t) l ≡ true
cut_true_step k a t l true go h = h
cut_true_step k a t l false go h = or_right _ _ (go h)

-- what is on the cut trail was on the trail
pub cut_true : (k : ℕ) (t : List Assigned) (l : Literal) → is_true (cut k t) l ≡ true → is_true t l ≡ true
cut_true k [] l h = h
cut_true k (a ∷ t) l h = cut_true_step k a t l (nat_le (level (a ∷ t)) k) (λ e. cut_true k t l e) h

cut_assigned_step : (k : ℕ) (a : Assigned) (t : List Assigned) (v : ℕ) (b : Bool) → (is_assigned (cut k t) v ≡ true → is_assigned t v ≡ true)
    → is_assigned (cond b (a ∷ t) (cut k t)) v ≡ true → is_assigned (a ∷ t) v ≡ true
cut_assigned_step k a t v true go h = h
cut_assigned_step k a t v false go h = or_right _ _ (go h)

pub cut_assigned : (k : ℕ) (t : List Assigned) (v : ℕ) → is_assigned (cut k t) v ≡ true → is_assigned t v ≡ true
cut_assigned k [] v h = h
cut_assigned k (a ∷ t) v h = cut_assigned_step k a t v (nat_le (level (a ∷ t)) k) (λ e. cut_assigned k t v e) h

pub cut_distinct : (n k : ℕ) (t : List Assigned) → IsDistinct n t → IsDistinct n (cut k t)
cut_distinct n k [] d = d
cut_distinct n k (a ∷ t) d = cond_both (nat_le (level (a ∷ t)) k) (a ∷ t) (cut k t) (IsDistinct n) (λ _. d) (λ _. cut_distinct n k t d.2)

pub cut_level : (k : ℕ) (t : List Assigned) → level (cut k t) ≤ k
cut_level k [] = omega arith
cut_level k (a ∷ t) = cond_both (nat_le (level (a ∷ t)) k) (a ∷ t) (cut k t) (λ u. level u ≤ k) (λ e. leb-true _ _ e) (λ _. cut_level k t)

reasons_tail : (cs : List (List Literal)) (a : Assigned) (t : List Assigned) → Reasons cs (a ∷ t) → Reasons cs t
reasons_tail cs (Decided l) t r = r.1
reasons_tail cs (Because i l) t r = r.2

pub cut_reasons : (cs : List (List Literal)) (k : ℕ) (t : List Assigned) → Reasons cs t → Reasons cs (cut k t)
cut_reasons cs k [] r = r
cut_reasons cs k (a ∷ t) r = cond_both (nat_le (level (a ∷ t)) k) (a ∷ t) (cut k t) (Reasons cs) (λ _. r) (λ _. cut_reasons cs k t (reasons_tail cs a t r))

-- levels on the cut trail are as before
pub cut_suffix : (n k : ℕ) (t : List Assigned) → IsDistinct n t → Suffix t (cut k t)
cut_suffix n k [] d = λ l h. refl
cut_suffix n k (a ∷ t) d =
    cond_both (nat_le (level (a ∷ t)) k) (a ∷ t) (cut k t) (Suffix (a ∷ t)) (λ _ l h. refl)
    (λ _ l h.
    let there = cut_assigned k t (variable_of l) h in
    ap (λ b. cond b (level (a ∷ t)) (level_of t l)) (other_variable a t (variable_of l) d.1 there) ∙ cut_suffix n k t d.2 l h)

cut_false_step : (n k : ℕ) (a : Assigned) (t : List Assigned) (l : Literal) (b : Bool) → eqb (variable_of l) (variable_of (assigned_literal a)) ≡ b
    → k < level (a ∷ t) → is_false (a ∷ t) l ≡ true → cond b (level (a ∷ t)) (level_of t l) ≤ k
    → (is_false t l ≡ true → level_of t l ≤ k → is_false (cut k t) l ≡ true) → is_false (cut k t) l ≡ true
cut_false_step n k a t l true e lt f le go = absurd (omega arith)
cut_false_step n k a t l false e lt f le go =
    go (false_on_rest a t l f (λ same. both_ways _ e (eq-eqb _ _ (ap variable_of same ∙ variable_of-opposite (assigned_literal a))))) le

-- a false literal of a level that is kept stays false
pub cut_false : (n k : ℕ) (t : List Assigned) (l : Literal) → is_false t l ≡ true → level_of t l ≤ k → is_false (cut k t) l ≡ true
cut_false n k [] l f le = f
cut_false n k (a ∷ t) l f le =
    cond_both (nat_le (level (a ∷ t)) k) (a ∷ t) (cut k t) (λ u. is_false u l ≡ true) (λ _. f)
    (λ e. cut_false_step n k a t l (eqb (variable_of l) (variable_of (assigned_literal a))) refl (leb-false _ _ e) f le (λ g m. cut_false n k t l g m))

-- each level is at most the highest
pub highest-le : (t : List Assigned) (xs : List Literal) → AllByRecursion (λ m. level_of t m ≤ highest_level t xs) xs
highest-le t [] = tt
highest-le t (l ∷ xs) =
    (omega arith, each_weaker (λ m. level_of t m ≤ highest_level t xs) (λ m. level_of t m ≤ highest_level t (l ∷ xs)) (λ m h. omega arith) xs (highest-le t xs))

pub highest-below : (t : List Assigned) (k : ℕ) (xs : List Literal) → 0 < k → AllByRecursion (λ m. level_of t m < k) xs → highest_level t xs < k
highest-below t k [] pos h = pos
highest-below t k (l ∷ xs) pos h = let a = h.0 in let b = highest-below t k xs pos h.1 in omega arith

-- a literal of the highest level
pub record IsHighest (t : List Assigned) (xs : List Literal) : Type 0 where
  pub literal : Literal
  pub has : has_literal xs literal ≡ true
  pub highest : highest_level t xs ≤ level_of t literal

pub highest_at : (t : List Assigned) (xs : List Literal) → 0 < highest_level t xs → IsHighest t xs
highest_at t [] pos = absurd (omega arith)
highest_at t (l ∷ xs) pos = step (cases_lt (level_of t l) (highest_level t xs)) (λ p. highest_at t xs p)
  where
    step : (level_of t l < highest_level t xs) ⊎ (highest_level t xs ≤ level_of t l) → (0 < highest_level t xs → IsHighest t xs) → IsHighest t (l ∷ xs)
    step (inl lt) go = let r = go (omega arith) in let top = r.highest in record { literal = r.literal; has = or_right _ _ r.has; highest = omega arith }
    step (inr ge) go = record { literal = l; has = or_left _ _ (same_literal-same l); highest = omega arith }

find_step : (p : Literal → Bool) (x l : Literal) (c : List Literal) (b : Bool) → p x ≡ b → (find p c ≡ Some l → (p l ≡ true) × (has_literal c l ≡ true))
    → cond b (Some x) (find p c) ≡ Some l → (p l ≡ true) × (has_literal (x ∷ c) l ≡ true)
find_step p x l c true e go h =
    let same : x ≡ l = cc in (subst (λ y. p y ≡ true) same e, or_left _ _ (subst (λ y. same_literal l y ≡ true) (sym same) (same_literal-same l)))
find_step p x l c false e go h = let r = go h in (r.0, or_right _ _ r.1)

find_is : (p : Literal → Bool) (c : List Literal) (l : Literal) → find p c ≡ Some l → (p l ≡ true) × (has_literal c l ≡ true)
find_is p [] l h = absurd (let x : ⊥ = cc in x)
find_is p (x ∷ c) l h = find_step p x l c (p x) refl (λ e. find_is p c l e) h

counted_step : (p : Literal → Bool) (x : Literal) (c : List Literal) (b : Bool) → p x ≡ b → (1 ≤ count_by p c → (l : Literal) × (find p c ≡ Some l))
    → 1 ≤ cond b 1 0 + count_by p c → (l : Literal) × (cond b (Some x) (find p c) ≡ Some l)
counted_step p x c true e go h = (x, refl)
counted_step p x c false e go h = go (omega arith)

-- where some literal is of a kind the first one is found
pub find_counted : (p : Literal → Bool) (c : List Literal) → 1 ≤ count_by p c → (l : Literal) × (find p c ≡ Some l)
find_counted p [] h = absurd (omega arith)
find_counted p (x ∷ c) h = let e = count-cons p x c in counted_step p x c (p x) refl (λ k. find_counted p c k) (omega arith)

pub count_zero : (p : Literal → Bool) (c : List Literal) → count_by p c ≡ 0 → AllByRecursion (λ m. p m ≡ false) c
count_zero p [] h = tt
count_zero p (x ∷ c) h = let e = count-cons p x c in let rest : count_by p c ≡ 0 = omega arith in (none (p x) (omega arith), count_zero p c rest)
  where
    none : (b : Bool) → cond b 1 0 ≤ 0 → b ≡ false
    none true h = absurd (omega arith)
    none false h = refl

only_step : (p : Literal → Bool) (x l : Literal) (c : List Literal) (b : Bool) → p x ≡ b → cond b 1 0 + count_by p c ≤ 1 → cond b (Some x) (find p c) ≡ Some l
    → (count_by p c ≤ 1 → find p c ≡ Some l → AllByRecursion (λ m. p m ≡ true → m ≡ l) c) → AllByRecursion (λ m. p m ≡ true → m ≡ l) (x ∷ c)
only_step p x l c true e n h go =
    let same : x ≡ l = cc in
    (λ _. same, each_weaker (λ m. p m ≡ false) (λ m. p m ≡ true → m ≡ l) (λ m f t. absurd (both_ways _ f t)) c (count_zero p c (omega arith)))
only_step p x l c false e n h go = (λ t. absurd (both_ways _ e t), go (omega arith) h)

-- where only one literal is of a kind it is the one that is found
pub each_only : (p : Literal → Bool) (c : List Literal) (l : Literal) → count_by p c ≤ 1 → find p c ≡ Some l → AllByRecursion (λ m. p m ≡ true → m ≡ l) c
each_only p [] l n h = tt
each_only p (x ∷ c) l n h = let e = count-cons p x c in only_step p x l c (p x) refl (omega arith) h (λ k f. each_only p c l k f)

kept_step : (p : Literal → Bool) (a : Literal) (c : List Literal) → has_literal c a ≡ true → p a ≡ true → 1 ≤ length (filter p c)
kept_step p a [] h e = absurd (both_ways false refl h)
kept_step p a (x ∷ c) h e = step (p x) refl (or_cases _ _ h) (λ u. kept_step p a c u e)
  where
    step : (b : Bool) → p x ≡ b → (same_literal a x ≡ true) ⊎ (has_literal c a ≡ true) → (has_literal c a ≡ true → 1 ≤ length (filter p c))
        → 1 ≤ length (cond b (x ∷ filter p c) (filter p c))
    step true ex h go = omega arith
    step false ex (inl s) go = absurd (both_ways _ ex (subst (λ y. p y ≡ true) (same_literal-true a x s) e))
    step false ex (inr u) go = go u

-- two different literals that pass are both kept
pub two_kept : (p : Literal → Bool) (a b : Literal) (c : List Literal) → has_literal c a ≡ true → has_literal c b ≡ true → (a ≡ b → ⊥) → p a ≡ true → p b ≡ true
    → 2 ≤ length (filter p c)
two_kept p a b [] ha hb ne ea eb = absurd (both_ways false refl ha)
two_kept p a b (x ∷ c) ha hb ne ea eb =
    step (p x) refl (or_cases _ _ ha) (or_cases _ _ hb) (λ u w. two_kept p a b c u w ne ea eb)
  where
    step : (t : Bool) → p x ≡ t → (same_literal a x ≡ true) ⊎ (has_literal c a ≡ true) → (same_literal b x ≡ true) ⊎ (has_literal c b ≡ true)
        → (has_literal c a ≡ true → has_literal c b ≡ true → 2 ≤ length (filter p c)) → 2 ≤ length (cond t (x ∷ filter p c) (filter p c))
    step true ex (inl s) (inl t) go = absurd (ne (same_literal-true a x s ∙ sym (same_literal-true b x t)))
    step true ex (inl s) (inr w) go = let k = kept_step p b c w eb in omega arith
    step true ex (inr u) w go = let k = kept_step p a c u ea in omega arith
    step false ex (inl s) w go = absurd (both_ways _ ex (subst (λ y. p y ≡ true) (same_literal-true a x s) ea))
    step false ex (inr u) (inl t) go = absurd (both_ways _ ex (subst (λ y. p y ≡ true) (same_literal-true b x t) eb))
    step false ex (inr u) (inr w) go = go u w

-- the literals of a clause to which the machine goes back: the one that remains, and one of the level that it goes back to
pub record GoesBack (n : ℕ) (t : List Assigned) (k : ℕ) (c : List Literal) (l : Literal) : Type 0 where
  pub has : has_literal c l ≡ true
  pub free : is_assigned (cut k t) (variable_of l) ≡ false
  pub below : variable_of l < n
  pub others : AllByRecursion (λ m. (m ≡ l) ⊎ (is_false (cut k t) m ≡ true)) c
  pub second : 0 < k → (m : Literal) × (has_literal c m ≡ true) × (l ≡ m → ⊥) × (k ≤ level_of t m)

slice_append : (cs : List (List Literal)) (c : List Literal) (i : ℕ) → i < length cs → slice_index_or (cs ++ c ∷ []) i [] ≡ slice_index_or cs i []
slice_append [] c i h = absurd (omega arith)
slice_append (d ∷ cs) c zero h = refl
slice_append (d ∷ cs) c (suc i) h = slice_append cs c i (omega arith)

slice_last : (cs : List (List Literal)) (c : List Literal) → slice_index_or (cs ++ c ∷ []) (length cs) [] ≡ c
slice_last [] c = refl
slice_last (d ∷ cs) c = slice_last cs c

each_more : (P : List Literal → Type 0) (cs : List (List Literal)) (c : List Literal) → AllByRecursion P cs → P c → AllByRecursion P (cs ++ c ∷ [])
each_more P [] c h p = (p, tt)
each_more P (d ∷ cs) c h p = (h.0, each_more P cs c h.1 p)

not_false_free : (t : List Assigned) (l : Literal) → is_assigned t (variable_of l) ≡ false → not (is_false t l) ≡ true
not_false_free t l h = ap not (false_from_ne_true (is_false t l) (λ f. both_ways _ h (false_is_assigned t l f)))

-- the reasons of a trail of at most level k hold with one more clause that goes back to level k
reasons_more : (n k : ℕ) (cs : List (List Literal)) (t : List Assigned) (c : List Literal) (l : Literal) → GoesBack n t k c l → (u : List Assigned)
    → IsDistinct n u → Suffix t u → level u ≤ k → is_assigned u (variable_of l) ≡ false → Reasons cs u → Reasons (cs ++ c ∷ []) u
reasons_more n k cs t c l g [] d s le free r = tt
reasons_more n k cs t c l g (Because i x ∷ u) d s le free r =
    let within : i < length cs = r.0 in
    let more = length-append cs (c ∷ []) in (
      omega arith,
      subst (λ e. IsCause u x e) (sym (slice_append cs c i within)) r.1,
      reasons_more n k cs t c l g u d.2 (Suffix-tail n t (Because i x) u d s) le (or_parts _ _ free).1 r.2,
    )
reasons_more n k cs t c l g (Decided x ∷ u) d s le free r =
    let pos : 0 < k = omega arith in
    let two = g.second pos in
    let tail = Suffix-tail n t (Decided x) u d s in
    let free_u : is_assigned u (variable_of l) ≡ false = (or_parts _ _ free).1 in
    let second_kept : not (is_false u two.0) ≡ true =
    ap not (false_from_ne_true (is_false u two.0) (λ f.
    let at : level_of t two.0 ≡ level_of u two.0 = tail two.0 (false_is_assigned u two.0 f) in
    let top = level_of-le u two.0 in
    let high : k ≤ level_of t two.0 = two.3 in
    omega arith)) in
    let forced : NotForced u c = inr (two_kept (λ m. not (is_false u m)) l two.0 c g.has two.1 two.2 (not_false_free u l free_u) second_kept) in
    (each_more (NotForced u) cs c r.0 forced, reasons_more n k cs t c l g u d.2 tail (omega arith) free_u r.1)

pub not_current_below : (t : List Assigned) (m : Literal) → not (is_current t m) ≡ true → level_of t m < level t
not_current_below t m h = let le = level_of-le t m in let ne = eqb-false _ _ (not-true _ h) in strict le ne
  where
    strict : level_of t m ≤ level t → (level_of t m ≡ level t → ⊥) → level_of t m < level t
    strict le ne = ⊎_elim (λ lt. lt) (λ ge. absurd (ne (omega arith))) (cases_lt (level_of t m) (level t))

other_false : (n k : ℕ) (t : List Assigned) (l m : Literal) (b : Bool) → is_current t m ≡ b → is_false t m ≡ true → (is_current t m ≡ true → m ≡ l)
    → (not (is_current t m) ≡ true → level_of t m ≤ k) → (m ≡ l) ⊎ (is_false (cut k t) m ≡ true)
other_false n k t l m true e f only le = inl (only e)
other_false n k t l m false e f only le = inr (cut_false n k t m f (le (ap not e)))

-- a clause of which one literal of the current level remains goes back to the highest level of its others
pub goes_back : (n : ℕ) (t : List Assigned) (c : List Literal) (l : Literal) → IsDistinct n t → 0 < level t → Walked n t 1 c → find (is_current t) c ≡ Some l
    → GoesBack n t (highest_level t (filter (λ m. not (is_current t m)) c)) c l
goes_back n t c l d pos w h =
    let p : Literal → Bool = is_current t in
    let q : Literal → Bool = λ m. not (is_current t m) in
    let k : ℕ = highest_level t (filter q c) in
    let is = find_is p c l h in
    let count : count_by p c ≡ 1 = w.count in
    let most : count_by p c ≤ 1 = omega arith in
    let low : k < level t =
    highest-below t (level t) (filter q c) pos
    (each_weaker (λ m. q m ≡ true) (λ m. level_of t m < level t) (λ m e. not_current_below t m e) (filter q c) (each_passes q c)) in
    let within : AllByRecursion (λ m. q m ≡ true → level_of t m ≤ k) c =
    each_weaker (λ m. q m ≡ true → has_literal (filter q c) m ≡ true) (λ m. q m ≡ true → level_of t m ≤ k) (λ m go e.
    each_has (λ m. level_of t m ≤ k) (filter q c) m (highest-le t (filter q c)) (go e)) c (each_kept q c) in
    let known : AllByRecursion (λ m. (is_false t m ≡ true) × (p m ≡ true → m ≡ l)) c =
    each_both (λ m. is_false t m ≡ true) (λ m. p m ≡ true → m ≡ l) (λ m. (is_false t m ≡ true) × (p m ≡ true → m ≡ l)) (λ m a b. (a, b)) c w.clause.falsified
    (each_only p c l most h) in
    record {
      has = is.1;
      free = false_from_ne_true (is_assigned (cut k t) (variable_of l)) (λ a.
          let same : level_of t l ≡ level_of (cut k t) l = cut_suffix n k t d l a in
          let top : level_of t l ≡ level t = eqb-true _ _ is.0 in
          let le = level_of-le (cut k t) l in
          let ck = cut_level k t in
          omega arith);
      below = each_has (λ m. variable_of m < n) c l w.clause.below is.1;
      others = each_both (λ m. (is_false t m ≡ true) × (p m ≡ true → m ≡ l)) (λ m. q m ≡ true → level_of t m ≤ k) (λ m. (m ≡ l) ⊎ (is_false (cut k t) m ≡ true))
          (λ m a b. other_false n k t l m (p m) refl a.0 a.1 b) c known within;
      second = λ kp.
          let top = highest_at t (filter q c) kp in
          let passes : q top.literal ≡ true = each_has (λ m. q m ≡ true) (filter q c) top.literal (each_passes q c) top.has in
          (top.literal, filter_member q c top.literal top.has, (λ same. both_ways _ (not-true _ passes) (subst (λ m. p m ≡ true) same is.0)), top.highest);
    }

-- a learnt clause leads to a reached state
pub learnt_reached : (n : ℕ) (s : State) (line : RefutationLine) (l : Literal) → IsReached n s → 0 < level s.trail → Walked n s.trail 1 line.clause
    → find (is_current s.trail) line.clause ≡ Some l → IsReached n (state_after_conflict s line)
learnt_reached n s line l r pos w h =
    let t : List Assigned = s.trail in
    let cs : List (List Literal) = s.clauses in
    let c : List Literal = line.clause in
    let k : ℕ = highest_level t (filter (λ m. not (is_current t m)) c) in
    let g = goes_back n t c l r.distinct pos w h in
    let cut_d = cut_distinct n k t r.distinct in
    let long = length-append cs (c ∷ []) in
    let trail_is : with_asserted (length cs) (find (is_current t) c) (cut k t) ≡ Because (length cs) l ∷ cut k t =
    ap (λ o. with_asserted (length cs) o (cut k t)) h in
    let cause : IsCause (cut k t) l (slice_index_or (cs ++ c ∷ []) (length cs) []) =
    subst (λ e. IsCause (cut k t) l e) (sym (slice_last cs c)) (record { has = g.has; others = g.others }) in
    record {
      distinct = subst (IsDistinct n) (sym trail_is) (g.below, g.free, cut_d);
      reasons = subst (Reasons (cs ++ c ∷ [])) (sym trail_is) (
        (omega arith),
        cause,
        reasons_more n k cs t c l g (cut k t) cut_d (cut_suffix n k t r.distinct) (cut_level k t) g.free (cut_reasons cs k t r.reasons),
      );
      below = each_more (ClauseBelow n) cs c r.below w.clause.below;
      no_repeat = each_more HasNoRepeat cs c r.no_repeat w.clause.no_repeat;
    }

each_within : (P : List Literal → Type 0) (cs : List (List Literal)) (i : ℕ) → AllByRecursion P cs → i < length cs → P (slice_index_or cs i [])
each_within P [] i h lt = absurd (omega arith)
each_within P (c ∷ cs) zero h lt = h.0
each_within P (c ∷ cs) (suc i) h lt = each_within P cs i h.1 (omega arith)

keeps_step : (t : List Assigned) (b : Bool) → eqb (level t) 0 ≡ b → Keeps t (cond b 0 1)
keeps_step t true e = inr (refl, eqb-true _ _ e)
keeps_step t false e = inl refl

pub positive : (k : ℕ) → (k ≡ 0 → ⊥) → 0 < k
positive zero ne = absurd (ne refl)
positive (suc k) ne = omega arith

enough_step : (t : List Assigned) (m : ℕ) (b : Bool) → eqb (level t) 0 ≡ b → (0 < level t → 2 ≤ m) → cond b 0 1 ≤ m
enough_step t m true e go = omega arith
enough_step t m false e go = let ne = eqb-false _ _ e in let two = go (positive (level t) ne) in omega arith

-- where the analysis of a conflict begins
pub record Begins (n : ℕ) (s : State) (i : ℕ) : Type 0 where
  pub within : i < length s.clauses
  pub keeps : Keeps s.trail (kept_count s.trail)
  pub walk : Walk n s.trail (kept_count s.trail) s.trail (slice_index_or s.clauses i [])

pub conflict_begins : (n : ℕ) (s : State) (i : ℕ) → IsReached n s → position_from (list_all (is_false s.trail)) 0 s.clauses ≡ Some i → Begins n s i
conflict_begins n s i r h =
    let t : List Assigned = s.trail in
    let cs : List (List Literal) = s.clauses in
    let at = position_passes (list_all (is_false t)) cs 0 i h in
    let number = at.number in
    let same : at.place ≡ i = omega arith in
    let c : List Literal = slice_index_or cs i [] in
    let within : i < length cs = subst (λ j. j < length cs) same at.within in
    let falsified : AllFalse t c = all_false t c (subst (λ j. list_all (is_false t) (slice_index_or cs j []) ≡ true) same at.passes) in
    record {
      within = within;
      keeps = keeps_step t (eqb (level t) 0) refl;
      walk = record {
        clause = record {
          no_repeat = each_within HasNoRepeat cs i r.no_repeat within;
          below = each_within (ClauseBelow n) cs i r.below within;
          falsified =
              falsified;
        };
        enough = enough_step t (current_count t c) (eqb (level t) 0) refl (λ pos.
            two_current n t c r.distinct falsified (each_within (NotForced (base t)) cs i (base_open cs t pos r.reasons) within));
        ahead = inr (falsified, refl);
      };
    }

-- the line with which the analysis of a conflict begins
abbrev pub first_line : State → ℕ → RefutationLine
first_line s i = record { clause = slice_index_or s.clauses i []; chain = i ∷ [] }

-- the line of a conflict is found by one walk back along the trail
pub conflict_line-is : (n : ℕ) (s : State) (i : ℕ) → IsReached n s → Begins n s i
    → conflict_line s i ≡ walk_back s.clauses s.trail (kept_count s.trail) s.trail (first_line s i)
conflict_line-is n s i r b =
    analysis_is_walk n (kept_count s.trail) s.clauses s.trail b.keeps r.distinct r.no_repeat r.below [] s.trail (first_line s i) (length s.trail) refl
    (omega arith) r.distinct r.reasons (λ l e. e) (λ l e. refl) b.walk

-- the line of a conflict is a false clause with the literals of the current level that are kept
pub conflict_walked : (n : ℕ) (s : State) (i : ℕ) → IsReached n s → position_from (list_all (is_false s.trail)) 0 s.clauses ≡ Some i
    → Walked n s.trail (kept_count s.trail) (conflict_line s i).clause
conflict_walked n s i r h =
    let b = conflict_begins n s i r h in
    subst (λ x. Walked n s.trail (kept_count s.trail) x.clause) (sym (conflict_line-is n s i r b))
    (walk_back_walked n (kept_count s.trail) s.clauses s.trail b.keeps r.distinct r.no_repeat r.below s.trail (first_line s i) r.distinct r.reasons (λ l e. e)
    (λ l e. refl) b.walk)
