-- The machine's refutations and models are right.
use Rattle.std.proofs.Common.{◌≡◌, ℕ, zero, suc, ◌+◌, ◌<◌, ◌≤◌, Bool, true, false, cond, not, ◌&&◌, ◌||◌, eqb, List, [], ◌∷◌, ◌++◌, map, Option, Some, None}
use Rattle.std.proofs.Common.{refl, sym, ap, ◌∙◌, subst, ⊎_elim, ◌⊎◌, arith, length, append_assoc, append-nil}
use Rattle.std.specs.Prelude.{slice_index_or, slice_get, nat_lt}
use Rattle.std.specs.List.{list_any, list_all, filter, find, position_from, range_with_len, AllByRecursion}
use Rattle.std.proofs.lemmas.List.Folds.{list_all-append}
use Rattle.std.proofs.lemmas.Bool.{false_from_ne_true, or_cases, or_left, or_right, or_from, and_parts, and_from, both_ways, eqb-true, eq-eqb, cond_both}
use Rattle.std.proofs.lemmas.Bool.{not-true, lt-ltb}
use Rattle.cqe_base.specs.Literal.{Literal, Positive, Negative, variable_of, opposite, same_literal, has_literal, union, literal_true, clause_true}
use Rattle.cqe_base.specs.Literal.{clauses_true, sign_at, ClauseBelow, ClausesBelow, HasNoRepeat, HaveNoRepeat}
use Rattle.cqe_base.specs.Refutation.{RefutationLine, resolvent, resolvent_on, single_resolvent, resolvent_with_next, chain_from, chain_result, same_literals}
use Rattle.cqe_base.specs.Refutation.{is_result, lines_right, is_empty_clause, ends_empty, is_refutation, covers, is_model}
use Rattle.cqe_base.specs.Machine.{Assigned, Decided, Because, State, is_true, is_false, level, level_of, is_current, current_count, kept_count, resolved_line}
use Rattle.cqe_base.specs.Machine.{conflict_line, conflict_cost, state_after_conflict, first_unit, first_unassigned, signs_of, start, Step, Continues, Ends}
use Rattle.cqe_base.specs.Machine.{Refuted, Ended, with_cost, end_after, end_within, step, conflict_step, decide_step, unit_step, conflict_or_unit_step}
use Rattle.cqe_base.specs.MachineStates.{is_assigned, IsDistinct, IsCause, Reasons, NotForced, IsFalseClause, AllFalse, IsReached}
use Rattle.cqe_base.specs.Outcome.{is_right_end}
use Rattle.cqe_base.specs.MachineLaws.{MachineEndsAreRight}
use Rattle.cqe_base.proofs.ClauseTruth.{same_literal-same, opposite-opposite, variable_of-opposite}
use Rattle.cqe_base.proofs.Trails.{Suffix, Suffix-tail, not_both, no_opposite, true_is_assigned, level_of-le}
use Rattle.cqe_base.proofs.Analysis.{Walk, Keeps, Within, walk_back, each_weaker, each_both, each_filter, each_passes, HasNoRepeat-filter, walk_because}
use Rattle.cqe_base.proofs.Analysis.{walk_decided}
use Rattle.cqe_base.proofs.Reached.{position_none, unit_none}
use Rattle.cqe_base.proofs.Conflicts.{first_line, conflict_begins, conflict_line-is, conflict_walked, count_zero}
use Rattle.cqe_base.proofs.MachineRules.{each_has, each_kept, each_not_forced}
use Rattle.cqe_base.proofs.MachineBound.{step_progress}

singleton : (x : Literal) (c : List Literal) → HasNoRepeat c → AllByRecursion (λ m. m ≡ x) c → has_literal c x ≡ true → c ≡ x ∷ []
singleton x [] r h m = absurd (both_ways false refl m)
singleton x (l ∷ []) r h m = ap (λ y. y ∷ []) h.0
singleton x (l ∷ k ∷ c) r h m =
    let same : l ≡ k = h.0 ∙ sym h.1.0 in
    absurd (both_ways _ r.0 (or_left _ _ (subst (λ y. same_literal l y ≡ true) same (same_literal-same l))))

false_literal : (n : ℕ) (t : List Assigned) (c : List Literal) (l : Literal) → IsDistinct n t → is_true t l ≡ true → AllFalse t c → has_literal c l ≡ false
false_literal n t c l d h f = false_from_ne_true _ (λ m. not_both n t l d h (each_has (λ m. is_false t m ≡ true) c l f m))

back_true : (t : List Assigned) (m : Literal) → is_false t (opposite m) ≡ true → is_true t m ≡ true
back_true t m h = rw opposite-opposite at h

on_opposite : (l : Literal) (c d : List Literal) → has_literal c l ≡ false → has_literal d (opposite l) ≡ false
    → resolvent_on (opposite l ∷ []) c d ≡ Some (resolvent (variable_of l) c d)
on_opposite l c d hc hd =
    let first : has_literal c (opposite (opposite l)) ≡ false = rw opposite-opposite hc in
    ap (λ b. cond b None (Some (resolvent (variable_of (opposite l)) c d))) (or_from _ _ first hd)
    ∙ ap (λ v. Some (resolvent v c d)) (variable_of-opposite l)

-- a false clause and a cause clash in the cause's variable alone
pub resolved_cause : (n : ℕ) (whole rest : List Assigned) (l : Literal) (c d : List Literal) → IsDistinct n whole → is_true whole l ≡ true → Within whole rest
    → is_assigned rest (variable_of l) ≡ false → IsFalseClause n whole c → IsCause rest l d → has_literal c (opposite l) ≡ true
    → single_resolvent c d ≡ Some (resolvent (variable_of l) c d)
resolved_cause n whole rest l c d dw here within free f cause has =
    let p : Literal → Bool = λ m. has_literal d (opposite m) in
    let same : AllByRecursion (λ m. p m ≡ true → m ≡ opposite l) c =
    each_weaker (λ m. is_false whole m ≡ true) (λ m. p m ≡ true → m ≡ opposite l)
    (λ m fm e. ⊎_elim (λ o. sym (opposite-opposite m) ∙ ap opposite o) (λ o. absurd (not_both n whole m dw (within m (back_true rest m o)) fm))
    (each_has (λ m. (m ≡ l) ⊎ (is_false rest m ≡ true)) d (opposite m) cause.others e)) c f.falsified in
    let each : AllByRecursion (λ m. m ≡ opposite l) (filter p c) =
    each_both (λ m. p m ≡ true → m ≡ opposite l) (λ m. p m ≡ true) (λ m. m ≡ opposite l) (λ m go e. go e) (filter p c)
    (each_filter (λ m. p m ≡ true → m ≡ opposite l) p c same) (each_passes p c) in
    let passes : p (opposite l) ≡ true = rw opposite-opposite cause.has in
    let kept : has_literal (filter p c) (opposite l) ≡ true =
    each_has (λ m. p m ≡ true → has_literal (filter p c) m ≡ true) c (opposite l) (each_kept p c) has passes in
    let one : filter p c ≡ opposite l ∷ [] = singleton (opposite l) (filter p c) (HasNoRepeat-filter p c f.no_repeat) each kept in
    let no_first : has_literal c l ≡ false = false_literal n whole c l dw here f.falsified in
    let no_second : has_literal d (opposite l) ≡ false =
    false_from_ne_true _ (λ m.
    ⊎_elim (λ o. absurd (no_opposite l o)) (λ o. both_ways _ free (true_is_assigned rest l (back_true rest l o)))
    (each_has (λ m. (m ≡ l) ⊎ (is_false rest m ≡ true)) d (opposite l) cause.others m)) in
    ap (λ xs. resolvent_on (union [] xs) c d) one ∙ on_opposite l c d no_first no_second

chain_from-push : (cs : List (List Literal)) (xs : List ℕ) (i : ℕ) (c d : List Literal) → chain_from cs (Some c) xs ≡ Some d
    → chain_from cs (Some c) (xs ++ i ∷ []) ≡ resolvent_with_next d (slice_get cs i)
chain_from-push cs [] i c d h = let same : c ≡ d = cc in
    ap (λ o. chain_from cs o []) refl ∙ chain_end cs (resolvent_with_next c (slice_get cs i)) ∙ ap (λ x. resolvent_with_next x (slice_get cs i)) same
  where
    chain_end : (cs : List (List Literal)) (o : Option (List Literal)) → chain_from cs o [] ≡ o
    chain_end cs None = refl
    chain_end cs (Some c) = refl
chain_from-push cs (j ∷ xs) i c d h = later (resolvent_with_next c (slice_get cs j)) h (λ e g. chain_from-push cs xs i e d g)
  where
    later : (o : Option (List Literal)) → chain_from cs o xs ≡ Some d
        → ((e : List Literal) → chain_from cs (Some e) xs ≡ Some d → chain_from cs (Some e) (xs ++ i ∷ []) ≡ resolvent_with_next d (slice_get cs i))
        → chain_from cs o (xs ++ i ∷ []) ≡ resolvent_with_next d (slice_get cs i)
    later None h go = absurd (let x : ⊥ = cc in x)
    later (Some e) h go = go e h

-- one more number of a chain
pub chain_result-push : (cs : List (List Literal)) (xs : List ℕ) (i : ℕ) (d : List Literal) → chain_result cs xs ≡ Some d
    → chain_result cs (xs ++ i ∷ []) ≡ resolvent_with_next d (slice_get cs i)
chain_result-push cs [] i d h = absurd (let x : ⊥ = cc in x)
chain_result-push cs (j ∷ xs) i d h = start_at (slice_get cs j) h
  where
    start_at : (o : Option (List Literal)) → chain_from cs o xs ≡ Some d → chain_from cs o (xs ++ i ∷ []) ≡ resolvent_with_next d (slice_get cs i)
    start_at None h = absurd (let x : ⊥ = cc in x)
    start_at (Some c) h = chain_from-push cs xs i c d h

slice_get_at : (cs : List (List Literal)) (i : ℕ) → i < length cs → slice_get cs i ≡ Some (slice_index_or cs i [])
slice_get_at [] i h = absurd (omega arith)
slice_get_at (c ∷ cs) zero h = refl
slice_get_at (c ∷ cs) (suc i) h = slice_get_at cs i (omega arith)

chain_step : (n : ℕ) (cs : List (List Literal)) (whole : List Assigned) (i : ℕ) (l : Literal) (rest : List Assigned) (line : RefutationLine) (b b' : Bool)
    → has_literal line.clause (opposite l) ≡ b' → IsDistinct n whole → Within whole (Because i l ∷ rest) → is_assigned rest (variable_of l) ≡ false
    → i < length cs → IsCause rest l (slice_index_or cs i []) → IsFalseClause n whole line.clause → chain_result cs line.chain ≡ Some line.clause
    → chain_result cs (cond (b && b') (resolved_line cs i l line) line).chain ≡ Some (cond (b && b') (resolved_line cs i l line) line).clause
chain_step n cs whole i l rest line false b' e' dw within free lt cause f h = h
chain_step n cs whole i l rest line true false e' dw within free lt cause f h = h
chain_step n cs whole i l rest line true true e' dw within free lt cause f h =
    chain_result-push cs line.chain i line.clause h
    ∙ ap (resolvent_with_next line.clause) (slice_get_at cs i lt)
    ∙ resolved_cause n whole rest l line.clause (slice_index_or cs i []) dw (within l (or_left _ _ (same_literal-same l)))
    (λ m k. within m (or_right _ _ k)) free f cause e'

-- the walk back keeps that the clause is the result of the chain
pub walk_back_chain : (n keep : ℕ) (cs : List (List Literal)) (whole : List Assigned) → Keeps whole keep → IsDistinct n whole → HaveNoRepeat cs
    → ClausesBelow n cs → (rest : List Assigned) (line : RefutationLine) → IsDistinct n rest → Reasons cs rest → Within whole rest → Suffix whole rest
    → Walk n whole keep rest line.clause → chain_result cs line.chain ≡ Some line.clause
    → chain_result cs (walk_back cs whole keep rest line).chain ≡ Some (walk_back cs whole keep rest line).clause
walk_back_chain n keep cs whole keeps dw rs bs [] line d r within s w h = h
walk_back_chain n keep cs whole keeps dw rs bs (Decided l ∷ rest) line d r within s w h =
    walk_back_chain n keep cs whole keeps dw rs bs rest line d.2 r.1 (λ m k. within m (or_right _ _ k)) (Suffix-tail n whole (Decided l) rest d s)
    (walk_decided n keep whole l rest line.clause keeps d s w) h
walk_back_chain n keep cs whole keeps dw rs bs (Because i l ∷ rest) line d r within s w h =
    walk_back_chain n keep cs whole keeps dw rs bs rest _ d.2 r.2 (λ m k. within m (or_right _ _ k)) (Suffix-tail n whole (Because i l) rest d s)
    (walk_because n keep cs whole i l rest line (nat_lt keep (current_count whole line.clause))
    (has_literal line.clause (opposite l)) refl refl dw rs bs within r.1 w)
    (chain_step n cs whole i l rest line (nat_lt keep (current_count whole line.clause))
    (has_literal line.clause (opposite l)) refl dw within d.1 r.0 r.1 w.clause h)

-- a conflict's clause is the result of its chain
pub conflict_chain : (n : ℕ) (s : State) (i : ℕ) → IsReached n s → position_from (list_all (is_false s.trail)) 0 s.clauses ≡ Some i
    → chain_result s.clauses (conflict_line s i).chain ≡ Some (conflict_line s i).clause
conflict_chain n s i r h =
    let b = conflict_begins n s i r h in
    subst (λ x. chain_result s.clauses x.chain ≡ Some x.clause) (sym (conflict_line-is n s i r b))
    (walk_back_chain n (kept_count s.trail) s.clauses s.trail b.keeps r.distinct r.no_repeat r.below s.trail (first_line s i) r.distinct r.reasons (λ l e. e)
    (λ l e. refl) b.walk
    (ap (λ o. chain_from s.clauses o []) (slice_get_at s.clauses i b.within)))

each_self : (c : List Literal) → AllByRecursion (λ m. has_literal c m ≡ true) c
each_self [] = tt
each_self (l ∷ c) =
    (or_left _ _ (same_literal-same l), each_weaker (λ m. has_literal c m ≡ true) (λ m. has_literal (l ∷ c) m ≡ true) (λ m h. or_right _ _ h) c (each_self c))

all_from_each : (p : Literal → Bool) (c : List Literal) → AllByRecursion (λ m. p m ≡ true) c → list_all p c ≡ true
all_from_each p [] h = refl
all_from_each p (l ∷ c) h = and_from _ _ h.0 (all_from_each p c h.1)

same_as_itself : (c : List Literal) → same_literals c c ≡ true
same_as_itself c = let h = all_from_each (has_literal c) c (each_self c) in and_from _ _ h h

-- one more line is right where its clause is the result of its chain
lines_right-push : (cs : List (List Literal)) (ls : List RefutationLine) (x : RefutationLine) → lines_right cs ls ≡ true
    → chain_result (cs ++ map (λ l. l.clause) ls) x.chain ≡ Some x.clause → lines_right cs (ls ++ x ∷ []) ≡ true
lines_right-push cs [] x r h =
    let here : chain_result cs x.chain ≡ Some x.clause = ap (λ ds. chain_result ds x.chain) (sym (append-nil cs)) ∙ h in
    and_from _ _ (ap (is_result x.clause) here ∙ same_as_itself x.clause) refl
lines_right-push cs (l ∷ ls) x r h =
    let parts = and_parts (is_result l.clause (chain_result cs l.chain)) _ r in
    and_from _ _ parts.0
    (lines_right-push (cs ++ l.clause ∷ []) ls x parts.1 (ap (λ ds. chain_result ds x.chain) (append_assoc cs (l.clause ∷ []) (map (λ l. l.clause) ls))
    ∙ h))

ends_empty-push : (ls : List RefutationLine) (x : RefutationLine) → ends_empty (ls ++ x ∷ []) ≡ is_empty_clause x.clause
ends_empty-push [] x = refl
ends_empty-push (l ∷ []) x = refl
ends_empty-push (l ∷ k ∷ ls) x = ends_empty-push (k ∷ ls) x

-- the lines so far are right, and their clauses are those that were learnt
pub record IsRefuting (given : List (List Literal)) (s : State) : Type 0 where
  pub clauses : s.clauses ≡ given ++ map (λ l. l.clause) s.lines
  pub right : lines_right given s.lines ≡ true

map_push : (ls : List RefutationLine) (x : RefutationLine)
    → map (λ (l : RefutationLine). l.clause) (ls ++ x ∷ []) ≡ map (λ (l : RefutationLine). l.clause) ls ++ x.clause ∷ []
map_push [] x = refl
map_push (l ∷ ls) x = ap (λ cs. l.clause ∷ cs) (map_push ls x)

pub line_right : (given : List (List Literal)) (n : ℕ) (s : State) (i : ℕ) → IsReached n s → IsRefuting given s
    → position_from (list_all (is_false s.trail)) 0 s.clauses ≡ Some i → lines_right given (s.lines ++ conflict_line s i ∷ []) ≡ true
line_right given n s i r g h =
    lines_right-push given s.lines (conflict_line s i) g.right (ap (λ cs. chain_result cs (conflict_line s i).chain) (sym g.clauses) ∙ conflict_chain n s i r h)

pub refuting_learnt : (given : List (List Literal)) (n : ℕ) (s : State) (i : ℕ) → IsReached n s → IsRefuting given s
    → position_from (list_all (is_false s.trail)) 0 s.clauses ≡ Some i → IsRefuting given (state_after_conflict s (conflict_line s i))
refuting_learnt given n s i r g h =
    record {
      clauses = ap (λ cs. cs ++ (conflict_line s i).clause ∷ []) g.clauses ∙ append_assoc given (map (λ l. l.clause) s.lines) ((conflict_line s i).clause ∷ [])
          ∙ ap (λ cs. given ++ cs) (sym (map_push s.lines (conflict_line s i)));
      right = line_right given n s i r g h;
    }

pub all_current : (t : List Assigned) (c : List Literal) → level t ≡ 0 → AllByRecursion (λ m. is_current t m ≡ true) c
all_current t [] h = tt
all_current t (l ∷ c) h = let le = level_of-le t l in (eq-eqb _ _ (let z : level_of t l ≡ level t = omega arith in z), all_current t c h)

pub no_literal : (t : List Assigned) (c : List Literal) → current_count t c ≡ 0 → AllByRecursion (λ m. is_current t m ≡ true) c → is_empty_clause c ≡ true
no_literal t [] h e = refl
no_literal t (l ∷ c) h e = absurd (both_ways _ (count_zero (is_current t) (l ∷ c) h).0 e.0)

-- at level 0 the last line has no literal
pub refuted_right : (given : List (List Literal)) (n : ℕ) (s : State) (i : ℕ) → IsReached n s → IsRefuting given s
    → position_from (list_all (is_false s.trail)) 0 s.clauses ≡ Some i → eqb (level s.trail) 0 ≡ true
    → is_refutation given (s.lines ++ conflict_line s i ∷ []) ≡ true
refuted_right given n s i r g h e =
    let zero_level : level s.trail ≡ 0 = eqb-true _ _ e in
    let count : current_count s.trail (conflict_line s i).clause ≡ 0 = (conflict_walked n s i r h).count ∙ ap (λ b. cond b 0 1) e in
    and_from _ _ (line_right given n s i r g h)
    (ends_empty-push s.lines (conflict_line s i)
    ∙ no_literal s.trail (conflict_line s i).clause count (all_current s.trail (conflict_line s i).clause zero_level))

find_none : (p : ℕ → Bool) (k m : ℕ) → find p (range_with_len k m) ≡ None → (v : ℕ) → v < m → p (k + v) ≡ false
find_none p k zero h v lt = absurd (omega arith)
find_none p k (suc m) h v lt = step (p k) refl h (λ e v lt. find_none p (k + 1) m e v lt) v lt
  where
    step : (b : Bool) → p k ≡ b → cond b (Some k) (find p (range_with_len (k + 1) m)) ≡ None
        → (find p (range_with_len (k + 1) m) ≡ None → (v : ℕ) → v < m → p (k + 1 + v) ≡ false) → (v : ℕ) → v < suc m → p (k + v) ≡ false
    step true e h go v lt = absurd (let x : ⊥ = cc in x)
    step false e h go zero lt = let same : k ≡ k + 0 = omega arith in subst (λ x. p x ≡ false) same e
    step false e h go (suc v) lt = let same : k + 1 + v ≡ k + suc v = omega arith in subst (λ x. p x ≡ false) same (go h v (omega arith))

signs_length : (f : ℕ → Bool) (k m : ℕ) → length (map f (range_with_len k m)) ≡ m
signs_length f k zero = refl
signs_length f k (suc m) = ap suc (signs_length f (k + 1) m)

signs_at : (f : ℕ → Bool) (k m v : ℕ) → v < m → slice_index_or (map f (range_with_len k m)) v false ≡ f (k + v)
signs_at f k zero v lt = absurd (omega arith)
signs_at f k (suc m) zero lt = let same : k ≡ k + 0 = omega arith in ap f same
signs_at f k (suc m) (suc v) lt = let same : k + 1 + v ≡ k + suc v = omega arith in signs_at f (k + 1) m v (omega arith) ∙ ap f same

-- the signs of a trail make its literals true
sign_true : (n : ℕ) (t : List Assigned) (l : Literal) → IsDistinct n t → variable_of l < n → is_true t l ≡ true → literal_true (sign_at (signs_of t n)) l ≡ true
sign_true n t (Positive v) d lt h =
    signs_at (λ v. is_true t (Positive v)) 0 n v lt ∙ (let same : 0 + v ≡ v = omega arith in ap (λ x. is_true t (Positive x)) same ∙ h)
sign_true n t (Negative v) d lt h =
    let off : is_true t (Positive v) ≡ false = false_from_ne_true _ (λ p. not_both n t (Positive v) d p h) in
    let same : 0 + v ≡ v = omega arith in
    ap not (signs_at (λ v. is_true t (Positive v)) 0 n v lt ∙ ap (λ x. is_true t (Positive x)) same ∙ off)

-- with every variable assigned a literal that isn't false is true
open_true : (n : ℕ) (t : List Assigned) (l : Literal) → first_unassigned t n ≡ None → variable_of l < n → not (is_false t l) ≡ true → is_true t l ≡ true
open_true n t l none lt o =
    let same : 0 + variable_of l ≡ variable_of l = omega arith in
    let p : ℕ → Bool = λ v. not (is_true t (Positive v)) && not (is_true t (Negative v)) in
    let on : p (variable_of l) ≡ false = subst (λ x. p x ≡ false) same (find_none p 0 n none (variable_of l) lt) in
    by_sign l o on
  where
    by_sign : (l : Literal) → not (is_false t l) ≡ true → (not (is_true t (Positive (variable_of l))) && not (is_true t (Negative (variable_of l)))) ≡ false
        → is_true t l ≡ true
    by_sign (Positive v) o on = positive_or (is_true t (Positive v)) (is_true t (Negative v)) (not-true _ o) on
      where
        positive_or : (a b : Bool) → b ≡ false → (not a && not b) ≡ false → a ≡ true
        positive_or true b hb h = refl
        positive_or false true hb h = sym hb
        positive_or false false hb h = sym h
    by_sign (Negative v) o on = negative_or (is_true t (Positive v)) (is_true t (Negative v)) (not-true _ o) on
      where
        negative_or : (a b : Bool) → a ≡ false → (not a && not b) ≡ false → b ≡ true
        negative_or a true ha h = refl
        negative_or true false ha h = sym ha
        negative_or false false ha h = sym h

any_sign : (n : ℕ) (t : List Assigned) (c : List Literal) → IsDistinct n t → ClauseBelow n c → list_any (is_true t) c ≡ true
    → clause_true (sign_at (signs_of t n)) c ≡ true
any_sign n t [] d b h = h
any_sign n t (l ∷ c) d b h = ⊎_elim (λ e. or_left _ _ (sign_true n t l d b.0 e)) (λ e. or_right _ _ (any_sign n t c d b.1 e)) (or_cases _ _ h)

any_open : (n : ℕ) (t : List Assigned) (c : List Literal) → first_unassigned t n ≡ None → ClauseBelow n c → 2 ≤ length (filter (λ l. not (is_false t l)) c)
    → list_any (is_true t) c ≡ true
any_open n t [] none b h = absurd (omega arith)
any_open n t (l ∷ c) none b h = step (not (is_false t l)) refl h (λ e. any_open n t c none b.1 e)
  where
    step : (x : Bool) → not (is_false t l) ≡ x → 2 ≤ length (cond x (l ∷ filter (λ l. not (is_false t l)) c) (filter (λ l. not (is_false t l)) c))
        → (2 ≤ length (filter (λ l. not (is_false t l)) c) → list_any (is_true t) c ≡ true) → (is_true t l || list_any (is_true t) c) ≡ true
    step true e h go = or_left _ _ (open_true n t l none b.0 e)
    step false e h go = or_right _ _ (go h)

clauses_signed : (n : ℕ) (t : List Assigned) (cs : List (List Literal)) → IsDistinct n t → first_unassigned t n ≡ None → ClausesBelow n cs
    → AllByRecursion (NotForced t) cs → clauses_true (sign_at (signs_of t n)) cs ≡ true
clauses_signed n t [] d none b f = refl
clauses_signed n t (c ∷ cs) d none b f =
    and_from _ _ (any_sign n t c d b.0 (⊎_elim (λ e. e) (λ two. any_open n t c none b.0 two) f.0)) (clauses_signed n t cs d none b.1 f.1)

covers_clause : (m : ℕ) (n : ℕ) (c : List Literal) → n ≡ m → ClauseBelow n c → list_all (λ l. nat_lt (variable_of l) m) c ≡ true
covers_clause m n [] e b = refl
covers_clause m n (l ∷ c) e b = and_from _ _ (lt-ltb _ _ (subst (λ k. variable_of l < k) e b.0)) (covers_clause m n c e b.1)

covers_all : (signs : List Bool) (n : ℕ) (cs : List (List Literal)) → n ≡ length signs → ClausesBelow n cs → covers signs cs ≡ true
covers_all signs n [] e b = refl
covers_all signs n (c ∷ cs) e b = and_from _ _ (covers_clause (length signs) n c e b.0) (covers_all signs n cs e b.1)

-- the signs of the last rule are a right model
pub model_right : (given : List (List Literal)) (n : ℕ) (s : State) → IsReached n s → IsRefuting given s → ClausesBelow n given
    → position_from (list_all (is_false s.trail)) 0 s.clauses ≡ None → first_unit s.trail 0 s.clauses ≡ None → first_unassigned s.trail n ≡ None
    → is_model given (signs_of s.trail n) ≡ true
model_right given n s r g b hc hu hn =
    let t : List Assigned = s.trail in
    let forced = each_not_forced t s.clauses (position_none (list_all (is_false t)) s.clauses 0 hc) (unit_none t s.clauses 0 hu) in
    let all = clauses_signed n t s.clauses r.distinct hn r.below forced in
    let split : clauses_true (sign_at (signs_of t n)) (given ++ map (λ l. l.clause) s.lines) ≡ true =
    subst (λ cs. clauses_true (sign_at (signs_of t n)) cs ≡ true) g.clauses all in
    let parts = and_parts _ _ (sym (list_all-append (clause_true (sign_at (signs_of t n))) given (map (λ l. l.clause) s.lines)) ∙ split) in
    and_from _ _ (covers_all (signs_of t n) n given (sym (signs_length (λ v. is_true t (Positive v)) 0 n)) b) parts.0

-- what is said of a step: where it goes on the lines stay right, and where it ends its end is right
abbrev pub StepIsRight : List (List Literal) → Step → Type 0
StepIsRight given (Continues cost new) = IsRefuting given new
StepIsRight given (Ends cost end) = is_right_end given end ≡ true

decide_right : (given : List (List Literal)) (n : ℕ) (s : State) (o : Option ℕ) → first_unassigned s.trail n ≡ o → IsReached n s → IsRefuting given s
    → ClausesBelow n given → position_from (list_all (is_false s.trail)) 0 s.clauses ≡ None → first_unit s.trail 0 s.clauses ≡ None
    → StepIsRight given (decide_step n s o)
decide_right given n s None e r g b hc hu = model_right given n s r g b hc hu e
decide_right given n s (Some v) e r g b hc hu = record { clauses = g.clauses; right = g.right }

unit_right : (given : List (List Literal)) (n : ℕ) (s : State) (o : Option (ℕ × Literal)) → first_unit s.trail 0 s.clauses ≡ o → IsReached n s
    → IsRefuting given s → ClausesBelow n given → position_from (list_all (is_false s.trail)) 0 s.clauses ≡ None → StepIsRight given (unit_step n s o)
unit_right given n s None e r g b hc = decide_right given n s (first_unassigned s.trail n) refl r g b hc e
unit_right given n s (Some u) e r g b hc = record { clauses = g.clauses; right = g.right }

conflict_right : (given : List (List Literal)) (n : ℕ) (s : State) (i : ℕ) → IsReached n s → IsRefuting given s
    → position_from (list_all (is_false s.trail)) 0 s.clauses ≡ Some i → StepIsRight given (conflict_step s i)
conflict_right given n s i r g h =
    let line = conflict_line s i in
    cond_both (eqb (level s.trail) 0) (Ends (conflict_cost line) (Refuted (s.lines ++ line ∷ [])))
    (Continues (conflict_cost line) (state_after_conflict s line)) (StepIsRight given)
    (λ e. refuted_right given n s i r g h e) (λ _. refuting_learnt given n s i r g h)

rule_right : (given : List (List Literal)) (n : ℕ) (s : State) (o : Option ℕ) → position_from (list_all (is_false s.trail)) 0 s.clauses ≡ o → IsReached n s
    → IsRefuting given s → ClausesBelow n given → StepIsRight given (conflict_or_unit_step n s o)
rule_right given n s None e r g b = unit_right given n s (first_unit s.trail 0 s.clauses) refl r g b e
rule_right given n s (Some i) e r g b = conflict_right given n s i r g e

step_right : (given : List (List Literal)) (n : ℕ) (s : State) → IsReached n s → IsRefuting given s → ClausesBelow n given → StepIsRight given (step n s)
unfolding step
step_right given n s r g b = rule_right given n s _ refl r g b

ended_right : (given : List (List Literal)) (n k : ℕ) (s : State) (e : Ended) (x : Step) → step n s ≡ x → IsReached n s → StepIsRight given x
    → ((new : State) (f : Ended) → IsReached n new → IsRefuting given new → end_within n k new ≡ Some f → is_right_end given f.end ≡ true)
    → end_after x (end_within n k) ≡ Some e → is_right_end given e.end ≡ true
ended_right given n k s e (Ends cost end) is r right go h =
    let same : record { end = end; cost = cost } ≡ e = cc in
    subst (λ (f : Ended). is_right_end given f.end ≡ true) same right
ended_right given n k s e (Continues cost new) is r right go h = by_rest (end_within n k new) refl h
  where
    by_rest : (o : Option Ended) → end_within n k new ≡ o → with_cost cost o ≡ Some e → is_right_end given e.end ≡ true
    by_rest None eq h = absurd (let x : ⊥ = cc in x)
    by_rest (Some f) eq h =
        let same : record { end = f.end; cost = cost + f.cost } ≡ e = cc in
        subst (λ (y : Ended). is_right_end given y.end ≡ true) same (go new f (step_progress n s new cost r is).reached right eq)

right_from : (given : List (List Literal)) (n k : ℕ) (s : State) (e : Ended) → IsReached n s → IsRefuting given s → ClausesBelow n given
    → end_within n k s ≡ Some e → is_right_end given e.end ≡ true
unfolding end_within
right_from given n zero s e r g b h = absurd (let x : ⊥ = cc in x)
right_from given n (suc k) s e r g b h =
    ended_right given n k s e (step n s) refl r (step_right given n s r g b) (λ new f rn gn eq. right_from given n k new f rn gn b eq) h

pub machine_ends_are_right : MachineEndsAreRight
machine_ends_are_right clauses n e below no_repeat m =
    right_from clauses n m.0 (start clauses) e (record { distinct = tt; reasons = tt; below = below; no_repeat = no_repeat })
    (record { clauses = sym (append-nil clauses); right = refl }) below m.1
