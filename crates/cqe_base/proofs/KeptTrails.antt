-- A kept trail: what more clauses behind it change, and how the search goes on from it.
use Rattle.std.proofs.Common.{◌≡◌, ℕ, zero, suc, ◌+◌, ◌-◌, ◌<◌, ◌≤◌, Bool, true, false, cond, ◌&&◌, ◌||◌, eqb, List, [], ◌∷◌, ◌++◌, length, drop, Option, Some}
use Rattle.std.proofs.Common.{None, refl, sym, ap, ◌∙◌, subst, inr, ⊎_elim, arith}
use Rattle.std.proofs.Math.Nat.{le-max_left, le-max_right, max-le}
use Rattle.std.specs.Prelude.{max, nat_le, nat_lt, slice_index_or}
use Rattle.std.specs.List.{list_all, position_from, count_by, filter, AllByRecursion}
use Rattle.std.proofs.lemmas.List.Folds.{list_any-append}
use Rattle.std.proofs.lemmas.List.{length-drop}
use Rattle.std.proofs.lemmas.List.Sums.{length-filter}
use Rattle.std.proofs.lemmas.Bool.{false_from_ne_true, and_parts, or_parts, or_right, both_ways, leb-true, leb-false, le-leb, lt-leb, cases_lt}
use Rattle.cqe_base.specs.Literal.{Literal, variable_of, opposite, same_literal, has_literal, ClauseBelow, HasNoRepeat}
use Rattle.cqe_base.specs.Refutation.{RefutationLine, is_empty_clause}
use Rattle.cqe_base.specs.Machine.{Assigned, Decided, Because, assigned_literal, State, start, is_true, is_false, level, is_current, current_count, kept_count}
use Rattle.cqe_base.specs.Machine.{resolved_line, unit_literal, unit_or, first_unit, Continues, Ends, End, Refuted, conflict_line, conflict_cost}
use Rattle.cqe_base.specs.Machine.{state_after_conflict, unit_step, conflict_or_unit_step, step, Ended, with_cost, end_after, end_within, MachineEnds}
use Rattle.cqe_base.specs.Machine.{end_within_cost, end_within_budget}
use Rattle.cqe_base.specs.MachineStates.{is_assigned, IsDistinct, IsReached, AllFalse}
use Rattle.cqe_base.specs.KeptTrail.{has_conflict, IsKeptTrail, state_with, NoneFalsifiedBefore, probed, end_from_within_budget, KeptBeginsKept}
use Rattle.cqe_base.specs.KeptTrail.{KeptStaysWithMore}
use Rattle.cqe_base.specs.KeptTrail.{KeptStaysWithout, KeptIsReached, SearchGoesOnFromKept, ProbeGoesOnFromKept, ProbeIsRefutedAtKept, LowestIsKeptOrProbes}
use Rattle.cqe_base.specs.KeptTrail.{LowestUnitIsKeptOrProbes, LineOfBeginningIsLine, FalsifiedFromItsPlace, unit_or_later, place_against, latest_place}
use Rattle.cqe_base.specs.KeptTrail.{IsFirstFalsified, ProbeIsRefutedAtItsPlace, ProbeGoesOnWhereNoneIsFalsified}
use Rattle.cqe_base.proofs.ClauseTruth.{same_literal-true, variable_of-opposite}
use Rattle.cqe_base.proofs.Trails.{false_is_assigned}
use Rattle.cqe_base.proofs.Reached.{all_false, unit_at}
use Rattle.cqe_base.proofs.Analysis.{walk_back}
use Rattle.cqe_base.proofs.MachineRules.{each_has, unit_reached}
use Rattle.cqe_base.proofs.MachineRuns.{analysis_chain, end_within-more}
use Rattle.cqe_base.proofs.Conflicts.{Begins, first_line, conflict_line-is, conflict_walked}
use Rattle.cqe_base.proofs.MachineRight.{no_literal, all_current}

-- a kept trail has no decision
pub level_kept : (cs : List (List Literal)) (t : List Assigned) → IsKeptTrail cs t → level t ≡ 0
level_kept cs [] h = refl
level_kept cs (Decided l ∷ t) h = absurd h
level_kept cs (Because i l ∷ t) h = level_kept cs t h.2

pub kept_begins_kept : KeptBeginsKept
kept_begins_kept cs t zero h = h
kept_begins_kept cs [] (suc k) h = tt
kept_begins_kept cs (Decided l ∷ t) (suc k) h = absurd h
kept_begins_kept cs (Because i l ∷ t) (suc k) h = kept_begins_kept cs t k h.2

-- ---- the lowest clauses of two lists

-- where no clause has only false literals there is no first such
pub no_first : (t : List Assigned) (cs : List (List Literal)) (k : ℕ) → has_conflict t cs ≡ false → position_from (list_all (is_false t)) k cs ≡ None
no_first t [] k h = refl
no_first t (c ∷ cs) k h =
    let e = or_parts (list_all (is_false t) c) (has_conflict t cs) h in
    ap (λ b. cond b (Some k) (position_from (list_all (is_false t)) (k + 1) cs)) e.0 ∙ no_first t cs (k + 1) e.1

lowest_from : (t : List Assigned) (cs ds : List (List Literal)) (k : ℕ) → position_from (list_all (is_false t)) k (cs ++ ds)
    ≡ cond (has_conflict t cs) (position_from (list_all (is_false t)) k cs) (position_from (list_all (is_false t)) (k + length cs) ds)
lowest_from t [] ds k = let same : k ≡ k + 0 = omega arith in ap (λ j. position_from (list_all (is_false t)) j ds) same
lowest_from t (c ∷ cs) ds k = step (list_all (is_false t) c) (lowest_from t cs ds (k + 1))
  where
    step : (b : Bool) → position_from (list_all (is_false t)) (k + 1) (cs ++ ds)
        ≡ cond (has_conflict t cs) (position_from (list_all (is_false t)) (k + 1) cs) (position_from (list_all (is_false t)) (k + 1 + length cs) ds)
        → cond b (Some k) (position_from (list_all (is_false t)) (k + 1) (cs ++ ds))
        ≡ cond (b || has_conflict t cs) (cond b (Some k) (position_from (list_all (is_false t)) (k + 1) cs))
        (position_from (list_all (is_false t)) (k + suc (length cs)) ds)
    step true go = refl
    step false go =
        let same : k + 1 + length cs ≡ k + suc (length cs) = omega arith in
        go ∙ ap (λ j. cond (has_conflict t cs) (position_from (list_all (is_false t)) (k + 1) cs) (position_from (list_all (is_false t)) j ds)) same

pub lowest_is_kept_or_probes : LowestIsKeptOrProbes
lowest_is_kept_or_probes kept more t =
    let same : 0 + length kept ≡ length kept = omega arith in
    lowest_from t kept more 0
    ∙ ap (λ j. cond (has_conflict t kept) (position_from (list_all (is_false t)) 0 kept) (position_from (list_all (is_false t)) j more)) same

units_from : (t : List Assigned) (cs ds : List (List Literal)) (k : ℕ) → first_unit t k (cs ++ ds)
    ≡ unit_or_later (first_unit t k cs) (first_unit t (k + length cs) ds)
units_from t [] ds k = let same : k ≡ k + 0 = omega arith in ap (λ j. first_unit t j ds) same
units_from t (c ∷ cs) ds k = step (unit_literal t c) (units_from t cs ds (k + 1))
  where
    step : (o : Option Literal) → first_unit t (k + 1) (cs ++ ds) ≡ unit_or_later (first_unit t (k + 1) cs) (first_unit t (k + 1 + length cs) ds)
        → unit_or k o (first_unit t (k + 1) (cs ++ ds)) ≡ unit_or_later (unit_or k o (first_unit t (k + 1) cs)) (first_unit t (k + suc (length cs)) ds)
    step None go =
        let same : k + 1 + length cs ≡ k + suc (length cs) = omega arith in
        go ∙ ap (λ j. unit_or_later (first_unit t (k + 1) cs) (first_unit t j ds)) same
    step (Some l) go = refl

pub lowest_unit_is_kept_or_probes : LowestUnitIsKeptOrProbes
lowest_unit_is_kept_or_probes kept more t =
    let same : 0 + length kept ≡ length kept = omega arith in
    units_from t kept more 0 ∙ ap (λ j. unit_or_later (first_unit t 0 kept) (first_unit t j more)) same

-- the lowest unit clause stays the lowest with more behind
unit_stays : (t : List Assigned) (cs ds : List (List Literal)) (k : ℕ) (u : ℕ × Literal) → first_unit t k cs ≡ Some u → first_unit t k (cs ++ ds) ≡ Some u
unit_stays t [] ds k u h = absurd (let x : ⊥ = cc in x)
unit_stays t (c ∷ cs) ds k u h = step (unit_literal t c) h (λ e. unit_stays t cs ds (k + 1) u e)
  where
    step : (o : Option Literal) → unit_or k o (first_unit t (k + 1) cs) ≡ Some u → (first_unit t (k + 1) cs ≡ Some u → first_unit t (k + 1) (cs ++ ds) ≡ Some u)
        → unit_or k o (first_unit t (k + 1) (cs ++ ds)) ≡ Some u
    step None h go = go h
    step (Some l) h go = h

-- and one that isn't among those behind is the lowest without them
unit_before : (t : List Assigned) (cs ds : List (List Literal)) (k : ℕ) (u : ℕ × Literal) → u.0 < k + length cs → first_unit t k (cs ++ ds) ≡ Some u
    → first_unit t k cs ≡ Some u
unit_before t [] ds k u lt h = let e = (unit_at t ds k u h).number in absurd (omega arith)
unit_before t (c ∷ cs) ds k u lt h = step (unit_literal t c) h (λ e. unit_before t cs ds (k + 1) u (omega arith) e)
  where
    step : (o : Option Literal) → unit_or k o (first_unit t (k + 1) (cs ++ ds)) ≡ Some u
        → (first_unit t (k + 1) (cs ++ ds) ≡ Some u → first_unit t (k + 1) cs ≡ Some u) → unit_or k o (first_unit t (k + 1) cs) ≡ Some u
    step None h go = go h
    step (Some l) h go = h

-- ---- more clauses and fewer

-- what has only false literals has only false ones later
later_false : (a : Assigned) (t : List Assigned) (c : List Literal) → list_all (is_false t) c ≡ true → list_all (is_false (a ∷ t)) c ≡ true
later_false a t [] e = e
later_false a t (l ∷ c) e = step (is_false t l) refl e (λ e. later_false a t c e)
  where
    step : (b : Bool) → is_false t l ≡ b → (b && list_all (is_false t) c) ≡ true → (list_all (is_false t) c ≡ true → list_all (is_false (a ∷ t)) c ≡ true)
        → (is_false (a ∷ t) l && list_all (is_false (a ∷ t)) c) ≡ true
    step true f e go = ap (λ x. x && list_all (is_false (a ∷ t)) c) (or_right _ _ f) ∙ go e
    step false f e go = absurd (both_ways false refl e)

still_false : (a : Assigned) (t : List Assigned) (c : List Literal) → list_all (is_false (a ∷ t)) c ≡ false → list_all (is_false t) c ≡ false
still_false a t c h = false_from_ne_true _ (λ e. both_ways _ h (later_false a t c e))

no_earlier_conflict : (a : Assigned) (t : List Assigned) (cs : List (List Literal)) → has_conflict (a ∷ t) cs ≡ false → has_conflict t cs ≡ false
no_earlier_conflict a t [] h = refl
no_earlier_conflict a t (c ∷ cs) h =
    let e = or_parts (list_all (is_false (a ∷ t)) c) (has_conflict (a ∷ t) cs) h in
    ap (λ b. b || has_conflict t cs) (still_false a t c e.0) ∙ no_earlier_conflict a t cs e.1

none_falsified_before : (a : Assigned) (t : List Assigned) (cs : List (List Literal)) → NoneFalsifiedBefore (a ∷ t) cs → NoneFalsifiedBefore t cs
none_falsified_before a [] cs h = tt
none_falsified_before a (b ∷ t) cs h = no_earlier_conflict b t cs h

-- neither of two lists has a conflict where their sum has none
no_conflict_both : (t : List Assigned) (cs ds : List (List Literal)) → has_conflict t cs ≡ false → has_conflict t ds ≡ false → has_conflict t (cs ++ ds) ≡ false
no_conflict_both t cs ds h k = list_any-append (list_all (is_false t)) cs ds ∙ ap (λ b. b || has_conflict t ds) h ∙ k

pub kept_stays_with_more : KeptStaysWithMore
kept_stays_with_more cs more [] h k = tt
kept_stays_with_more cs more (Decided l ∷ t) h k = absurd h
kept_stays_with_more cs more (Because i l ∷ t) h k = (
  no_conflict_both t cs more h.0 k,
  unit_stays t cs more 0 (i, l) h.1,
  kept_stays_with_more cs more t h.2 (none_falsified_before (Because i l) t more k),
)

pub kept_stays_without : KeptStaysWithout
kept_stays_without cs more [] h k = tt
kept_stays_without cs more (Decided l ∷ t) h k = absurd h
kept_stays_without cs more (Because i l ∷ t) h k =
    let parts = or_parts (has_conflict t cs) (has_conflict t more) (sym (list_any-append (list_all (is_false t)) cs more) ∙ h.0) in
    let lt : i < length cs = k.0 in (
      parts.0,
      unit_before t cs more 0 (i, l) (let less : i < 0 + length cs = omega arith in less) h.1,
      kept_stays_without cs more t h.2 k.1,
    )

-- ---- what holds of the states that the machine reaches

slice_behind : (cs ds : List (List Literal)) (i : ℕ) → i < length cs → slice_index_or (cs ++ ds) i [] ≡ slice_index_or cs i []
slice_behind [] ds i h = absurd (omega arith)
slice_behind (c ∷ cs) ds zero h = refl
slice_behind (c ∷ cs) ds (suc i) h = slice_behind cs ds i (omega arith)

pub kept_is_reached : KeptIsReached
kept_is_reached cs more n [] below no_repeat h = record { distinct = tt; reasons = tt; below = below; no_repeat = no_repeat }
kept_is_reached cs more n (Decided l ∷ t) below no_repeat h = absurd h
kept_is_reached cs more n (Because i l ∷ t) below no_repeat h =
    unit_reached n (probed cs more t) (i, l) (kept_is_reached cs more n t below no_repeat h.2) (unit_stays t cs more 0 (i, l) h.1)

-- ---- the search goes on

kept_step : (n : ℕ) (cs : List (List Literal)) (i : ℕ) (l : Literal) (t : List Assigned) → has_conflict t cs ≡ false → first_unit t 0 cs ≡ Some (i, l)
    → step n (state_with cs t) ≡ Continues 1 (state_with cs (Because i l ∷ t))
unfolding step
kept_step n cs i l t hc hu =
    ap (conflict_or_unit_step n (state_with cs t)) (no_first t cs 0 hc) ∙ ap (unit_step n (state_with cs t)) hu

kept_steps : (n k : ℕ) (cs : List (List Literal)) (i : ℕ) (l : Literal) (t : List Assigned) → has_conflict t cs ≡ false → first_unit t 0 cs ≡ Some (i, l)
    → end_within n (suc k) (state_with cs t) ≡ with_cost 1 (end_within n k (state_with cs (Because i l ∷ t)))
unfolding end_within
kept_steps n k cs i l t hc hu = ap (λ x. end_after x (end_within n k)) (kept_step n cs i l t hc hu)

with_cost-zero : (o : Option Ended) → with_cost 0 o ≡ o
with_cost-zero None = refl
with_cost-zero (Some e) = let same : 0 + e.cost ≡ e.cost = omega arith in ap (λ c. Some (record { end = e.end; cost = c })) same

with_cost-sum : (a b : ℕ) (o : Option Ended) → with_cost a (with_cost b o) ≡ with_cost (a + b) o
with_cost-sum a b None = refl
with_cost-sum a b (Some e) = let same : a + (b + e.cost) ≡ a + b + e.cost = omega arith in ap (λ c. Some (record { end = e.end; cost = c })) same

pub search_goes_on_from_kept : SearchGoesOnFromKept
search_goes_on_from_kept cs n k [] h =
    let same : 0 + k ≡ k = omega arith in
    ap (λ j. end_within n j (start cs)) same ∙ sym (with_cost-zero (end_within n k (start cs)))
search_goes_on_from_kept cs n k (Decided l ∷ t) h = absurd h
search_goes_on_from_kept cs n k (Because i l ∷ t) h =
    let steps : suc (length t) + k ≡ length t + suc k = omega arith in
    let costs : length t + 1 ≡ suc (length t) = omega arith in
    let o : Option Ended = end_within n k (state_with cs (Because i l ∷ t)) in
    ap (λ j. end_within n j (start cs)) steps
    ∙ search_goes_on_from_kept cs n (suc k) t h.2
    ∙ ap (with_cost (length t)) (kept_steps n k cs i l t h.0 h.1)
    ∙ with_cost-sum (length t) 1 o
    ∙ ap (λ c. with_cost c o) costs

-- what the entries cost is taken from the budget
within_rest : (m j : ℕ) (o : Option Ended) → end_within_cost (m + j) (with_cost m o) ≡ end_within_cost j o
within_rest m j None = refl
within_rest m j (Some e) = step (nat_le e.cost j) refl
  where
    step : (b : Bool) → nat_le e.cost j ≡ b → cond (nat_le (m + e.cost) (m + j)) (Some e.end) None ≡ cond (nat_le e.cost j) (Some e.end) None
    step true h = let le = leb-true e.cost j h in ap (λ b. cond b (Some e.end) None) (le-leb (m + e.cost) (m + j) (omega arith) ∙ sym h)
    step false h = let lt = leb-false e.cost j h in ap (λ b. cond b (Some e.end) None) (lt-leb (m + e.cost) (m + j) (omega arith) ∙ sym h)

no_end_zero : (n : ℕ) (s : State) → end_within n 0 s ≡ None
unfolding end_within
no_end_zero n s = refl

-- within fewer steps than the kept trail has entries there is no end
pub no_end_before : (n b : ℕ) (cs : List (List Literal)) (t : List Assigned) → IsKeptTrail cs t → b < length t → end_within n b (start cs) ≡ None
no_end_before n b cs t h lt = step (end_within n b (start cs)) refl
  where
    step : (o : Option Ended) → end_within n b (start cs) ≡ o → end_within n b (start cs) ≡ None
    step None e = e
    step (Some x) e =
        let sum : b + (length t - b) ≡ length t + 0 = omega arith in
        let more : end_within n (length t + 0) (start cs) ≡ Some x = subst (λ j. end_within n j (start cs) ≡ Some x) sum
        (end_within-more n b (length t - b) (start cs) x e) in
        let none : end_within n (length t + 0) (start cs) ≡ None = search_goes_on_from_kept cs n 0 t h
        ∙ ap (with_cost (length t)) (no_end_zero n (state_with cs t)) in
        absurd (let y : ⊥ = cc in y)

pub budget_goes_on : (cs : List (List Literal)) (n b : ℕ) (t : List Assigned) → IsKeptTrail cs t → end_within_budget cs n b
    ≡ end_from_within_budget (state_with cs t) n (b - length t)
budget_goes_on cs n b t h = ⊎_elim spent (λ le. enough (b - length t) (omega arith)) (cases_lt b (length t))
  where
    spent : b < length t → end_within_budget cs n b ≡ end_from_within_budget (state_with cs t) n (b - length t)
    spent lt =
        let zero_left : b - length t ≡ 0 = omega arith in
        ap (end_within_cost b) (no_end_before n b cs t h lt)
        ∙ sym (ap (end_within_cost 0) (no_end_zero n (state_with cs t)))
        ∙ ap (end_from_within_budget (state_with cs t) n) (sym zero_left)

    enough : (j : ℕ) → b ≡ length t + j → end_within_budget cs n b ≡ end_from_within_budget (state_with cs t) n (b - length t)
    enough j sum =
        let left : j ≡ b - length t = omega arith in
        ap (end_within_budget cs n) sum
        ∙ ap (end_within_cost (length t + j)) (search_goes_on_from_kept cs n j t h)
        ∙ within_rest (length t) j (end_within n j (state_with cs t))
        ∙ ap (end_from_within_budget (state_with cs t) n) left

pub probe_goes_on_from_kept : ProbeGoesOnFromKept
probe_goes_on_from_kept kept more n b t h k = budget_goes_on (kept ++ more) n b t (kept_stays_with_more kept more t h k)

-- ---- the refutation at a kept trail

conflict_ends : (n k : ℕ) (cs : List (List Literal)) (t : List Assigned) (i : ℕ) → level t ≡ 0 → position_from (list_all (is_false t)) 0 cs ≡ Some i
    → end_within n (suc k) (state_with cs t) ≡ Some (record {
      end = Refuted (conflict_line (state_with cs t) i ∷ []);
      cost = conflict_cost
          (conflict_line (state_with cs t) i);
    })
unfolding end_within step
conflict_ends n k cs t i zero_level h =
    let s : State = state_with cs t in
    let line : RefutationLine = conflict_line s i in
    ap (λ o. end_after (conflict_or_unit_step n s o) (end_within n k)) h
    ∙ ap (λ j. end_after (cond (eqb j 0) (Ends (conflict_cost line) (Refuted (line ∷ []))) (Continues (conflict_cost line) (state_after_conflict s line)))
    (end_within n k)) zero_level

empty_is_nil : (c : List Literal) → is_empty_clause c ≡ true → c ≡ []
empty_is_nil [] h = refl
empty_is_nil (l ∷ c) h = absurd (both_ways false refl h)

-- at level 0 the line of a conflict has no literal
line_is_empty : (n : ℕ) (s : State) (i : ℕ) → IsReached n s → level s.trail ≡ 0 → position_from (list_all (is_false s.trail)) 0 s.clauses ≡ Some i
    → (conflict_line s i).clause ≡ []
line_is_empty n s i r zero_level h =
    let count : current_count s.trail (conflict_line s i).clause ≡ 0 = (conflict_walked n s i r h).count ∙ ap (λ j. cond (eqb j 0) 0 1) zero_level in
    empty_is_nil _ (no_literal s.trail (conflict_line s i).clause count (all_current s.trail (conflict_line s i).clause zero_level))

cost_is_chain : (line : RefutationLine) → line.clause ≡ [] → conflict_cost line ≡ length line.chain
cost_is_chain line e = let none : length line.clause ≡ 0 = ap length e in omega arith

chain_begins : (s : State) (i : ℕ) → 1 ≤ length (conflict_line s i).chain
chain_begins s i = analysis_chain s.clauses s.trail (kept_count s.trail) (length s.trail) (first_line s i) (omega arith)

-- the end with a cost that the budget suffices for, or none
afforded : (m c b j : ℕ) (end : End) → b - m ≡ suc j → cond (nat_le c (suc j)) (Some end) None ≡ cond (nat_le (m + c) b) (Some end) None
afforded m c b j end left = step (nat_le c (suc j)) refl
  where
    step : (x : Bool) → nat_le c (suc j) ≡ x → cond (nat_le c (suc j)) (Some end) None ≡ cond (nat_le (m + c) b) (Some end) None
    step true h = let le = leb-true c (suc j) h in ap (λ x. cond x (Some end) None) (h ∙ sym (le-leb (m + c) b (omega arith)))
    step false h = let lt = leb-false c (suc j) h in ap (λ x. cond x (Some end) None) (h ∙ sym (lt-leb (m + c) b (omega arith)))

refuted_within : (n b : ℕ) (cs : List (List Literal)) (t : List Assigned) (i : ℕ) → IsKeptTrail cs t → position_from (list_all (is_false t)) 0 cs ≡ Some i
    → (conflict_line (state_with cs t) i).clause ≡ [] → end_within_budget cs n b
    ≡ cond (nat_le (length t + length (conflict_line (state_with cs t) i).chain) b) (Some (Refuted (conflict_line (state_with cs t) i ∷ []))) None
refuted_within n b cs t i h at e = budget_goes_on cs n b t h ∙ by_rest (b - length t) refl
  where
    by_rest : (j : ℕ) → b - length t ≡ j → end_from_within_budget (state_with cs t) n j
        ≡ cond (nat_le (length t + length (conflict_line (state_with cs t) i).chain) b) (Some (Refuted (conflict_line (state_with cs t) i ∷ []))) None
    by_rest zero left =
        let pos = chain_begins (state_with cs t) i in
        let line : RefutationLine = conflict_line (state_with cs t) i in
        ap (end_within_cost 0) (no_end_zero n (state_with cs t))
        ∙ sym (ap (λ x. cond x (Some (Refuted (line ∷ []))) None) (lt-leb (length t + length line.chain) b (omega arith)))
    by_rest (suc j) left =
        let line : RefutationLine = conflict_line (state_with cs t) i in
        ap (end_within_cost (suc j)) (conflict_ends n j cs t i (level_kept cs t h) at)
        ∙ ap (λ c. cond (nat_le c (suc j)) (Some (Refuted (line ∷ []))) None) (cost_is_chain line e)
        ∙ afforded (length t) (length line.chain) b j (Refuted (line ∷ [])) left

refuted_ends : (n : ℕ) (cs : List (List Literal)) (t : List Assigned) (i : ℕ) → IsKeptTrail cs t → position_from (list_all (is_false t)) 0 cs ≡ Some i
    → (conflict_line (state_with cs t) i).clause ≡ [] → end_within n (length t + suc 0) (start cs)
    ≡ Some (record { end = Refuted (conflict_line (state_with cs t) i ∷ []); cost = length t + length (conflict_line (state_with cs t) i).chain })
refuted_ends n cs t i h at e =
    let line : RefutationLine = conflict_line (state_with cs t) i in
    search_goes_on_from_kept cs n (suc 0) t h
    ∙ ap (with_cost (length t)) (conflict_ends n 0 cs t i (level_kept cs t h) at)
    ∙ ap (λ c. Some (record { end = Refuted (line ∷ []); cost = length t + c })) (cost_is_chain line e)

pub probe_is_refuted_at_kept : ProbeIsRefutedAtKept
probe_is_refuted_at_kept kept more n i b t below no_repeat h k at =
    let cs : List (List Literal) = kept ++ more in
    let whole = kept_stays_with_more kept more t h k in
    let reached = kept_is_reached kept more n t below no_repeat h in
    let empty = line_is_empty n (state_with cs t) i reached (level_kept kept t h) at in (
      empty,
      (length t + suc 0, refuted_ends n cs t i whole at empty),
      refuted_within n b cs t i whole at empty,
    )

-- ---- the line of a clause that a beginning of the trail falsifies

filter_every : (p : Literal → Bool) (c : List Literal) → AllByRecursion (λ m. p m ≡ true) c → filter p c ≡ c
filter_every p [] h = refl
filter_every p (l ∷ c) h = ap (λ b. cond b (l ∷ filter p c) (filter p c)) h.0 ∙ ap (λ d. l ∷ d) (filter_every p c h.1)

count_every : (p : Literal → Bool) (c : List Literal) → AllByRecursion (λ m. p m ≡ true) c → count_by p c ≡ length c
count_every p c h = sym (length-filter p c) ∙ ap length (filter_every p c h)

-- at level 0 all literals are of the current level, so the walk back is the same whatever the whole trail is
walk_at_zero : (cs : List (List Literal)) (whole other : List Assigned) → level whole ≡ 0 → level other ≡ 0
    → (keep : ℕ) (rest : List Assigned) (line : RefutationLine) → walk_back cs whole keep rest line ≡ walk_back cs other keep rest line
walk_at_zero cs whole other zw zo keep [] line = refl
walk_at_zero cs whole other zw zo keep (Decided l ∷ rest) line = walk_at_zero cs whole other zw zo keep rest line
walk_at_zero cs whole other zw zo keep (Because i l ∷ rest) line =
    let same : current_count whole line.clause ≡ current_count other line.clause =
    count_every (is_current whole) line.clause (all_current whole line.clause zw)
    ∙ sym (count_every (is_current other) line.clause (all_current other line.clause zo)) in
    ap (λ k. walk_back cs whole keep rest (cond (nat_lt keep k && has_literal line.clause (opposite l)) (resolved_line cs i l line) line)) same
    ∙ walk_at_zero cs whole other zw zo keep rest (cond (nat_lt keep (current_count other line.clause) && has_literal line.clause (opposite l))
    (resolved_line cs i l line) line)

dropped_assigned : (k : ℕ) (t : List Assigned) (v : ℕ) → is_assigned (drop k t) v ≡ true → is_assigned t v ≡ true
dropped_assigned zero t v h = h
dropped_assigned (suc k) [] v h = h
dropped_assigned (suc k) (a ∷ t) v h = or_right _ _ (dropped_assigned k t v h)

-- a later entry isn't met by a clause that was false before it
not_met : (n : ℕ) (a : Assigned) (k : ℕ) (t : List Assigned) (l : Literal) (c : List Literal) → IsDistinct n (a ∷ t) → assigned_literal a ≡ l
    → AllFalse (drop k t) c → has_literal c (opposite l) ≡ false
not_met n a k t l c d is f =
    false_from_ne_true _ (λ has.
    let falsified : is_false (drop k t) (opposite l) ≡ true = each_has (λ m. is_false (drop k t) m ≡ true) c (opposite l) f has in
    let there : is_assigned (drop k t) (variable_of (opposite l)) ≡ true = false_is_assigned (drop k t) (opposite l) falsified in
    both_ways _ d.1 (subst (λ v. is_assigned t v ≡ true) (variable_of-opposite l ∙ ap variable_of (sym is))
    (dropped_assigned k t (variable_of (opposite l)) there)))

and_false : (b : Bool) → (b && false) ≡ false
and_false true = refl
and_false false = refl

-- the walk back passes by what was assigned later
walk_passes : (n : ℕ) (cs : List (List Literal)) (whole : List Assigned) (keep k : ℕ) (t : List Assigned) (line : RefutationLine) → IsDistinct n t
    → AllFalse (drop k t) line.clause → walk_back cs whole keep t line ≡ walk_back cs whole keep (drop k t) line
walk_passes n cs whole keep zero t line d f = refl
walk_passes n cs whole keep (suc k) [] line d f = refl
walk_passes n cs whole keep (suc k) (Decided l ∷ t) line d f = walk_passes n cs whole keep k t line d.2 f
walk_passes n cs whole keep (suc k) (Because i l ∷ t) line d f =
    let b : Bool = nat_lt keep (current_count whole line.clause) in
    ap (λ x. walk_back cs whole keep t (cond (b && x) (resolved_line cs i l line) line)) (not_met n (Because i l) k t l line.clause d refl f)
    ∙ ap (λ x. walk_back cs whole keep t (cond x (resolved_line cs i l line) line)) (and_false b)
    ∙ walk_passes n cs whole keep k t line d.2 f

dropped_true : (k : ℕ) (t : List Assigned) (l : Literal) → is_true (drop k t) l ≡ true → is_true t l ≡ true
dropped_true zero t l h = h
dropped_true (suc k) [] l h = h
dropped_true (suc k) (a ∷ t) l h = or_right _ _ (dropped_true k t l h)

dropped_false : (k : ℕ) (t : List Assigned) (c : List Literal) → AllFalse (drop k t) c → AllFalse t c
dropped_false k t [] f = tt
dropped_false k t (l ∷ c) f = (dropped_true k t (opposite l) f.0, dropped_false k t c f.1)

each_number : (P : List Literal → Type 0) (cs : List (List Literal)) (i : ℕ) → AllByRecursion P cs → i < length cs → P (slice_index_or cs i [])
each_number P [] i h lt = absurd (omega arith)
each_number P (c ∷ cs) zero h lt = h.0
each_number P (c ∷ cs) (suc i) h lt = each_number P cs i h.1 (omega arith)

keeps_none : (t : List Assigned) → level t ≡ 0 → kept_count t ≡ 0
keeps_none t h = ap (λ j. cond (eqb j 0) 0 1) h

-- the analysis of a clause that is false at level 0 begins
pub begins_at_zero : (n : ℕ) (s : State) (i : ℕ) → IsReached n s → level s.trail ≡ 0 → i < length s.clauses → AllFalse s.trail (slice_index_or s.clauses i [])
    → Begins n s i
begins_at_zero n s i r zero_level within f =
    record {
      within = within;
      keeps = inr (keeps_none s.trail zero_level, zero_level);
      walk = record {
        clause = record {
          no_repeat = each_number HasNoRepeat s.clauses i r.no_repeat within;
          below = each_number
              (ClauseBelow n) s.clauses i r.below within;
          falsified = f;
        };
        enough = let none = keeps_none s.trail zero_level in omega arith;
        ahead = inr (f, refl);
      };
    }

pub line_of_beginning_is_line : LineOfBeginningIsLine
line_of_beginning_is_line kept more n i k t below no_repeat h within f =
    let cs : List (List Literal) = kept ++ more in
    let u : List Assigned = drop k t in
    let hu : IsKeptTrail kept u = kept_begins_kept kept t k h in
    let zt = level_kept kept t h in
    let zu = level_kept kept u hu in
    let rt = kept_is_reached kept more n t below no_repeat h in
    let ru = kept_is_reached kept more n u below no_repeat hu in
    let fu : AllFalse u (slice_index_or cs i []) = all_false u (slice_index_or cs i []) f in
    let ft : AllFalse t (slice_index_or cs i []) = dropped_false k t (slice_index_or cs i []) fu in
    let line : RefutationLine = first_line (state_with cs t) i in
    conflict_line-is n (state_with cs t) i rt (begins_at_zero n (state_with cs t) i rt zt within ft)
    ∙ walk_passes n cs t (kept_count t) k t line rt.distinct fu
    ∙ walk_at_zero cs t u zt zu (kept_count t) u line
    ∙ ap (λ j. walk_back cs u j u line) (keeps_none t zt ∙ sym (keeps_none u zu))
    ∙ sym (conflict_line-is n (state_with cs u) i ru (begins_at_zero n (state_with cs u) i ru zu within fu))

-- ---- the shortest beginning that falsifies a clause

place_within : (t : List Assigned) (l : Literal) → place_against t l ≤ length t
place_within [] l = omega arith
place_within (a ∷ t) l = step (place_within t l) (same_literal (opposite l) (assigned_literal a))
  where
    step : place_against t l ≤ length t → (b : Bool) → cond b (suc (length t)) (place_against t l) ≤ suc (length t)
    step go true = omega arith
    step go false = omega arith

and_true : (b : Bool) → b ≡ (b && true)
and_true true = refl
and_true false = refl

false_from_place : (n k : ℕ) (t : List Assigned) (l : Literal) → IsDistinct n t → is_false (drop k t) l
    ≡ (is_false t l && nat_le (place_against t l) (length t - k))
false_from_place n zero t l d =
    let within = place_within t l in
    and_true (is_false t l) ∙ ap (λ b. is_false t l && b) (sym (le-leb (place_against t l) (length t - 0) (omega arith)))
false_from_place n (suc k) [] l d = refl
false_from_place n (suc k) (a ∷ t) l d = step (same_literal (opposite l) (assigned_literal a)) refl (false_from_place n k t l d.2)
  where
    less : suc (length t) - suc k ≡ length t - k
    less = omega arith

    step : (b : Bool) → same_literal (opposite l) (assigned_literal a) ≡ b → is_false (drop k t) l ≡ (is_false t l && nat_le (place_against t l) (length t - k))
        → is_false (drop k t) l ≡ ((b || is_false t l) && nat_le (cond b (suc (length t)) (place_against t l)) (suc (length t) - suc k))
    step true e go =
        let is : variable_of l ≡ variable_of (assigned_literal a) = sym (variable_of-opposite l)
        ∙ ap variable_of (same_literal-true (opposite l) (assigned_literal a) e) in
        let free : is_false t l ≡ false = false_from_ne_true _ (λ f. both_ways _ d.1 (subst (λ v. is_assigned t v ≡ true) is (false_is_assigned t l f))) in
        go ∙ ap (λ b. b && nat_le (place_against t l) (length t - k)) free ∙ sym (lt-leb (suc (length t)) (suc (length t) - suc k) (omega arith))
    step false e go = go ∙ ap (λ m. is_false t l && nat_le (place_against t l) m) (sym less)

max_within : (a b m : ℕ) → nat_le (max a b) m ≡ (nat_le a m && nat_le b m)
max_within a b m = step (nat_le a m) (nat_le b m) refl refl
  where
    step : (x y : Bool) → nat_le a m ≡ x → nat_le b m ≡ y → nat_le (max a b) m ≡ (nat_le a m && nat_le b m)
    step true true ea eb =
        let la = leb-true a m ea in
        let lb = leb-true b m eb in
        le-leb (max a b) m (max-le la lb) ∙ sym (ap (λ x. x && nat_le b m) ea ∙ eb)
    step true false ea eb =
        let lb = leb-false b m eb in
        let more = le-max_right a b in
        lt-leb (max a b) m (omega arith) ∙ sym (ap (λ x. x && nat_le b m) ea ∙ eb)
    step false y ea eb =
        let la = leb-false a m ea in
        let more = le-max_left a b in
        lt-leb (max a b) m (omega arith) ∙ sym (ap (λ x. x && nat_le b m) ea)

both_parts : (f p g q : Bool) → ((f && p) && (g && q)) ≡ ((f && g) && (p && q))
both_parts true true g q = refl
both_parts true false true q = refl
both_parts true false false q = refl
both_parts false p g q = refl

pub falsified_from_its_place : FalsifiedFromItsPlace
falsified_from_its_place n k t [] d = sym (le-leb 0 (length t - k) (omega arith))
falsified_from_its_place n k t (l ∷ c) d =
    let m : ℕ = length t - k in
    ap (λ b. b && list_all (is_false (drop k t)) c) (false_from_place n k t l d)
    ∙ ap (λ b. (is_false t l && nat_le (place_against t l) m) && b) (falsified_from_its_place n k t c d)
    ∙ both_parts (is_false t l) (nat_le (place_against t l) m) (list_all (is_false t) c) (nat_le (latest_place t c) m)
    ∙ ap (λ b. (is_false t l && list_all (is_false t) c) && b) (sym (max_within (place_against t l) (latest_place t c) m))

-- ---- the first falsified clause

latest_within : (t : List Assigned) (c : List Literal) → latest_place t c ≤ length t
latest_within t [] = omega arith
latest_within t (l ∷ c) = max-le (place_within t l) (latest_within t c)

-- where some clause has only false literals there is one with a number
pub record ConflictAt (t : List Assigned) (cs : List (List Literal)) : Type 0 where
  pub number : ℕ
  pub within : number < length cs
  pub falsified : list_all (is_false t) (slice_index_or cs number []) ≡ true

conflict_at : (t : List Assigned) (cs : List (List Literal)) → has_conflict t cs ≡ true → ConflictAt t cs
conflict_at t [] h = absurd (both_ways false refl h)
conflict_at t (c ∷ cs) h = step (list_all (is_false t) c) refl h (λ e. conflict_at t cs e)
  where
    step : (b : Bool) → list_all (is_false t) c ≡ b → (b || has_conflict t cs) ≡ true → (has_conflict t cs ≡ true → ConflictAt t cs) → ConflictAt t (c ∷ cs)
    step true e h go = record { number = 0; within = omega arith; falsified = e }
    step false e h go =
        let later = go h in
        let within = later.within in
        record { number = suc later.number; within = omega arith; falsified = later.falsified }

-- the first place at which a test passes, where it passes at none before
first_at : (p : List Literal → Bool) (cs : List (List Literal)) (k i : ℕ) → i < length cs → p (slice_index_or cs i []) ≡ true
    → ((j : ℕ) → j < i → p (slice_index_or cs j []) ≡ false) → position_from p k cs ≡ Some (k + i)
first_at p [] k i lt h before = absurd (omega arith)
first_at p (c ∷ cs) k zero lt h before =
    let same : k ≡ k + 0 = omega arith in
    ap (λ b. cond b (Some k) (position_from p (k + 1) cs)) h ∙ ap Some same
first_at p (c ∷ cs) k (suc i) lt h before =
    let same : k + 1 + i ≡ k + suc i = omega arith in
    ap (λ b. cond b (Some k) (position_from p (k + 1) cs)) (before 0 (omega arith))
    ∙ first_at p cs (k + 1) i (omega arith) h (λ j less. before (suc j) (omega arith))
    ∙ ap Some same

-- the beginning up to a place has that length
beginning_length : (t : List Assigned) (place : ℕ) → place ≤ length t → length (drop (length t - place) t) ≡ place
beginning_length t place le = length-drop (length t - place) t ∙ (let sum : length t - (length t - place) ≡ place = omega (arith, le) in sum)

-- what a beginning of a trail falsifies has its place in it
begins_by_place : (n : ℕ) (t : List Assigned) (len : ℕ) (c : List Literal) → IsDistinct n t → len ≤ length t → list_all (is_false (drop (length t - len) t)) c
    ≡ true → (list_all (is_false t) c ≡ true) × (latest_place t c ≤ len)
begins_by_place n t len c d le h =
    let parts = and_parts (list_all (is_false t) c) (nat_le (latest_place t c) (length t - (length t - len)))
    (sym (falsified_from_its_place n (length t - len) t c d) ∙ h) in
    let low = leb-true (latest_place t c) (length t - (length t - len)) parts.1 in
    (parts.0, omega (arith, low, le))

place_begins : (n : ℕ) (t : List Assigned) (len : ℕ) (c : List Literal) → IsDistinct n t → len ≤ length t → list_all (is_false t) c ≡ true
    → latest_place t c ≤ len → list_all (is_false (drop (length t - len) t)) c ≡ true
place_begins n t len c d le h low =
    falsified_from_its_place n (length t - len) t c d
    ∙ ap (λ b. b && nat_le (latest_place t c) (length t - (length t - len))) h
    ∙ le-leb (latest_place t c) (length t - (length t - len)) (omega (arith, low, le))

drop-one_more : (k : ℕ) (t : List Assigned) (a : Assigned) (u : List Assigned) → drop k t ≡ a ∷ u → drop (suc k) t ≡ u
drop-one_more zero [] a u h = absurd (let x : ⊥ = cc in x)
drop-one_more zero (b ∷ t) a u h = cc
drop-one_more (suc k) [] a u h = absurd (let x : ⊥ = cc in x)
drop-one_more (suc k) (b ∷ t) a u h = drop-one_more k t a u h

-- before the place of the first falsified clause none is falsified
none_before_place : (n : ℕ) (cs : List (List Literal)) (t : List Assigned) (place number : ℕ) → IsDistinct n t → place ≤ length t
    → IsFirstFalsified cs t place number → (u : List Assigned) → drop (length t - place) t ≡ u → NoneFalsifiedBefore u cs
none_before_place n cs t place number d le f [] is = tt
none_before_place n cs t place number d le f (a ∷ u) is =
    false_from_ne_true _ (λ some.
    let long : suc (length u) ≡ place = sym (ap length is) ∙ beginning_length t place le in
    let later : drop (length t - length u) t ≡ u = ap (λ k. drop k t) (let e : length t - length u ≡ suc (length t - place) = omega (arith, long, le) in e)
    ∙ drop-one_more (length t - place) t a u is in
    let at = conflict_at u cs some in
    let c : List Literal = slice_index_or cs at.number [] in
    let low = begins_by_place n t (length u) c d (omega (arith, long, le)) (ap (λ x. list_all (is_false x) c) later ∙ at.falsified) in
    let few = low.1 in
    ⊎_elim (λ lt. omega (arith, lt, few, long)) (λ same. let e = same.0 in omega (arith, e, few, long)) (f.least at.number at.within low.0))

none_falsified_behind : (t : List Assigned) (cs ds : List (List Literal)) → NoneFalsifiedBefore t (cs ++ ds) → NoneFalsifiedBefore t ds
none_falsified_behind [] cs ds h = tt
none_falsified_behind (a ∷ t) cs ds h = (or_parts (has_conflict t cs) (has_conflict t ds) (sym (list_any-append (list_all (is_false t)) cs ds) ∙ h)).1

first_is_lowest : (n : ℕ) (cs : List (List Literal)) (t : List Assigned) (place number : ℕ) → IsDistinct n t → place ≤ length t
    → IsFirstFalsified cs t place number → position_from (list_all (is_false (drop (length t - place) t))) 0 cs ≡ Some number
first_is_lowest n cs t place number d le f =
    let u : List Assigned = drop (length t - place) t in
    let same : 0 + number ≡ number = omega arith in
    let here : latest_place t (slice_index_or cs number []) ≤ place = (let e = f.placed in omega (arith, e)) in
    first_at (list_all (is_false u)) cs 0 number f.within (place_begins n t place (slice_index_or cs number []) d le f.falsified here)
    (λ j less. false_from_ne_true _ (λ bad.
    let low = begins_by_place n t place (slice_index_or cs j []) d le bad in
    let few = low.1 in
    let lt = f.within in
    ⊎_elim (λ over. omega (arith, over, few)) (λ e. let most = e.1 in omega (arith, most, less)) (f.least j (omega (arith, less, lt)) low.0)))
    ∙ ap Some same

pub probe_is_refuted_at_its_place : ProbeIsRefutedAtItsPlace
probe_is_refuted_at_its_place kept more n place number b t below no_repeat h f =
    let cs : List (List Literal) = kept ++ more in
    let k : ℕ = length t - place in
    let d : IsDistinct n t = (kept_is_reached kept more n t below no_repeat h).distinct in
    let le : place ≤ length t = (let most = latest_within t (slice_index_or cs number []) in let e = f.placed in omega (arith, most, e)) in
    let hu : IsKeptTrail kept (drop k t) = kept_begins_kept kept t k h in
    let none : NoneFalsifiedBefore (drop k t) more = none_falsified_behind (drop k t) kept more
    (none_before_place n cs t place number d le f (drop k t) refl) in
    let refuted = probe_is_refuted_at_kept kept more n number b (drop k t) below no_repeat hu none (first_is_lowest n cs t place number d le f) in
    let here : latest_place t (slice_index_or cs number []) ≤ place = (let e = f.placed in omega (arith, e)) in
    let begun = place_begins n t place (slice_index_or cs number []) d le f.falsified here in
    let same : conflict_line (probed kept more (drop k t)) number
    ≡ conflict_line (probed kept more t) number = sym (line_of_beginning_is_line kept more n number k t below no_repeat h f.within begun) in
    let long : length (drop k t) ≡ place = beginning_length t place le in
    subst (λ line. (line.clause ≡ []) × MachineEnds cs n (record { end = Refuted (line ∷ []); cost = place + length line.chain })
    × (end_within_budget cs n b ≡ cond (nat_le (place + length line.chain) b) (Some (Refuted (line ∷ []))) None)) same
    (subst (λ m. ((conflict_line (probed kept more (drop k t)) number).clause ≡ [])
    × MachineEnds cs n (record {
      end = Refuted (conflict_line (probed kept more (drop k t)) number ∷ []);
      cost = m + length
          (conflict_line (probed kept more (drop k t)) number).chain;
    })
    × (end_within_budget cs n b ≡ cond (nat_le (m + length (conflict_line (probed kept more (drop k t)) number).chain) b)
    (Some (Refuted (conflict_line (probed kept more (drop k t)) number ∷ []))) None)) long refuted)

pub none_before : (t : List Assigned) (cs : List (List Literal)) → has_conflict t cs ≡ false → NoneFalsifiedBefore t cs
none_before [] cs h = tt
none_before (a ∷ t) cs h = no_earlier_conflict a t cs h

pub probe_goes_on_where_none_is_falsified : ProbeGoesOnWhereNoneIsFalsified
probe_goes_on_where_none_is_falsified kept more n b t h none = probe_goes_on_from_kept kept more n b t h (none_before t more none)
