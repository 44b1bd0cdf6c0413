-- Each step but the last raises a number below a bound, so the machine ends.
use Rattle.std.proofs.Common.{◌≡◌, ℕ, zero, suc, ◌+◌, ◌-◌, ◌*◌, ◌^◌, ◌<◌, ◌≤◌, Bool, true, false, cond, not, eqb, List, [], ◌∷◌, ◌++◌, map, Option, Some, None}
use Rattle.std.proofs.Common.{refl, sym, ap, ◌∙◌, subst, ⊎_elim, arith, length, length-append}
use Rattle.std.specs.Prelude.{nat_le, nat_lt, slice_index_or}
use Rattle.std.specs.List.{list_any, list_all, filter, find, position_from, AllByRecursion, IsDistinct as AreDistinct}
use Rattle.std.proofs.Math.Numerals.{add-one}
use Rattle.std.proofs.Math.Nat.{pow-suc, pow-le-pow_right, one-le-pow}
use Rattle.std.proofs.lemmas.Bool.{or_cases, or_parts, both_ways, eq-eqb, eqb-true, eqb-false, cond_both, leb-false}
use Rattle.std.proofs.lemmas.Map.Steps.{length-le_from_distinct_below}
use Rattle.cqe_base.specs.Literal.{Literal, Negative, variable_of, opposite, ClauseBelow, HasNoRepeat}
use Rattle.cqe_base.specs.MachineLaws.{MachineEndsWithinBound}
use Rattle.cqe_base.proofs.MachineRuns.{step_cost}
use Rattle.cqe_base.proofs.ClauseTruth.{opposite-opposite}
use Rattle.cqe_base.specs.Refutation.{RefutationLine}
use Rattle.cqe_base.specs.Machine.{Assigned, Decided, Because, assigned_literal, State, start, level, level_of, is_current, highest_level, cut, with_asserted}
use Rattle.cqe_base.specs.Machine.{state_after_conflict, is_true, is_false, current_count, kept_count, latest_against, resolved_with, analysis, conflict_line}
use Rattle.cqe_base.specs.Machine.{conflict_cost, conflict_step, decide_step, unit_step, conflict_or_unit_step, step, Step, Continues, Ends, Refuted, Ended}
use Rattle.cqe_base.specs.Machine.{end_after, with_cost, end_within, first_unit, first_unassigned}
use Rattle.cqe_base.specs.MachineStates.{is_assigned, IsDistinct, Walked, IsFalseClause, AllFalse, IsReached}
use Rattle.cqe_base.proofs.Trails.{not_both}
use Rattle.cqe_base.proofs.Analysis.{each_weaker, each_passes, each_differs, same_or_opposite}
use Rattle.cqe_base.proofs.MachineRules.{unit_reached, decide_reached}
use Rattle.cqe_base.proofs.Conflicts.{cut_level, highest-below, not_current_below, find_counted, learnt_reached, conflict_walked, positive}

-- the trail's number: its literals of each level are the digits, level 0 first, in base n + 1
abbrev pub number : ℕ → List Assigned → ℕ
number n [] = 0
number n (a ∷ t) = number n t + (n + 1) ^ (n - level (a ∷ t))

variables : List Assigned → List ℕ
variables t = map (λ a. variable_of (assigned_literal a)) t

differ : (v : ℕ) (t : List Assigned) → is_assigned t v ≡ false → AllByRecursion (λ y. eqb v y ≡ false) (map (λ a. variable_of (assigned_literal a)) t)
differ v [] h = tt
differ v (a ∷ t) h = let parts = or_parts (eqb v (variable_of (assigned_literal a))) _ h in (parts.0, differ v t parts.1)

are_distinct : (n : ℕ) (t : List Assigned) → IsDistinct n t → AreDistinct eqb (map (λ a. variable_of (assigned_literal a)) t)
unfolding AreDistinct
are_distinct n [] d = tt
are_distinct n (a ∷ t) d = (differ (variable_of (assigned_literal a)) t d.1, are_distinct n t d.2)

all_below : (n : ℕ) (t : List Assigned) → IsDistinct n t → (q : ℕ) → list_any (eqb q) (map (λ a. variable_of (assigned_literal a)) t) ≡ true → q < n
all_below n [] d q h = absurd (both_ways false refl h)
all_below n (a ∷ t) d q h =
    ⊎_elim (λ e. subst (λ x. x < n) (sym (eqb-true _ _ e)) d.0) (λ e. all_below n t d.2 q e) (or_cases _ _ h)

length_map : (t : List Assigned) → length (map (λ a. variable_of (assigned_literal a)) t) ≡ length t
length_map [] = refl
length_map (a ∷ t) = ap suc (length_map t)

-- a trail has at most n literals
pub trail_length : (n : ℕ) (t : List Assigned) → IsDistinct n t → length t ≤ n
trail_length n t d =
    let e = length_map t in
    let le = length-le_from_distinct_below (map (λ a. variable_of (assigned_literal a)) t) n (are_distinct n t d) (all_below n t d) in
    omega arith

pub level_length : (t : List Assigned) → level t ≤ length t
level_length [] = omega arith
level_length (Decided l ∷ t) = let h = level_length t in omega arith
level_length (Because i l ∷ t) = let h = level_length t in omega arith

weight_le : (n i j : ℕ) → i ≤ j → (n + 1) ^ i ≤ (n + 1) ^ j
weight_le n i j h = pow-le-pow_right (omega arith) h

number-le : (n : ℕ) (t : List Assigned) → number n t ≤ length t * (n + 1) ^ n
number-le n [] = omega arith
number-le n (a ∷ t) = let h = number-le n t in let w = weight_le n (n - level (a ∷ t)) n (omega arith) in omega arith

times_less : (x m n w : ℕ) → x ≤ m * w → m ≤ n → 1 ≤ w → x < w * (n + 1)
times_less x m n w hx hm hw = grind arith

next_power : (n i : ℕ) → (n + 1) ^ (i + 1) ≡ (n + 1) ^ i * (n + 1)
next_power n i = ap (λ m. (n + 1) ^ m) (add-one i) ∙ pow-suc (n + 1) i

-- the number is below the bound
pub number-below : (n : ℕ) (t : List Assigned) → IsDistinct n t → number n t < (n + 1) ^ (n + 1)
number-below n t d =
    let less = times_less (number n t) (length t) n ((n + 1) ^ n) (number-le n t) (trail_length n t d) (one-le-pow n (n + 1) (omega arith)) in
    let e = next_power n n in
    omega arith

cut_number : (n k : ℕ) (t : List Assigned) → number n t ≤ number n (cut k t) + length t * (n + 1) ^ (n - (k + 1))
cut_number n k [] = omega arith
cut_number n k (a ∷ t) =
    let h = cut_number n k t in
    cond_both (nat_le (level (a ∷ t)) k) (a ∷ t) (cut k t) (λ u. number n (a ∷ t) ≤ number n u + length (a ∷ t) * (n + 1) ^ (n - (k + 1)))
    (λ _. omega arith)
    (λ e. let lt = leb-false _ _ e in let w = weight_le n (n - level (a ∷ t)) (n - (k + 1)) (omega arith) in omega arith)

pub back_low : (t : List Assigned) (c : List Literal) → 0 < level t → highest_level t (filter (λ m. not (is_current t m)) c) < level t
back_low t c pos =
    highest-below t (level t) (filter (λ m. not (is_current t m)) c) pos
    (each_weaker (λ m. not (is_current t m) ≡ true) (λ m. level_of t m < level t) (λ m e. not_current_below t m e) (filter (λ m. not (is_current t m)) c)
    (each_passes (λ m. not (is_current t m)) c))

-- a learnt clause raises the number
pub number-learnt : (n : ℕ) (s : State) (line : RefutationLine) (l : Literal) → IsDistinct n s.trail → 0 < level s.trail
    → find (is_current s.trail) line.clause ≡ Some l → number n s.trail < number n (state_after_conflict s line).trail
number-learnt n s line l d pos h =
    let t : List Assigned = s.trail in
    let k : ℕ = highest_level t (filter (λ m. not (is_current t m)) line.clause) in
    let u : List Assigned = cut k t in
    let trail_is : with_asserted (length s.clauses) (find (is_current t) line.clause) u ≡ Because (length s.clauses) l ∷ u =
    ap (λ o. with_asserted (length s.clauses) o u) h in
    let low : k < level t = back_low t line.clause pos in
    let top = level_length t in
    let short = trail_length n t d in
    let exponent : n - k ≡ n - (k + 1) + 1 = omega arith in
    let power : (n + 1) ^ (n - k) ≡ (n + 1) ^ (n - (k + 1)) * (n + 1) = ap (λ i. (n + 1) ^ i) exponent ∙ next_power n (n - (k + 1)) in
    let dropped = cut_number n k t in
    let kept = cut_level k t in
    let weight = weight_le n (n - k) (n - level u) (omega arith) in
    let less = times_less (length t * (n + 1) ^ (n - (k + 1))) (length t) n ((n + 1) ^ (n - (k + 1))) (omega arith) short
    (one-le-pow (n - (k + 1)) (n + 1) (omega arith)) in
    let raised : number n t < number n (Because (length s.clauses) l ∷ u) = omega arith in
    subst (λ v. number n t < number n v) (sym trail_is) raised

-- what a step that goes on does: it leads to a reached state with a greater number
pub record Progress (n : ℕ) (s new : State) : Type 0 where
  pub reached : IsReached n new
  pub raised : number n s.trail < number n new.trail

pushed : (n : ℕ) (t : List Assigned) (a : Assigned) → number n t < number n (a ∷ t)
pushed n t a = let w = one-le-pow (n - level (a ∷ t)) (n + 1) (omega arith) in omega arith

decide_progress : (n : ℕ) (s new : State) (cost : ℕ) (o : Option ℕ) → first_unassigned s.trail n ≡ o → IsReached n s
    → position_from (list_all (is_false s.trail)) 0 s.clauses ≡ None → first_unit s.trail 0 s.clauses ≡ None → decide_step n s o ≡ Continues cost new
    → Progress n s new
decide_progress n s new cost None e r hc hu h = absurd (let x : ⊥ = cc in x)
decide_progress n s new cost (Some v) e r hc hu h =
    let same : record s { trail = Decided (Negative v) ∷ s.trail } ≡ new = cc in
    subst (Progress n s) same (record { reached = decide_reached n s v r hc hu e; raised = pushed n s.trail (Decided (Negative v)) })

unit_progress : (n : ℕ) (s new : State) (cost : ℕ) (o : Option (ℕ × Literal)) → first_unit s.trail 0 s.clauses ≡ o → IsReached n s
    → position_from (list_all (is_false s.trail)) 0 s.clauses ≡ None → unit_step n s o ≡ Continues cost new → Progress n s new
unit_progress n s new cost None e r hc h = decide_progress n s new cost (first_unassigned s.trail n) refl r hc e h
unit_progress n s new cost (Some u) e r hc h =
    let same : record s { trail = Because u.0 u.1 ∷ s.trail } ≡ new = cc in
    subst (Progress n s) same (record { reached = unit_reached n s u r e; raised = pushed n s.trail (Because u.0 u.1) })

conflict_by : (n : ℕ) (s new : State) (cost i : ℕ) (b : Bool) → eqb (level s.trail) 0 ≡ b → IsReached n s
    → Walked n s.trail (cond b 0 1) (conflict_line s i).clause
    → cond b (Ends (conflict_cost (conflict_line s i)) (Refuted (s.lines ++ conflict_line s i ∷ [])))
    (Continues (conflict_cost (conflict_line s i)) (state_after_conflict s (conflict_line s i))) ≡ Continues cost new → Progress n s new
conflict_by n s new cost i true e r w h = absurd (let x : ⊥ = cc in x)
conflict_by n s new cost i false e r w h =
    let line = conflict_line s i in
    let pos : 0 < level s.trail = positive (level s.trail) (eqb-false _ _ e) in
    let count = w.count in
    let found = find_counted (is_current s.trail) line.clause (omega arith) in
    let same : state_after_conflict s line ≡ new = cc in
    subst (Progress n s) same (record {
      reached = learnt_reached n s line found.0 r pos w found.1;
      raised = number-learnt n s line found.0 r.distinct pos found.1;
    })

rule_progress : (n : ℕ) (s new : State) (cost : ℕ) (o : Option ℕ) → position_from (list_all (is_false s.trail)) 0 s.clauses ≡ o → IsReached n s
    → conflict_or_unit_step n s o ≡ Continues cost new → Progress n s new
rule_progress n s new cost None e r h = unit_progress n s new cost (first_unit s.trail 0 s.clauses) refl r e h
rule_progress n s new cost (Some i) e r h = conflict_by n s new cost i (eqb (level s.trail) 0) refl r (conflict_walked n s i r e) h

-- each step that goes on makes progress
pub step_progress : (n : ℕ) (s new : State) (cost : ℕ) → IsReached n s → step n s ≡ Continues cost new → Progress n s new
unfolding step
step_progress n s new cost r h = rule_progress n s new cost _ refl r h

with_length : (clauses : List (List Literal)) (o : Option Assigned) (line : RefutationLine)
    → length (resolved_with clauses o line).chain ≤ length line.chain + 1
with_length clauses None line = omega arith
with_length clauses (Some (Decided l)) line = omega arith
with_length clauses (Some (Because i l)) line = let e = length-append line.chain (i ∷ []) in omega arith

-- the chain gets at most one number for each resolution
chain_length : (clauses : List (List Literal)) (trail : List Assigned) (keep times : ℕ) (line : RefutationLine)
    → length (analysis clauses trail keep times line).chain ≤ length line.chain + times
chain_length clauses trail keep zero line = omega arith
chain_length clauses trail keep (suc times) line =
    let next = resolved_with clauses (latest_against trail line.clause) line in
    let one = with_length clauses (latest_against trail line.clause) line in
    let h = chain_length clauses trail keep times next in
    cond_both (nat_lt keep (current_count trail line.clause)) (analysis clauses trail keep times next) line
    (λ x. length x.chain ≤ length line.chain + suc times) (λ _. omega arith) (λ _. omega arith)

apart_step : (n : ℕ) (t : List Assigned) (l m : Literal) (b : Bool) → eqb (variable_of l) (variable_of m) ≡ b → IsDistinct n t → is_false t l ≡ true
    → (m ≡ l → ⊥) → is_false t m ≡ true → eqb (variable_of l) (variable_of m) ≡ false
apart_step n t l m true e d fl ne fm =
    let turned : eqb (variable_of m) (variable_of l) ≡ true = eq-eqb _ _ (sym (eqb-true _ _ e)) in
    absurd (⊎_elim (λ same. ne same)
    (λ o. not_both n t l d (subst (λ x. is_true t x ≡ true) (ap opposite o ∙ opposite-opposite l) fm) fl)
    (same_or_opposite m l turned))
apart_step n t l m false e d fl ne fm = e

false_apart : (n : ℕ) (t : List Assigned) (l : Literal) (c : List Literal) → IsDistinct n t → is_false t l ≡ true → AllByRecursion (λ m. m ≡ l → ⊥) c
    → AllFalse t c → AllByRecursion (λ y. eqb (variable_of l) y ≡ false) (map variable_of c)
false_apart n t l [] d fl ne f = tt
false_apart n t l (m ∷ c) d fl ne f = (apart_step n t l m (eqb (variable_of l) (variable_of m)) refl d fl ne.0 f.0, false_apart n t l c d fl ne.1 f.1)

false_distinct : (n : ℕ) (t : List Assigned) (c : List Literal) → IsDistinct n t → HasNoRepeat c → AllFalse t c → AreDistinct eqb (map variable_of c)
unfolding AreDistinct
false_distinct n t [] d r f = tt
false_distinct n t (l ∷ c) d r f = (false_apart n t l c d f.0 (each_differs l c r.0) f.1, false_distinct n t c d r.1 f.1)

clause_below : (n : ℕ) (c : List Literal) → ClauseBelow n c → (q : ℕ) → list_any (eqb q) (map variable_of c) ≡ true → q < n
clause_below n [] b q h = absurd (both_ways false refl h)
clause_below n (l ∷ c) b q h = ⊎_elim (λ e. subst (λ x. x < n) (sym (eqb-true _ _ e)) b.0) (λ e. clause_below n c b.1 q e) (or_cases _ _ h)

length_variables : (c : List Literal) → length (map variable_of c) ≡ length c
length_variables [] = refl
length_variables (l ∷ c) = ap suc (length_variables c)

-- a false clause has at most n literals
false_length : (n : ℕ) (t : List Assigned) (c : List Literal) → IsDistinct n t → IsFalseClause n t c → length c ≤ n
false_length n t c d f =
    let e = length_variables c in
    let le = length-le_from_distinct_below (map variable_of c) n (false_distinct n t c d f.no_repeat f.falsified) (clause_below n c f.below) in
    omega arith

-- a conflict costs at most 2n + 1
conflict_cost_le : (n : ℕ) (s : State) (i keep : ℕ) → IsReached n s → Walked n s.trail keep (conflict_line s i).clause
    → conflict_cost (conflict_line s i) ≤ 2 * n + 1
conflict_cost_le n s i keep r w =
    let short = trail_length n s.trail r.distinct in
    let few = false_length n s.trail (conflict_line s i).clause r.distinct w.clause in
    let steps = chain_length s.clauses s.trail (kept_count s.trail) (length s.trail) (record { clause = slice_index_or s.clauses i []; chain = i ∷ [] }) in
    omega arith

conflict_step_cost_le : (n : ℕ) (s : State) (i : ℕ) → IsReached n s → position_from (list_all (is_false s.trail)) 0 s.clauses ≡ Some i
    → step_cost (conflict_step s i) ≤ 2 * n + 1
conflict_step_cost_le n s i r e =
    let le = conflict_cost_le n s i (kept_count s.trail) r (conflict_walked n s i r e) in
    let line = conflict_line s i in
    cond_both (eqb (level s.trail) 0) (Ends (conflict_cost line) (Refuted (s.lines ++ line ∷ [])))
    (Continues (conflict_cost line) (state_after_conflict s line)) (λ x. step_cost x ≤ 2 * n + 1) (λ _. le) (λ _. le)

decide_step_cost_le : (n : ℕ) (s : State) (o : Option ℕ) → step_cost (decide_step n s o) ≤ 2 * n + 1
decide_step_cost_le n s None = omega arith
decide_step_cost_le n s (Some v) = omega arith

unit_step_cost_le : (n : ℕ) (s : State) (o : Option (ℕ × Literal)) → step_cost (unit_step n s o) ≤ 2 * n + 1
unit_step_cost_le n s None = decide_step_cost_le n s (first_unassigned s.trail n)
unit_step_cost_le n s (Some u) = omega arith

rule_cost_le : (n : ℕ) (s : State) (o : Option ℕ) → position_from (list_all (is_false s.trail)) 0 s.clauses ≡ o → IsReached n s
    → step_cost (conflict_or_unit_step n s o) ≤ 2 * n + 1
rule_cost_le n s None e r = unit_step_cost_le n s (first_unit s.trail 0 s.clauses)
rule_cost_le n s (Some i) e r = conflict_step_cost_le n s i r e

-- a step costs at most 2n + 1
pub step_cost-le : (n : ℕ) (s : State) → IsReached n s → step_cost (step n s) ≤ 2 * n + 1
unfolding step
step_cost-le n s r = rule_cost_le n s _ refl r

-- the end that is reached in so many steps, and its whole cost
pub record EndsIn (n k : ℕ) (o : Option Ended) : Type 0 where
  pub ended : Ended
  pub is : o ≡ Some ended
  pub cost : ended.cost ≤ (2 * n + 1) * k

ends_by : (n k : ℕ) (x : Step) → step_cost x ≤ 2 * n + 1 → ((new : State) (cost : ℕ) → x ≡ Continues cost new → EndsIn n k (end_within n k new))
    → EndsIn n (suc k) (end_after x (end_within n k))
ends_by n k (Ends cost end) le go = record { ended = record { end = end; cost = cost }; is = refl; cost = omega arith }
ends_by n k (Continues cost new) le go =
    let rest = go new cost refl in
    let less = rest.cost in
    record { ended = record { end = rest.ended.end; cost = cost + rest.ended.cost }; is = ap (with_cost cost) rest.is; cost = omega arith }

-- from a reached state the machine ends before its number comes to the bound
pub reached_ends : (n k : ℕ) (s : State) → IsReached n s → (n + 1) ^ (n + 1) ≤ number n s.trail + k → EndsIn n k (end_within n k s)
unfolding end_within
reached_ends n zero s r h = let less = number-below n s.trail r.distinct in absurd (omega arith)
reached_ends n (suc k) s r h =
    ends_by n k (step n s) (step_cost-le n s r)
    (λ new cost e. let p = step_progress n s new cost r e in let more = p.raised in reached_ends n k new p.reached (omega arith))

pub machine_ends : MachineEndsWithinBound
machine_ends clauses n below no_repeat =
    let e = reached_ends n ((n + 1) ^ (n + 1)) (start clauses) (record { distinct = tt; reasons = tt; below = below; no_repeat = no_repeat }) (omega arith) in
    (e.ended, ((n + 1) ^ (n + 1), e.is), e.cost)
