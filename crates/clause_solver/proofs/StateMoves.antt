-- A kept state in another place, over another number of variables, and with more clauses.
use Rattle.std.proofs.Common.{◌≡◌, ℕ, zero, suc, ◌+◌, ◌-◌, ◌*◌, min, ◌<◌, ◌≤◌, ◌^◌, Bool, true, false, cond, ◌||◌, List, [], ◌∷◌, ◌++◌, length, get_or, take}
use Rattle.std.proofs.Common.{map, Option}
use Rattle.std.proofs.Common.{Some, None, refl, sym}
use Rattle.std.proofs.Common.{ap, ◌∙◌, subst, inl, inr, ⊎_elim, arith}
use Rattle.std.specs.List.{list_all, position_from, AllByRecursion}
use Rattle.std.proofs.lemmas.Bool.{both_ways, cases_lt, or_left, or_right}
use Rattle.std.proofs.lemmas.List.{get_or_past}
use Rattle.cqe_base.specs.Literal.{Literal, variable_of, has_literal, ClauseBelow, ClausesBelow, HaveNoRepeat}
use Rattle.cqe_base.specs.Machine.{Assigned, Because, State, is_false, first_unit, end_within, end_within_budget}
use Rattle.cqe_base.specs.MachineStates.{IsDistinct, IsReached}
use Rattle.cqe_base.specs.KeptTrail.{has_conflict, IsKeptTrail, state_with, end_from_within_budget}
use Rattle.cqe_base.proofs.ClauseTruth.{same_literal-same}
use Rattle.cqe_base.proofs.Analysis.{each_at}
use Rattle.cqe_base.proofs.MachineRules.{each_has, unit_reached}
use Rattle.cqe_base.proofs.KeptTrails.{kept_stays_with_more, none_before, budget_goes_on}
use Rattle.clause_store.specs.PlainLines.{line_of}
use Rattle.clause_solver.specs.Assigning.{Assigning}
use Rattle.clause_solver.specs.declared.indexed.Indexed.{Indexed}
use Rattle.clause_solver.specs.declared.watches.Pair.{Pair}
use Rattle.clause_solver.specs.declared.watches.Watch.{Watch}
use Rattle.clause_store.specs.Codes.{code_of}
use Rattle.clause_store.proofs.Marking.{code_of-below}
use Rattle.clause_solver.specs.Watching.{IsWatching, IsWatchOf, HaveSameLiterals, has_clause, no_pair, times_listed, times_watched}
use Rattle.clause_solver.specs.WatchesInside.{AreWatches, units_of}
use Rattle.clause_solver.specs.IndexedStates.{plain_of, IsLookedAt, IsIndexed}
use Rattle.clause_solver.specs.KeptStates.{IsKeptState, IsSettled}
use Rattle.clause_solver.proofs.KeptEnds.{kept_reached, same_reached, kept_cost}
use Rattle.clause_solver.specs.Costs.{cost_within, cost_within_budget}

-- ---- the same clauses with their literals in another order

each_index : (P : List Literal → Type 0) (cs : List (List Literal)) → ((i : ℕ) → i < length cs → P (get_or cs i [])) → AllByRecursion P cs
each_index P [] h = tt
each_index P (c ∷ cs) h = (h 0 (omega arith), each_index P cs (λ i lt. h (suc i) (omega arith)))

below_from_has : (n : ℕ) (c : List Literal) → ((l : Literal) → has_literal c l ≡ true → variable_of l < n) → ClauseBelow n c
below_from_has n [] h = tt
below_from_has n (x ∷ c) h = (h x (or_left _ _ (same_literal-same x)), below_from_has n c (λ l m. h l (or_right _ _ m)))

pub below_same : (n : ℕ) (cs ds : List (List Literal)) → HaveSameLiterals cs ds → ClausesBelow n cs → ClausesBelow n ds
below_same n cs ds same below = each_index (ClauseBelow n) ds (λ i lt. below_from_has n (get_or ds i [])
    (λ l m. each_has (λ x. variable_of x < n) (get_or cs i []) l (each_at (ClauseBelow n) cs i below tt) (same.same i l ∙ m)))

-- ---- watches over another number of variables

module _ (n m : ℕ) (t : List Assigned) (cs : List (List Literal)) (lists lists' : List (List Watch)) (pairs : List Pair) (units : List ℕ)
    (falsified : Option ℕ) (g : Literal) (before : IsWatching n t cs lists pairs units falsified g []) (low : ClausesBelow m cs)
    (room : length lists' ≡ 2 * m) (same : (k : ℕ) → k < 2 * m → get_or lists' k [] ≡ get_or lists k []) where
  listed_code : (i : ℕ) (l : Literal) → has_literal (get_or cs i []) l ≡ true → code_of l < 2 * m
  listed_code i l has = code_of-below m l (each_has (λ x. variable_of x < m) (get_or cs i []) l (each_at (ClauseBelow m) cs i low tt) has)

  still : (i : ℕ) (l : Literal) → has_literal (get_or cs i []) l ≡ true → has_clause (get_or lists (code_of l) []) i ≡ true
      → has_clause (get_or lists' (code_of l) []) i ≡ true
  still i l has h = subst (λ zs. has_clause zs i ≡ true) (sym (same (code_of l) (listed_code i l has))) h

  no_less : (k : ℕ) → 0 ≤ k
  no_less k = omega arith

  pub resized : IsWatching m t cs lists' pairs units falsified g []
  resized = record {
    below = low;
    lists_room = room;
    pairs_room = before.pairs_room;
    watches = λ l. elim (cases_lt (code_of l) (2 * m)) [
      | inl lo ↦ subst (AllByRecursion (IsWatchOf cs)) (sym (same (code_of l) lo)) (before.watches l)
      | inr hi ↦ subst (AllByRecursion (IsWatchOf cs)) (sym (get_or_past lists' (code_of l) [] (omega arith))) tt
    ];
    first_listed = λ i lt pos. still i (get_or pairs i no_pair).first
        (⊎_elim (λ w. w.first_in pos) (λ h. absurd (both_ways false refl h.0)) (before.each i lt)) (before.first_listed i lt pos);
    second_listed = λ i lt pos. still i (get_or pairs i no_pair).second
        (⊎_elim (λ w. w.second_in pos) (λ h. absurd (both_ways false refl h.0)) (before.each i lt)) (before.second_listed i lt pos);
    few = λ i l lt. elim (cases_lt (code_of l) (2 * m)) [
      | inl lo ↦ subst (λ zs. times_listed zs i ≤ times_watched (get_or pairs i no_pair) l) (sym (same (code_of l) lo)) (before.few i l lt)
      | inr hi ↦ subst (λ zs. times_listed zs i ≤ times_watched (get_or pairs i no_pair) l) (sym (get_or_past lists' (code_of l) [] (omega arith)))
          (no_less (times_watched (get_or pairs i no_pair) l))
    ];
    each = before.each;
    units_are = before.units_are;
    falsified_is = before.falsified_is;
  }

-- ---- a kept state that has moved

pub moved : (s x : Indexed) (n : ℕ) → IsKeptState s → x.assignment.variables ≡ n → x.assignment.trail ≡ s.assignment.trail → x.clauses ≡ s.clauses
    → (plain_of x).lines ≡ [] → n < 2 ^ 31 → ClausesBelow n s.clauses → AreWatches n s.assignment.trail x.watches
    → HaveSameLiterals s.clauses x.watches.sorted → x.resolvent ≡ record { variables = n; clause = [] } → IsKeptState x
moved s x n old variables trail clauses lines fits below watches same idle =
    let reached : IsReached n (plain_of x) = same_reached n (state_with s.clauses s.assignment.trail) (plain_of x) clauses trail
    (kept_reached n s.clauses s.assignment.trail below old.indexed.reached.no_repeat old.kept) in
    record {
      fits = subst (λ m. m < 2 ^ 31) (sym variables) fits;
      indexed = record {
        looked = record {
          watches = subst (λ m. AreWatches m x.assignment.trail x.watches) (sym variables)
              (subst (λ t. AreWatches n t x.watches) (sym trail) watches);
          same = subst (λ cs. HaveSameLiterals cs x.watches.sorted) (sym clauses) same;
          distinct = subst (λ m. IsDistinct m x.assignment.trail) (sym variables) reached.distinct;
          idle = idle ∙ ap (λ m. record { variables = m; clause = [] }) (sym variables);
        };
        reached = subst (λ m. IsReached m (plain_of x)) (sym variables) reached;
      };
      kept = subst (λ cs. IsKeptTrail cs x.assignment.trail) (sym clauses) (subst (IsKeptTrail s.clauses) (sym trail) old.kept);
      no_lines = lines;
    }

-- a settled state that has moved, with all watches looked at
pub moved_settled : (s x : Indexed) (n : ℕ) → IsSettled s → IsLookedAt x → x.assignment.variables ≡ n → x.assignment.trail ≡ s.assignment.trail
    → x.clauses ≡ s.clauses → (plain_of x).lines ≡ [] → n < 2 ^ 31 → ClausesBelow n s.clauses → units_of x.watches ≡ [] → x.watches.falsified ≡ None
    → IsSettled x
moved_settled s x n old looked variables trail clauses lines fits below units falsified = record {
  state = moved s x n old.state variables trail clauses lines fits below
      (subst (λ m. AreWatches m s.assignment.trail x.watches) variables (subst (λ t. AreWatches x.assignment.variables t x.watches) trail looked.watches))
      (subst (λ cs. HaveSameLiterals cs x.watches.sorted) clauses looked.same) (looked.idle ∙ ap (λ m. record { variables = m; clause = [] }) variables);
  calm = (λ i. has_conflict (trail i) (clauses i)) ∙ old.calm;
  no_units = units;
  no_falsified = falsified;
}

-- the trail of a kept state is one over each number of variables that its clauses allow
pub distinct_over : (n : ℕ) (s : Indexed) → IsKeptState s → ClausesBelow n s.clauses → IsDistinct n s.assignment.trail
distinct_over n s h below = (kept_reached n s.clauses s.assignment.trail below h.indexed.reached.no_repeat h.kept).distinct

-- the first of two lists
pub each_first : (P : List Literal → Type 0) (cs ds : List (List Literal)) → AllByRecursion P (cs ++ ds) → AllByRecursion P cs
each_first P [] ds h = tt
each_first P (c ∷ cs) ds h = (h.0, each_first P cs ds h.1)

pub each_second : (P : List Literal → Type 0) (cs ds : List (List Literal)) → AllByRecursion P (cs ++ ds) → AllByRecursion P ds
each_second P [] ds h = h
each_second P (c ∷ cs) ds h = each_second P cs ds h.1

pub take_first : (cs ds : List (List Literal)) → take (length cs) (cs ++ ds) ≡ cs
take_first [] ds = refl
take_first (c ∷ cs) ds = ap (λ xs. c ∷ xs) (take_first cs ds)

-- ---- steps of a kept state

-- no clause has only false literals where there is no first such
pub no_first_conflict : (t : List Assigned) (cs : List (List Literal)) (k : ℕ) → position_from (list_all (is_false t)) k cs ≡ None → has_conflict t cs ≡ false
no_first_conflict t [] k h = refl
no_first_conflict t (c ∷ cs) k h = step (list_all (is_false t) c) (no_first_conflict t cs (k + 1)) h
  where
    step : (b : Bool) → (position_from (list_all (is_false t)) (k + 1) cs ≡ None → has_conflict t cs ≡ false)
        → cond b (Some k) (position_from (list_all (is_false t)) (k + 1) cs) ≡ None → (b || has_conflict t cs) ≡ false
    step true go h = absurd (let x : ⊥ = cc in x)
    step false go h = go h

-- a look at the unit clauses
pub looked_on : (s x : Indexed) → IsKeptState s → x.assignment ≡ s.assignment → x.clauses ≡ s.clauses → x.lines ≡ s.lines → IsIndexed x → IsKeptState x
looked_on s x old assignment clauses lines indexed = record {
  fits = subst (λ (a : Assigning). a.variables < 2 ^ 31) (sym assignment) old.fits;
  indexed = indexed;
  kept = subst (λ (a : Assigning). IsKeptTrail x.clauses a.trail) (sym assignment)
      (subst (λ cs. IsKeptTrail cs s.assignment.trail) (sym clauses) old.kept);
  no_lines = ap (λ ls. map line_of ls.items) lines ∙ old.no_lines;
}

-- one more entry by the second rule
pub kept_unit : (s x : Indexed) (u : ℕ × Literal) → IsKeptState s → has_conflict s.assignment.trail s.clauses ≡ false
    → first_unit s.assignment.trail 0 s.clauses ≡ Some u
    → plain_of x ≡ record (plain_of s) { trail = Because u.0 u.1 ∷ s.assignment.trail } → x.assignment.variables ≡ s.assignment.variables
    → IsLookedAt x → IsKeptState x
kept_unit s x u old calm unit plain variables looked =
    let n = s.assignment.variables in
    let trail : x.assignment.trail ≡ Because u.0 u.1 ∷ s.assignment.trail = ap (λ (p : State). p.trail) plain in
    let clauses : x.clauses ≡ s.clauses = ap (λ (p : State). p.clauses) plain in
    record {
      fits = subst (λ m. m < 2 ^ 31) (sym variables) old.fits;
      indexed = record {
        looked = looked;
        reached = subst (λ m. IsReached m (plain_of x)) (sym variables)
            (subst (IsReached n) (sym plain) (unit_reached n (plain_of s) u old.indexed.reached unit));
      };
      kept = subst (λ cs. IsKeptTrail cs x.assignment.trail) (sym clauses) (subst (IsKeptTrail s.clauses) (sym trail) (calm, unit, old.kept));
      no_lines = ap (λ (p : State). p.lines) plain ∙ old.no_lines;
    }

-- more clauses, none of which the trail falsifies
pub kept_more : (s x : Indexed) (more : List (List Literal)) → IsKeptState s → has_conflict s.assignment.trail more ≡ false
    → x.clauses ≡ s.clauses ++ more → x.assignment.trail ≡ s.assignment.trail → x.assignment.variables ≡ s.assignment.variables
    → (plain_of x).lines ≡ (plain_of s).lines → IsLookedAt x
    → ClausesBelow s.assignment.variables (s.clauses ++ more) → HaveNoRepeat (s.clauses ++ more) → IsKeptState x
kept_more s x more old calm clauses trail variables lines looked below once =
    let n = s.assignment.variables in
    let t = s.assignment.trail in
    let kept : IsKeptTrail (s.clauses ++ more) t = kept_stays_with_more s.clauses more t old.kept (none_before t more calm) in
    record {
      fits = subst (λ m. m < 2 ^ 31) (sym variables) old.fits;
      indexed = record {
        looked = looked;
        reached = subst (λ m. IsReached m (plain_of x)) (sym variables)
            (same_reached n (state_with (s.clauses ++ more) t) (plain_of x) clauses trail (kept_reached n (s.clauses ++ more) t below once kept));
      };
      kept = subst (λ cs. IsKeptTrail cs x.assignment.trail) (sym clauses) (subst (IsKeptTrail (s.clauses ++ more)) (sym trail) kept);
      no_lines = lines ∙ old.no_lines;
    }

-- ---- what a search from a kept state finds

module _ (x : Indexed) (n budget left : ℕ) (kept : IsKeptState x) (rest : left ≡ budget - length x.assignment.trail) where
  plain : plain_of x ≡ state_with x.clauses x.assignment.trail
  plain = λ i. record { clauses = x.clauses; trail = x.assignment.trail; lines = kept.no_lines i }

  pub found_from : end_from_within_budget (plain_of x) n left ≡ end_within_budget x.clauses n budget
  found_from = (λ i. end_from_within_budget (plain i) n (rest i)) ∙ sym (budget_goes_on x.clauses n budget x.assignment.trail kept.kept)

  pub cost_from : min budget (length x.assignment.trail + cost_within left (end_within n left (plain_of x))) ≡ cost_within_budget x.clauses n budget
  cost_from = (λ i. min budget (length x.assignment.trail + cost_within (rest i) (end_within n (rest i) (plain i))))
      ∙ sym (kept_cost n budget x.clauses x.assignment.trail kept.kept)

-- ---- a place in a list that is cut

pub take_map_at : {X Y : Type 0} (f : X → Y) (d : Y) (n k : ℕ) (xs : List X) → k < n → get_or (map f (take n xs)) k d ≡ get_or (map f xs) k d
take_map_at f d zero k xs lt = absurd (omega arith)
take_map_at f d (suc n) k [] lt = refl
take_map_at f d (suc n) zero (x ∷ xs) lt = refl
take_map_at f d (suc n) (suc k) (x ∷ xs) lt = take_map_at f d n k xs (omega arith)
