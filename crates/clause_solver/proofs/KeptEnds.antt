-- Where a kept trail leads a search to.
use Rattle.std.proofs.Common.{◌≡◌, ℕ, ◌+◌, ◌-◌, ◌<◌, ◌≤◌, min, leb, Bool, true, false, cond, List, [], ◌∷◌, ◌++◌, length, get_or, Option, Some, None, refl}
use Rattle.std.proofs.Common.{sym, ap, ◌∙◌, subst, inl, inr, arith}
use Rattle.std.specs.Prelude.{nat_le}
use Rattle.std.proofs.Common.{append-nil}
use Rattle.std.proofs.lemmas.Bool.{cases_lt, leb-true, le-leb, lt-leb}
use Rattle.cqe_base.specs.Literal.{Literal, ClausesBelow, HaveNoRepeat}
use Rattle.cqe_base.specs.Refutation.{RefutationLine}
use Rattle.cqe_base.specs.Machine.{Assigned, State, start, conflict_line, Refuted, Ended, with_cost, end_within, MachineEnds}
use Rattle.cqe_base.specs.Machine.{end_within_cost}
use Rattle.cqe_base.specs.Machine.{end_within_budget}
use Rattle.cqe_base.specs.MachineStates.{IsReached}
use Rattle.cqe_base.specs.KeptTrail.{has_conflict, IsKeptTrail, IsFirstFalsified, state_with, probed}
use Rattle.cqe_base.proofs.Reached.{all_false}
use Rattle.cqe_base.proofs.Conflicts.{Begins, conflict_begins}
use Rattle.cqe_base.proofs.MachineRuns.{machine_has_one_end}
use Rattle.cqe_base.proofs.KeptTrails.{begins_at_zero, kept_is_reached, search_goes_on_from_kept, no_end_before}
use Rattle.cqe_base.proofs.KeptTrails.{probe_is_refuted_at_its_place}
use Rattle.clause_solver.specs.Costs.{cost_within, cost_within_budget}
use Rattle.clause_solver.specs.Lines.{IsAnalysable, state_at}
use Rattle.clause_solver.specs.KeptStates.{IsLeastFalsified}
use Rattle.clause_solver.specs.declared.falsified.Falsified.{Falsified}
use Rattle.clause_solver.proofs.FirstFalsified.{first_of_all}
use Rattle.clause_solver.proofs.Costs.{rest_within}

-- the analysis of a conflict begins
pub analysis_begins : (n : ℕ) (s : State) (i : ℕ) → IsReached n s → i < length s.clauses → IsAnalysable s i → Begins n s i
analysis_begins n s i r within (inl h) = conflict_begins n s i r h
analysis_begins n s i r within (inr h) = begins_at_zero n s i r h.0 within (all_false s.trail (get_or s.clauses i []) h.1)

-- what holds of a state that is reached holds of one with a kept trail
pub kept_reached : (n : ℕ) (cs : List (List Literal)) (t : List Assigned) → ClausesBelow n cs → HaveNoRepeat cs → IsKeptTrail cs t
    → IsReached n (state_with cs t)
kept_reached n cs t below once kept =
    subst (λ ds. IsReached n (state_with ds t)) (append-nil cs)
    (kept_is_reached cs [] n t (subst (ClausesBelow n) (sym (append-nil cs)) below) (subst HaveNoRepeat (sym (append-nil cs)) once) kept)

pub same_reached : (n : ℕ) (s s' : State) → s'.clauses ≡ s.clauses → s'.trail ≡ s.trail → IsReached n s → IsReached n s'
same_reached n s s' cs t r =
    let moved : IsReached n (state_with s'.clauses s'.trail) =
    subst (λ x. IsReached n (state_with x s'.trail)) (sym cs)
    (subst (λ x. IsReached n (state_with s.clauses x)) (sym t)
    (record { distinct = r.distinct; reasons = r.reasons; below = r.below; no_repeat = r.no_repeat })) in
    record { distinct = moved.distinct; reasons = moved.reasons; below = moved.below; no_repeat = moved.no_repeat }

-- ---- costs

cost_within-le : (budget : ℕ) (o : Option Ended) → cost_within budget o ≤ budget
cost_within-le budget None = omega arith
cost_within-le budget (Some e) = step (leb e.cost budget) refl
  where
    step : (b : Bool) → leb e.cost budget ≡ b → cond b e.cost budget ≤ budget
    step true h = leb-true e.cost budget h
    step false h = omega arith

-- the whole cost is that from the kept trail, and one for each of its entries
pub kept_cost : (n budget : ℕ) (cs : List (List Literal)) (t : List Assigned) → IsKeptTrail cs t
    → cost_within_budget cs n budget
    ≡ min budget (length t + cost_within (budget - length t) (end_within n (budget - length t) (state_with cs t)))
kept_cost n budget cs t kept = elim (cases_lt budget (length t)) [
  | inl less ↦ ap (cost_within budget) (no_end_before n budget cs t kept less) ∙ (let e : budget ≡ min budget (length t + rest) = omega arith in e)
  | inr enough ↦ ap (cost_within budget) (run enough) ∙ rest_within (length t) budget o enough ∙ within enough
]
  where
    o : Option Ended
    o = end_within n (budget - length t) (state_with cs t)

    rest : ℕ
    rest = cost_within (budget - length t) o

    run : length t ≤ budget → end_within n budget (start cs) ≡ with_cost (length t) o
    run le = let sum : budget ≡ length t + (budget - length t) = omega arith in
        ap (λ j. end_within n j (start cs)) sum ∙ search_goes_on_from_kept cs n (budget - length t) t kept

    within : length t ≤ budget → length t + rest ≡ min budget (length t + rest)
    within le = let low = cost_within-le (budget - length t) o in omega arith

-- an end that the machine has, as its cost within a budget
ended_cost : (n budget : ℕ) (cs : List (List Literal)) (e : Ended) → MachineEnds cs n e
    → end_within_budget cs n budget ≡ cond (nat_le e.cost budget) (Some e.end) None
    → cost_within_budget cs n budget ≡ cond (nat_le e.cost budget) e.cost budget
ended_cost n budget cs e ends found = step (end_within n budget (start cs)) refl
  where
    spent : (b : Bool) → None ≡ cond b (Some e.end) None → budget ≡ cond b e.cost budget
    spent true h = absurd (let x : ⊥ = cc in x)
    spent false h = refl

    step : (o : Option Ended) → end_within n budget (start cs) ≡ o → cost_within_budget cs n budget ≡ cond (nat_le e.cost budget) e.cost budget
    step None is = ap (cost_within budget) is ∙ spent (nat_le e.cost budget) (sym (ap (end_within_cost budget) is) ∙ found)
    step (Some f) is = ap (cost_within budget) is ∙ ap (λ (g : Ended). cond (leb g.cost budget) g.cost budget) (machine_has_one_end cs n f e (budget, is) ends)

-- ---- a refutation at its place

module _ (n place number budget : ℕ) (kept more : List (List Literal)) (t : List Assigned) (line : RefutationLine)
    (below : ClausesBelow n (kept ++ more)) (once : HaveNoRepeat (kept ++ more)) (trail : IsKeptTrail kept t)
    (first : IsFirstFalsified (kept ++ more) t place number)
    (is : line ≡ conflict_line (probed kept more t) number) where
  law : (line.clause ≡ []) × MachineEnds (kept ++ more) n (record { end = Refuted (line ∷ []); cost = place + length line.chain })
      × (end_within_budget (kept ++ more) n budget ≡ cond (nat_le (place + length line.chain) budget) (Some (Refuted (line ∷ []))) None)
  law = subst (λ (l : RefutationLine). (l.clause ≡ []) × MachineEnds (kept ++ more) n (record { end = Refuted (l ∷ []); cost = place + length l.chain })
      × (end_within_budget (kept ++ more) n budget ≡ cond (nat_le (place + length l.chain) budget) (Some (Refuted (l ∷ []))) None)) (sym is)
      (probe_is_refuted_at_its_place kept more n place number budget t below once trail first)

  costs : cost_within_budget (kept ++ more) n budget ≡ cond (nat_le (place + length line.chain) budget) (place + length line.chain) budget
  costs = ended_cost n budget (kept ++ more) (record { end = Refuted (line ∷ []); cost = place + length line.chain }) law.1 law.2

  pub refuted_found : place + length line.chain ≤ budget → end_within_budget (kept ++ more) n budget ≡ Some (Refuted (line ∷ []))
  refuted_found le = law.2 ∙ ap (λ b. cond b (Some (Refuted (line ∷ []))) None) (le-leb (place + length line.chain) budget le)

  pub refuted_cost : place + length line.chain ≤ budget → cost_within_budget (kept ++ more) n budget ≡ place + length line.chain
  refuted_cost le = costs ∙ ap (λ b. cond b (place + length line.chain) budget) (le-leb (place + length line.chain) budget le)

  pub refuted_spent : budget < place + length line.chain → end_within_budget (kept ++ more) n budget ≡ None
  refuted_spent lt = law.2 ∙ ap (λ b. cond b (Some (Refuted (line ∷ []))) None) (lt-leb (place + length line.chain) budget lt)

  pub refuted_spends : budget < place + length line.chain → cost_within_budget (kept ++ more) n budget ≡ budget
  refuted_spends lt = costs ∙ ap (λ b. cond b (place + length line.chain) budget) (lt-leb (place + length line.chain) budget lt)

-- ---- a refutation of a list that begins with the kept clauses

-- what holds of a state that is reached holds of the list under the kept trail
pub probe_reached : (n : ℕ) (kept more cs : List (List Literal)) (t : List Assigned) → cs ≡ kept ++ more → ClausesBelow n cs → HaveNoRepeat cs
    → IsKeptTrail kept t → IsReached n (state_at cs t)
probe_reached n kept more cs t e below once trail =
    subst (λ ds. IsReached n (state_with ds t)) (sym e)
    (kept_is_reached kept more n t (subst (ClausesBelow n) e below) (subst HaveNoRepeat e once) trail)

module _ (n budget : ℕ) (kept more cs : List (List Literal)) (e : cs ≡ kept ++ more) (t : List Assigned) (f : Falsified) (line : RefutationLine)
    (below : ClausesBelow n cs) (once : HaveNoRepeat cs) (trail : IsKeptTrail kept t) (calm : has_conflict t kept ≡ false)
    (h : IsLeastFalsified cs t (length kept) (length cs) f) (is : line ≡ conflict_line (state_at cs t) f.number) where
  first : IsFirstFalsified (kept ++ more) t f.place f.number
  first = first_of_all t kept more f calm (subst (λ ds. IsLeastFalsified ds t (length kept) (length ds) f) e h)

  line_is : line ≡ conflict_line (probed kept more t) f.number
  line_is = is ∙ ap (λ ds. conflict_line (state_at ds t) f.number) e

  pub found_at : f.place + length line.chain ≤ budget → end_within_budget cs n budget ≡ Some (Refuted (line ∷ []))
  found_at le = ap (λ ds. end_within_budget ds n budget) e
      ∙ refuted_found n f.place f.number budget kept more t line (subst (ClausesBelow n) e below) (subst HaveNoRepeat e once) trail first line_is le

  pub cost_at : f.place + length line.chain ≤ budget → cost_within_budget cs n budget ≡ f.place + length line.chain
  cost_at le = ap (λ ds. cost_within_budget ds n budget) e
      ∙ refuted_cost n f.place f.number budget kept more t line (subst (ClausesBelow n) e below) (subst HaveNoRepeat e once) trail first line_is le

  pub spent_at : budget < f.place + length line.chain → end_within_budget cs n budget ≡ None
  spent_at lt = ap (λ ds. end_within_budget ds n budget) e
      ∙ refuted_spent n f.place f.number budget kept more t line (subst (ClausesBelow n) e below) (subst HaveNoRepeat e once) trail first line_is lt

  pub spends_at : budget < f.place + length line.chain → cost_within_budget cs n budget ≡ budget
  spends_at lt = ap (λ ds. cost_within_budget ds n budget) e
      ∙ refuted_spends n f.place f.number budget kept more t line (subst (ClausesBelow n) e below) (subst HaveNoRepeat e once) trail first line_is lt
