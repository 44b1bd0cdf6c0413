-- Runs of the machine: more steps change nothing, and the whole cost is never below the number of steps.
use Rattle.std.proofs.Common.{◌≡◌, ℕ, zero, suc, ◌+◌, ◌-◌, ◌≤◌, Bool, true, false, cond, List, [], ◌∷◌, ◌++◌, length, Option, Some, None, refl, sym, ap, ◌∙◌}
use Rattle.std.proofs.Common.{subst, arith, length-append, suc-add, add_comm}
use Rattle.std.proofs.lemmas.Bool.{cond_both, leb-true, le-leb}
use Rattle.std.specs.Prelude.{nat_le, nat_lt}
use Rattle.cqe_base.specs.Literal.{Literal}
use Rattle.cqe_base.specs.Refutation.{RefutationLine}
use Rattle.cqe_base.specs.MachineLaws.{BudgetIsWholeCost, MachineHasOneEnd}
use Rattle.cqe_base.specs.Machine.{Assigned, Decided, Because, State, start, current_count, latest_against, resolved_with, analysis, conflict_line}
use Rattle.cqe_base.specs.Machine.{conflict_cost, state_after_conflict, End, Refuted, Step, Continues, Ends, conflict_step, first_unit, first_unassigned}
use Rattle.cqe_base.specs.Machine.{decide_step, unit_step, conflict_or_unit_step, step, Ended, with_cost, end_after, end_within, end_within_cost}

-- the cost of a step
abbrev pub step_cost : Step → ℕ
step_cost (Continues cost s) = cost
step_cost (Ends cost end) = cost

with_chain : (clauses : List (List Literal)) (o : Option Assigned) (line : RefutationLine) → 1 ≤ length line.chain
    → 1 ≤ length (resolved_with clauses o line).chain
with_chain clauses None line h = h
with_chain clauses (Some (Decided l)) line h = h
with_chain clauses (Some (Because i l)) line h = let e = length-append line.chain (i ∷ []) in omega arith

pub analysis_chain : (clauses : List (List Literal)) (trail : List Assigned) (keep times : ℕ) (line : RefutationLine) → 1 ≤ length line.chain
    → 1 ≤ length (analysis clauses trail keep times line).chain
analysis_chain clauses trail keep zero line h = h
analysis_chain clauses trail keep (suc times) line h =
    cond_both (nat_lt keep (current_count trail line.clause))
    (analysis clauses trail keep times (resolved_with clauses (latest_against trail line.clause) line)) line (λ x. 1 ≤ length x.chain)
    (λ _. analysis_chain clauses trail keep times _ (with_chain clauses (latest_against trail line.clause) line h)) (λ _. h)

conflict_step_cost : (s : State) (i : ℕ) → 1 ≤ step_cost (conflict_step s i)
conflict_step_cost s i =
    let line = conflict_line s i in
    let h : 1 ≤ length line.chain = analysis_chain s.clauses s.trail _ (length s.trail) _ (omega arith) in
    cond_both _ (Ends (conflict_cost line) (Refuted (s.lines ++ line ∷ []))) (Continues (conflict_cost line) (state_after_conflict s line))
    (λ x. 1 ≤ step_cost x) (λ _. omega arith) (λ _. omega arith)

decide_step_cost : (n : ℕ) (s : State) (o : Option ℕ) → 1 ≤ step_cost (decide_step n s o)
decide_step_cost n s None = omega arith
decide_step_cost n s (Some v) = omega arith

unit_step_cost : (n : ℕ) (s : State) (o : Option (ℕ × Literal)) → 1 ≤ step_cost (unit_step n s o)
unit_step_cost n s None = decide_step_cost n s (first_unassigned s.trail n)
unit_step_cost n s (Some unit) = omega arith

conflict_or_unit_cost : (n : ℕ) (s : State) (o : Option ℕ) → 1 ≤ step_cost (conflict_or_unit_step n s o)
conflict_or_unit_cost n s None = unit_step_cost n s (first_unit s.trail 0 s.clauses)
conflict_or_unit_cost n s (Some i) = conflict_step_cost s i

-- a step costs at least one
pub step-cost : (n : ℕ) (s : State) → 1 ≤ step_cost (step n s)
unfolding step
step-cost n s = conflict_or_unit_cost n s _

more_after : (n k j : ℕ) (e : Ended) (x : Step) → ((s : State) (e : Ended) → end_within n k s ≡ Some e → end_within n (k + j) s ≡ Some e)
    → end_after x (end_within n k) ≡ Some e → end_after x (end_within n (k + j)) ≡ Some e
more_after n k j e (Ends cost end) go h = h
more_after n k j e (Continues cost s) go h = by_rest (end_within n k s) refl h
  where
    by_rest : (o : Option Ended) → end_within n k s ≡ o → with_cost cost o ≡ Some e → with_cost cost (end_within n (k + j) s) ≡ Some e
    by_rest None eq h = absurd (let x : ⊥ = cc in x)
    by_rest (Some e') eq h = ap (with_cost cost) (go s e' eq) ∙ h

-- an end that is reached stays reached with more steps
pub end_within-more : (n k j : ℕ) (s : State) (e : Ended) → end_within n k s ≡ Some e → end_within n (k + j) s ≡ Some e
unfolding end_within
end_within-more n zero j s e h = absurd (let x : ⊥ = cc in x)
end_within-more n (suc k) j s e h = rw suc-add (more_after n k j e (step n s) (λ s e h. end_within-more n k j s e h) h)

-- how many steps are left after the first of so many as the whole cost
record CostFits (n : ℕ) (x : Step) (e : Ended) : Type 0 where
  rest : ℕ
  cost : e.cost ≡ suc rest
  ends : end_after x (end_within n rest) ≡ Some e

cost_step : (n k : ℕ) (e : Ended) (x : Step) → 1 ≤ step_cost x → ((s : State) (e : Ended) → end_within n k s ≡ Some e → end_within n e.cost s ≡ Some e)
    → end_after x (end_within n k) ≡ Some e → CostFits n x e
cost_step n k e (Ends cost end) pos go h =
    let same : record { end = end; cost = cost } ≡ e = cc in
    let costs : cost ≡ e.cost = ap (λ (x : Ended). x.cost) same in
    record { rest = cost - 1; cost = omega arith; ends = h }
cost_step n k e (Continues cost s) pos go h = by_rest (end_within n k s) refl h
  where
    by_rest : (o : Option Ended) → end_within n k s ≡ o → with_cost cost o ≡ Some e → CostFits n (Continues cost s) e
    by_rest None eq h = absurd (let x : ⊥ = cc in x)
    by_rest (Some e') eq h =
        let same : record { end = e'.end; cost = cost + e'.cost } ≡ e = cc in
        let costs : cost + e'.cost ≡ e.cost = ap (λ (x : Ended). x.cost) same in
        let reached : end_within n (e'.cost + (cost - 1)) s ≡ Some e' = end_within-more n e'.cost (cost - 1) s e' (go s e' eq) in
        record { rest = e'.cost + (cost - 1); cost = omega arith; ends = ap (with_cost cost) reached ∙ h }

-- an end is reached in at most as many steps as its whole cost
pub end_within-cost : (n k : ℕ) (s : State) (e : Ended) → end_within n k s ≡ Some e → end_within n e.cost s ≡ Some e
unfolding end_within
end_within-cost n zero s e h = absurd (let x : ⊥ = cc in x)
end_within-cost n (suc k) s e h =
    let fits = cost_step n k e (step n s) (step-cost n s) (λ s e h. end_within-cost n k s e h) h in
    subst (λ c. end_within n c s ≡ Some e) (sym fits.cost) fits.ends

-- the machine has at most one end
pub one_end : (n k j : ℕ) (s : State) (e f : Ended) → end_within n k s ≡ Some e → end_within n j s ≡ Some f → e ≡ f
one_end n k j s e f he hf =
    let a = end_within-more n k j s e he in
    let b = end_within-more n j k s f hf in
    let b' : end_within n (k + j) s ≡ Some f = rw (add_comm j k) at b in
    cc

afford : (budget : ℕ) (o : Option Ended) (end : End) → end_within_cost budget o ≡ Some end → (e : Ended) × (o ≡ Some e) × (e.end ≡ end) × (e.cost ≤ budget)
afford budget None end h = absurd (let x : ⊥ = cc in x)
afford budget (Some e) end h = by_test (nat_le e.cost budget) refl h
  where
    by_test : (b : Bool) → nat_le e.cost budget ≡ b → cond b (Some e.end) None ≡ Some end → (e' : Ended) × (Some e ≡ Some e') × (e'.end ≡ end)
        × (e'.cost ≤ budget)
    by_test true t h = (e, refl, cc, leb-true e.cost budget t)
    by_test false t h = absurd (let x : ⊥ = cc in x)

pub budget_is_whole_cost : BudgetIsWholeCost
budget_is_whole_cost clauses n budget end = (
  λ h.
      let found = afford budget (end_within n budget (start clauses)) end h in
      let e : Ended = found.0 in
      let same : record { end = end; cost = e.cost } ≡ e = ap (λ x. record { end = x; cost = e.cost }) (sym found.2) in
      (e.cost, (budget, found.1 ∙ ap Some (sym same)), found.3),
  λ h.
      let e : Ended = record { end = end; cost = h.0 } in
      let reached : end_within n h.0 (start clauses) ≡ Some e = end_within-cost n h.1.0 (start clauses) e h.1.1 in
      let more : end_within n (h.0 + (budget - h.0)) (start clauses) ≡ Some e = end_within-more n h.0 (budget - h.0) (start clauses) e reached in
      let sum : h.0 + (budget - h.0) ≡ budget = omega (arith, h.2) in
      let at : end_within n budget (start clauses) ≡ Some e = subst (λ k. end_within n k (start clauses) ≡ Some e) sum more in
      ap (end_within_cost budget) at ∙ ap (λ b. cond b (Some end) None) (le-leb h.0 budget h.2),
)

pub machine_has_one_end : MachineHasOneEnd
machine_has_one_end clauses n e f he hf = one_end n he.0 hf.0 (start clauses) e f he.1 hf.1
