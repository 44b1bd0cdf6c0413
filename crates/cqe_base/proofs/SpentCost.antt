-- A budget is spent by cost alone.
use Rattle.std.proofs.Common.{◌≡◌, ℕ, ◌<◌, ◌≤◌, Bool, true, false, cond, List, Option, Some, None, refl, sym, ap, ◌∙◌, ⊎_elim, arith}
use Rattle.std.proofs.lemmas.Bool.{cases_lt}
use Rattle.cqe_base.specs.Literal.{Literal}
use Rattle.cqe_base.specs.ClauseForm.{clause_form, numbering_of}
use Rattle.cqe_base.specs.Refutation.{is_refutation, is_model}
use Rattle.cqe_base.specs.Machine.{End, Model, Refuted, Ended, MachineEnds, end_within_budget}
use Rattle.cqe_base.specs.Outcome.{Follows, Open, Spent, outcome_of_end, probe_list, ground_outcome, is_right_end}
use Rattle.cqe_base.specs.MachineLaws.{SpentIsCost, EnoughIsNeverSpent}
use Rattle.cqe_base.proofs.ClauseLaws.{clause_form_uses_its_variables, clause_form_has_no_repeat}
use Rattle.cqe_base.proofs.MachineRuns.{budget_is_whole_cost, machine_has_one_end}
use Rattle.cqe_base.proofs.MachineBound.{machine_ends}
use Rattle.cqe_base.proofs.MachineRight.{machine_ends_are_right}

not_spent : (clauses : List (List Literal)) (end : End) → is_right_end clauses end ≡ true → outcome_of_end clauses (Some end) ≡ Spent → ⊥
not_spent clauses (Refuted lines) r h = by_test (is_refutation clauses lines) r h
  where
    by_test : (b : Bool) → b ≡ true → cond b Follows Spent ≡ Spent → ⊥
    by_test true r h = cc
    by_test false r h = cc
not_spent clauses (Model signs) r h = by_test (is_model clauses signs) r h
  where
    by_test : (b : Bool) → b ≡ true → cond b Open Spent ≡ Spent → ⊥
    by_test true r h = cc
    by_test false r h = cc

spent_past : (clauses : List (List Literal)) (n budget : ℕ) (e : Ended) → MachineEnds clauses n e → budget < e.cost → (o : Option End)
    → end_within_budget clauses n budget ≡ o → outcome_of_end clauses o ≡ Spent
spent_past clauses n budget e m lt None eq = refl
spent_past clauses n budget e m lt (Some end) eq =
    let found = (budget_is_whole_cost clauses n budget end).0 eq in
    let same : record { end = end; cost = found.0 } ≡ e = machine_has_one_end clauses n (record { end = end; cost = found.0 }) e found.1 m in
    let costs : found.0 ≡ e.cost = ap (λ (x : Ended). x.cost) same in
    let le : found.0 ≤ budget = found.2 in
    absurd (omega arith)

pub spent_is_cost : SpentIsCost
unfolding ground_outcome
spent_is_cost premises goal budget =
    let formulas = probe_list premises goal in
    let clauses : List (List Literal) = clause_form formulas in
    let n : ℕ = (numbering_of formulas).variables in
    let below = clause_form_uses_its_variables formulas in
    let no_repeat = clause_form_has_no_repeat formulas in
    let ends = machine_ends clauses n below no_repeat in
    let e : Ended = ends.0 in (
      λ h.
          ⊎_elim (λ lt. (e, ends.1, lt))
          (λ le.
          let at : end_within_budget clauses n budget ≡ Some e.end = (budget_is_whole_cost clauses n budget e.end).1 (e.cost, ends.1, le) in
          absurd (not_spent clauses e.end (machine_ends_are_right clauses n e below no_repeat ends.1) (sym (ap (outcome_of_end clauses) at) ∙ h)))
          (cases_lt budget e.cost),
      λ h. spent_past clauses n budget h.0 h.1 h.2 (end_within_budget clauses n budget) refl,
    )

pub enough_is_never_spent : EnoughIsNeverSpent
enough_is_never_spent premises goal budget enough h =
    let formulas = probe_list premises goal in
    let clauses : List (List Literal) = clause_form formulas in
    let n : ℕ = (numbering_of formulas).variables in
    let ends = machine_ends clauses n (clause_form_uses_its_variables formulas) (clause_form_has_no_repeat formulas) in
    let spent = (spent_is_cost premises goal budget).0 h in
    let same : ends.0 ≡ spent.0 = machine_has_one_end clauses n ends.0 spent.0 ends.1 spent.1 in
    let costs : ends.0.cost ≡ spent.0.cost = ap (λ (x : Ended). x.cost) same in
    let le = ends.2 in
    let lt = spent.2 in
    omega arith
