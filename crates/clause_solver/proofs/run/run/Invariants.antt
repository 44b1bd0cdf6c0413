use Rattle.std.proofs.Common.{◌≡◌, ◌≤◌, ◌+◌, ◌-◌, length}
use Rattle.cqe_base.specs.Machine.{end_within_cost, end_within}
use Rattle.cqe_base.specs.KeptTrail.{end_from_within_budget}
use Rattle.clause_solver.specs.Costs.{cost_within}
use Rattle.clause_solver.specs.IndexedStates.{plain_of, IsIndexed}
use Rattle.clause_solver.specs.Bases.{KeepsBases}
use Rattle.clause_solver.proofs.run.run.Given as goal

abbrev pub invariant-loop-steps : goal.invariant-loop-steps
invariant-loop-steps l = record {
  room : length l.state.clauses ≤ length l.initial.state.clauses + l.steps;
  left_room : l.left ≤ l.budget;
  variables : l.state.assignment.variables ≡ l.variables;
  indexed : IsIndexed l.state;
  same : end_within_cost l.left (end_within l.variables (l.budget - l.steps) (plain_of l.state))
      ≡ end_from_within_budget (plain_of l.initial.state) l.variables l.budget;
  cost : (l.budget - l.left) + cost_within l.left (end_within l.variables (l.budget - l.steps) (plain_of l.state))
      ≡ cost_within l.budget (end_within l.variables l.budget (plain_of l.initial.state));
  bases : KeepsBases l.initial.state l.state;
}
