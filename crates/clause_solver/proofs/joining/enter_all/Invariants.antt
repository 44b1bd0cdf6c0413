use Rattle.std.proofs.Common.{◌≡◌, take}
use Rattle.clause_solver.specs.IndexedStates.{plain_of, IsLookedAt}
use Rattle.clause_solver.specs.Bases.{KeepsBases}
use Rattle.clause_solver.proofs.joining.enter_all.Given as goal

abbrev pub invariant-loop-number : goal.invariant-loop-number
invariant-loop-number l = record {
  clauses : l.state.clauses ≡ take l.number l.clauses;
  trail : l.state.assignment.trail ≡ l.initial.state.assignment.trail;
  variables : l.state.assignment.variables ≡ l.initial.state.assignment.variables;
  lines : (plain_of l.state).lines ≡ (plain_of l.initial.state).lines;
  looked : IsLookedAt l.state;
  bases : KeepsBases l.initial.state l.state;
}
