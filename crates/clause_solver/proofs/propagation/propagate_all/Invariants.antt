use Rattle.std.proofs.Common.{◌≡◌}
use Rattle.clause_solver.specs.KeptStates.{IsKeptState}
use Rattle.clause_solver.proofs.propagation.propagate_all.Given as goal

abbrev pub invariant-loop-steps : goal.invariant-loop-steps
invariant-loop-steps l = record {
  clauses : l.state.clauses ≡ l.initial.state.clauses;
  kept : IsKeptState l.state;
}
