use Rattle.std.proofs.Common.{◌≡◌, drop}
use Rattle.std.specs.List.{find}
use Rattle.cqe_base.specs.Literal.{ClauseBelow}
use Rattle.clause_solver.proofs.Visits.{next_test}
use Rattle.clause_solver.proofs.watches.other_open.Given as goal

abbrev pub invariant-loop-other : goal.invariant-loop-other
invariant-loop-other l = record {
  below : ClauseBelow l.assignment.variables (drop l.other-index l.clause);
  same : find (next_test l.assignment.trail l.literal) (drop l.other-index l.clause) ≡ find (next_test l.assignment.trail l.literal) l.clause;
}
