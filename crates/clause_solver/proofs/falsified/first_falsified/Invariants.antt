use Rattle.clause_solver.specs.KeptStates.{IsFirstOfFalsified}
use Rattle.clause_solver.proofs.falsified.first_falsified.Given as goal

abbrev pub invariant-loop-number : goal.invariant-loop-number
invariant-loop-number l = IsFirstOfFalsified l.clauses l.assignment.trail l.start l.number l.first
