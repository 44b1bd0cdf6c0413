use Rattle.std.proofs.Common.{◌≡◌, length}
use Rattle.cqe_base.specs.Machine.{cut}
use Rattle.clause_solver.proofs.indexed.Indexed.cut.Given as goal

abbrev pub invariant-loop-self : goal.invariant-loop-self
invariant-loop-self l = record {
  variables : l.self.assignment.variables ≡ l.initial.self.assignment.variables;
  clauses : l.self.clauses ≡ l.initial.self.clauses;
  lines : l.self.lines ≡ l.initial.self.lines;
  watches : l.self.watches ≡ l.initial.self.watches;
  resolvent : l.self.resolvent ≡ l.initial.self.resolvent;
  trail : cut l.k l.self.assignment.trail ≡ cut l.k l.initial.self.assignment.trail;
}

abbrev pub decreases-loop-self : goal.decreases-loop-self
decreases-loop-self l = length l.self.assignment.trail
