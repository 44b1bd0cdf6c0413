use Rattle.std.proofs.Common.{◌≡◌, ◌-◌, length, drop}
use Rattle.clause_solver.proofs.indexed.Indexed.go_back.Given as goal

abbrev pub invariant-loop-self : goal.invariant-loop-self
invariant-loop-self l = record {
  variables : l.self.assignment.variables ≡ l.initial.self.assignment.variables;
  clauses : l.self.clauses ≡ l.initial.self.clauses;
  watches : l.self.watches ≡ l.initial.self.watches;
  resolvent : l.self.resolvent ≡ l.initial.self.resolvent;
  trail : drop (length l.self.assignment.trail - l.entries) l.self.assignment.trail
      ≡ drop (length l.initial.self.assignment.trail - l.entries) l.initial.self.assignment.trail;
}

abbrev pub decreases-loop-self : goal.decreases-loop-self
decreases-loop-self l = length l.self.assignment.trail
