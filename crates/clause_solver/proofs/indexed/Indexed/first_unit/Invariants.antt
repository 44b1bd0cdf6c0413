use Rattle.std.proofs.Common.{◌≡◌, None, length}
use Rattle.clause_solver.specs.WatchesInside.{units_of}
use Rattle.clause_solver.specs.IndexedStates.{IsIndexed}
use Rattle.clause_solver.specs.Bases.{KeepsBases}
use Rattle.clause_solver.proofs.indexed.Indexed.first_unit.Given as goal

abbrev pub invariant-loop-least : goal.invariant-loop-least
invariant-loop-least l = record {
  assignment : l.self.assignment ≡ l.initial.self.assignment;
  clauses : l.self.clauses ≡ l.initial.self.clauses;
  lines : l.self.lines ≡ l.initial.self.lines;
  falsified : l.self.watches.falsified ≡ None;
  indexed : IsIndexed l.self;
  bases : KeepsBases l.initial.self l.self;
}

abbrev pub decreases-loop-least : goal.decreases-loop-least
decreases-loop-least l = length (units_of l.self.watches)
