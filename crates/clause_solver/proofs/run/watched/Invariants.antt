use Rattle.std.proofs.Common.{[], take}
use Rattle.clause_solver.specs.Watching.{HaveSameLiterals}
use Rattle.clause_solver.specs.WatchesInside.{AreWatches}
use Rattle.clause_solver.proofs.run.watched.Given as goal

abbrev pub invariant-loop-number : goal.invariant-loop-number
invariant-loop-number l = record {
  watches : AreWatches l.variables [] l.watches;
  same : HaveSameLiterals (take l.number l.clauses) l.watches.sorted;
}
