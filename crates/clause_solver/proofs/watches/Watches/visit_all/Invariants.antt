use Rattle.std.proofs.Common.{◌≡◌, ◌≤◌, ◌++◌, length, take, drop, set}
use Rattle.clause_store.specs.Codes.{code_of}
use Rattle.clause_solver.specs.Watching.{IsWatching}
use Rattle.clause_solver.specs.WatchesInside.{lists_of, units_of, KeepsWatched}
use Rattle.clause_solver.proofs.watches.Watches.visit_all.Given as goal

abbrev pub invariant-loop-i : goal.invariant-loop-i
invariant-loop-i l = record {
  most : l.kept ≤ l.i;
  size : length l.list.items ≡ length l.initial.list.items;
  sorted : l.self.sorted ≡ l.initial.self.sorted;
  kept : KeepsWatched l.assignment.trail l.initial.self l.self;
  watching : IsWatching l.assignment.variables l.assignment.trail l.self.sorted
      (set (lists_of l.self) (code_of l.literal) (take l.kept l.list.items ++ drop l.i l.list.items)) l.self.pairs.items
      (units_of l.self) l.self.falsified l.literal (drop l.i l.list.items);
}
