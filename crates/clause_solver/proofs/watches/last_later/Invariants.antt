use Rattle.std.proofs.Common.{◌≡◌, ◌-◌, length, drop}
use Rattle.clause_solver.specs.Watching.{times_later}
use Rattle.clause_solver.proofs.watches.last_later.Given as goal

abbrev pub invariant-loop-i : goal.invariant-loop-i
invariant-loop-i l = times_later l.clauses (drop (length l.list - l.i) l.list) ≡ 0
