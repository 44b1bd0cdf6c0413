use Rattle.std.proofs.Common.{◌≡◌, ◌+◌, ◌-◌, length, drop}
use Rattle.cqe_base.specs.Machine.{current_count}
use Rattle.clause_solver.proofs.analysis.has_more_current.Given as goal

abbrev pub invariant-loop-i : goal.invariant-loop-i
invariant-loop-i l = current_count l.assignment.trail (drop (length l.clause - l.i) l.clause) + l.left ≡ l.most
