use Rattle.std.proofs.Common.{◌≡◌, reverse, drop}
use Rattle.cqe_base.specs.Machine.{first_unit}
use Rattle.clause_solver.proofs.plain.scan.first_unit.Given as goal

abbrev pub invariant-loop-i : goal.invariant-loop-i
invariant-loop-i l = first_unit (reverse l.trail) l.i (drop l.i l.clauses) ≡ first_unit (reverse l.trail) 0 l.clauses
