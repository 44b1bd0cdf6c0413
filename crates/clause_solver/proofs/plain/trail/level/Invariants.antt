use Rattle.std.proofs.Common.{◌≡◌, ◌≤◌, reverse, take}
use Rattle.cqe_base.specs.Machine.{level}
use Rattle.clause_solver.proofs.plain.trail.level.Given as goal

abbrev pub invariant-loop-e : goal.invariant-loop-e
invariant-loop-e l = record { counted : l.decisions ≡ level (reverse (take l.e-index l.trail)); room : l.decisions ≤ l.e-index }
