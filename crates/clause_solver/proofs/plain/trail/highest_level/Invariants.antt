use Rattle.std.proofs.Common.{◌≡◌, max, drop}
use Rattle.std.proofs.Common.{reverse}
use Rattle.cqe_base.specs.Machine.{highest_level}
use Rattle.clause_solver.proofs.plain.trail.highest_level.Given as goal

abbrev pub invariant-loop-l : goal.invariant-loop-l
invariant-loop-l l = max l.highest (highest_level (reverse l.trail) (drop l.l-index l.literals)) ≡ highest_level (reverse l.trail) l.literals
