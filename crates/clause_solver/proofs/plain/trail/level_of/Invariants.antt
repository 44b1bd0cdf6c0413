use Rattle.std.proofs.Common.{◌≡◌, ◌≤◌, reverse, take}
use Rattle.cqe_base.specs.Machine.{level, level_of}
use Rattle.clause_solver.proofs.plain.trail.level_of.Given as goal

abbrev pub invariant-loop-e : goal.invariant-loop-e
invariant-loop-e l = record {
  counted : l.decisions ≡ level (reverse (take l.e-index l.trail));
  found : l.found ≡ level_of (reverse (take l.e-index l.trail)) l.literal;
  room : l.decisions ≤ l.e-index;
}
