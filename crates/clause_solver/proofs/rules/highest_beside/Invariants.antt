use Rattle.std.proofs.Common.{take}
use Rattle.clause_solver.specs.IndexedStates.{IsHighestBeside}
use Rattle.clause_solver.proofs.rules.highest_beside.Given as goal

abbrev pub invariant-loop-other : goal.invariant-loop-other
invariant-loop-other l = IsHighestBeside l.assignment.trail (take l.other-index l.clause) l.literal l.highest
