use Rattle.std.proofs.Common.{◌≤◌}
use Rattle.real_edge.proofs.sockets.take_in.Given as goal

-- the count hasn't fallen
abbrev pub invariant-loop : goal.invariant-loop
invariant-loop g l = l.initial.faults ≤ l.faults
