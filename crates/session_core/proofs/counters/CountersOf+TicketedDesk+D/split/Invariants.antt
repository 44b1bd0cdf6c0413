use Rattle.std.proofs.Common.{◌≤◌}
use Rattle.std.specs.Prelude.{vec_len, vec_capacity}
use Rattle.session_core.specs.Members.{passes_in}
use Rattle.session_core.proofs.Meeting.{SplitBelow}
use Rattle.session_core.proofs.counters.CountersOf+TicketedDesk+D.split.Given as goal

-- the passes of the first counters were split
abbrev pub invariant-loop-place : goal.invariant-loop-place
invariant-loop-place g l = record {
  split : SplitBelow l.place l.self.counters.items (passes_in l.fn.passes) (passes_in l.passes) l.parts.items;
  room : vec_len l.self.counters ≤ vec_capacity l.parts;
}
