use Rattle.std.proofs.Common.{◌≡◌, All, length, vec_capacity}
use Rattle.real_edge.specs.Counts.{door_faults}
use Rattle.real_edge.proofs.sockets.open_doors.Given as goal

-- the doors so far haven't failed
abbrev pub invariant-loop : goal.invariant-loop
invariant-loop g l = record {
  count : length l.opened.items ≡ l.counter;
  room : vec_capacity l.opened ≡ vec_capacity l.initial.opened;
  whole : All (λ door. door_faults door ≡ 0) l.opened.items;
}
