use Rattle.std.proofs.Common.{◌≡◌, ◌≤◌, length, take, map}
use Rattle.std.specs.Prelude.{vec_len, vec_capacity}
use Rattle.desk_crew.proofs.crew.refusals_of.Given as goal

-- the refusals of the first seats
abbrev pub invariant-loop-seat : goal.invariant-loop-seat
invariant-loop-seat g l = record {
  so_far : l.refusals.items ≡ map (λ s. s.refusal) (take l.seat-index l.seats);
  room : length l.seats ≤ vec_capacity l.refusals;
  count : vec_len l.refusals ≡ l.seat-index;
}
