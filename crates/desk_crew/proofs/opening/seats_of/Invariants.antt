use Rattle.std.proofs.Common.{◌≡◌, ◌++◌, map, length, vec_capacity}
use Rattle.std.specs.Vec.Iter.{into_iter_items}
use Rattle.desk_crew.specs.Side.{place_of, at_seat}
use Rattle.desk_crew.proofs.opening.seats_of.Given as goal

-- the seats of the journals so far
abbrev pub invariant-loop-opening : goal.invariant-loop-opening
invariant-loop-opening g l = record {
  rest : l.yielded ++ into_iter_items l.opening-iterator ≡ l.fn.openings.items;
  seats : map at_seat l.seats.items ≡ map place_of l.yielded;
  count : length l.seats.items ≡ length l.yielded;
  room : vec_capacity l.seats ≡ vec_capacity l.initial.seats;
}
