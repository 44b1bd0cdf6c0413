use Rattle.std.proofs.Common.{◌≡◌, ◌++◌, length, vec_capacity}
use Rattle.std.specs.List.{AllZip}
use Rattle.std.specs.Vec.Iter.{into_iter_items}
use Rattle.desk_crew.specs.Side.{IsClosedOf}
use Rattle.desk_crew.proofs.opening.close_all.Given as goal

-- the desks so far are closed
abbrev pub invariant-loop-seat : goal.invariant-loop-seat
invariant-loop-seat g l = record {
  rest : l.yielded ++ into_iter_items l.seat-iterator ≡ l.fn.seats.items;
  closed : AllZip (IsClosedOf g.D.Disk) l.yielded l.openings.items;
  count : length l.openings.items ≡ length l.yielded;
  room : vec_capacity l.openings ≡ vec_capacity l.initial.openings;
}
