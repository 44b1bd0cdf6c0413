use Rattle.std.proofs.Common.{◌++◌, ◌∷◌, [], sym, ap, ◌∙◌, arith}
use Rattle.desk_crew.specs.Seats.{DeskSeat}
use Rattle.desk_crew.proofs.Taken.{map_more}
use Rattle.desk_crew.proofs.crew.refusals_of.Goals as goal

pub loop-seat-preserved : goal.loop-seat-preserved
loop-seat-preserved g c =
    let room = c.loop-seat.invariant.room in
    let count = c.loop-seat.invariant.count in
    let grown = c.push_reserved.ensures.len in
    let space = c.push_reserved.ensures.capacity in
    record {
      so_far = c.push_reserved.ensures.items ∙ ap (λ l. l ++ c.seat-item.result.refusal ∷ []) c.loop-seat.invariant.so_far
          ∙ sym (map_more (λ (s : DeskSeat _ _ _). s.refusal) c.args.seats.now c.loop-seat.seat-index c.seat-item.result c.loop-seat-test.true c.seat-item.is);
      room = omega (arith, room, space);
      count = omega (arith, count, grown);
    }
