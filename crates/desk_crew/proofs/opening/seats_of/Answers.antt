use Rattle.std.proofs.Common.{◌∷◌, [], length, map, refl, ap, ◌∙◌, rules, arith, length-append}
use Rattle.worker_pool.proofs.Seating.{read_on, read_more, read_all}
use Rattle.desk_crew.specs.Side.{DeskOpening, place_of, at_seat, is_shut}
use Rattle.desk_crew.proofs.Placing.{none_next, seat_more}
use Rattle.desk_crew.proofs.opening.seats_of.Goals as goal

pub loop-opening-init : goal.loop-opening-init
loop-opening-init g c = record {
  rest = search rules;
  seats = ap (map at_seat) c.requires.empty;
  count = ap length c.requires.empty;
  room = refl;
}

pub seat_in-seat-requires : goal.seat_in-seat-requires
seat_in-seat-requires g c =
    none_next (λ (o : DeskOpening _ _ _). is_shut (place_of o)) c.args.openings.items c.loop-opening.yielded _ _ c.in-Some.opening
    c.loop-opening.invariant.rest c.in-Some.ensures.steps.0 c.requires.all_open

pub push_reserved-requires : goal.push_reserved-requires
push_reserved-requires g c =
    let so_far = c.loop-opening.invariant in
    let more = read_more c.args.openings.items c.loop-opening.yielded _ _ c.in-Some.opening so_far.rest c.in-Some.ensures.steps.0 in
    let counted = c.loop-opening.seats.ok.0 in
    let count = so_far.count in
    let space = so_far.room in
    let enough = c.requires.room in
    omega (arith, more, counted, count, space, enough)

pub loop-opening-preserved : goal.loop-opening-preserved
loop-opening-preserved g c =
    let so_far = c.loop-opening.invariant in
    let added = c.push_reserved.ensures.items in
    let count = so_far.count in
    let grown = length-append c.loop-opening.seats.items (c.seat_in-seat.result ∷ []) in
    let read = length-append c.loop-opening.yielded (c.in-Some.opening ∷ []) in
    let many = ap length added in
    record {
      rest = read_on c.args.openings.items c.loop-opening.yielded _ _ _ so_far.rest c.in-Some.ensures.steps.0;
      seats = seat_more c.loop-opening.seats.items _ c.seat_in-seat.result c.loop-opening.yielded c.in-Some.opening added c.seat_in-seat.ensures so_far.seats;
      count = omega (arith, count, grown, read, many);
      room = c.push_reserved.ensures.capacity ∙ so_far.room;
    }

pub returns : goal.returns
returns g c =
    c.loop-opening.invariant.seats
    ∙ ap (map place_of) (read_all c.args.openings.items c.loop-opening.yielded _ c.loop-opening.invariant.rest (search rules))
