use Rattle.std.proofs.Common.{◌≤◌, ◌+◌, ◌++◌, ◌∷◌, [], length, take, sym, ap, subst, ◌∙◌, arith}
use Rattle.std.specs.Prelude.{vec_capacity}
use Rattle.std.proofs.lemmas.List.{take_all, take_more}
use Rattle.desk_crew.specs.Crew.{seat_name}
use Rattle.batch_engine.specs.Answers.{asks_of}
use Rattle.batch_engine.specs.Batches.{asks_in}
use Rattle.batch_engine.specs.Posts.{HasRooms}
use Rattle.batch_engine.proofs.Posts.{rooms-push}
use Rattle.batch_engine.proofs.post.rooms_for.Goals as goal

pub loop-seat-init : goal.loop-seat-init
loop-seat-init g c =
    let empty = c.in_ok-rooms.ensures.empty in
    let none = ap length empty in
    record {
      so_far = subst (HasRooms (asks_in c.args.asks.now) (take 0 c.args.seats.now)) (sym empty) tt;
      room = c.in_ok-rooms.ensures.room;
      count = omega (arith, none, c.in_ok-rooms.rooms.ok.0);
    }

pub push_reserved-requires : goal.push_reserved-requires
push_reserved-requires g c =
    let room = c.loop-seat.invariant.room in
    let count = c.loop-seat.invariant.count in
    let more = c.loop-seat-test.true in
    omega (arith, room, count, more)

-- one more seat has the room of its user
pub loop-seat-preserved : goal.loop-seat-preserved
loop-seat-preserved g c =
    let asks = asks_in c.args.asks.now in
    let i = c.loop-seat.seat-index in
    let seat = c.seat-item.result in
    let added = c.push_reserved.ensures.items in
    let grown = c.push_reserved.ensures.len in
    let count = c.loop-seat.invariant.count in
    let fits : asks_of (seat_name seat) asks ≤ vec_capacity c.in_ok-room_for.field-0 =
    subst (λ n. n ≤ vec_capacity c.in_ok-room_for.field-0) (c.asks_of.ensures ∙ ap (λ n. asks_of n asks) c.as_str.ensures.value)
    c.in_ok-room_for.ensures.room in
    record {
      so_far = subst (HasRooms asks (take (i + 1) c.args.seats.now)) (sym added)
          (subst (λ l. HasRooms asks l (c.loop-seat.rooms.items ++ c.in_ok-room_for.field-0 ∷ []))
          (sym (take_more c.args.seats.now i seat c.loop-seat-test.true ∙ ap (λ s. take i c.args.seats.now ++ s ∷ []) (sym c.seat-item.is)))
          (rooms-push asks (take i c.args.seats.now) c.loop-seat.rooms.items seat c.in_ok-room_for.field-0 c.loop-seat.invariant.so_far
          c.in_ok-room_for.ensures.empty fits));
      room = subst (λ n. length c.args.seats.now ≤ n) (sym c.push_reserved.ensures.capacity) c.loop-seat.invariant.room;
      count = omega (arith, count, grown);
    }

pub returns : goal.returns
returns g c = record {
  rooms = subst (λ l. HasRooms (asks_in c.args.asks.now) l c.loop-seat.rooms.items)
      (take_all c.loop-seat.seat-index c.args.seats.now (omega (arith, c.loop-seat-test.false))) c.loop-seat.invariant.so_far;
}
