use Rattle.std.proofs.Common.{◌≡◌, ◌∷◌, ◌++◌, [], length, map, All, refl, sym, ap, subst, ◌∙◌, length-append, rules, arith}
use Rattle.std.specs.Vec.Iter.{into_iter_items}
use Rattle.std.proofs.lemmas.List.{map-append}
use Rattle.std.proofs.lemmas.List.Elements.{All-nil, All-push}
use Rattle.worker_pool.proofs.Seating.{read_on, read_more, read_all}
use Rattle.batch_engine.specs.Batches.{asks_in}
use Rattle.batch_engine.specs.Posts.{HasRoom, HasRooms, seat_of}
use Rattle.batch_engine.proofs.Posts.{first_room, rooms_left}
use Rattle.batch_engine.proofs.post.post_all.Goals as goal

pub loop-seat-init : goal.loop-seat-init
loop-seat-init g c =
    let whole : into_iter_items c.into_iter-seat-iterator.result ≡ c.args.seats.items = search rules in
    record {
      rest = search rules;
      seats = ap (map seat_of) c.requires.empty;
      rooms = subst (λ l. HasRooms (asks_in c.args.asks.now) l c.args.rooms.items) (sym whole) c.requires.rooms;
      each = subst (All (HasRoom (asks_in c.args.asks.now))) (sym c.requires.empty) (All-nil (HasRoom (asks_in c.args.asks.now)));
      count = ap length c.requires.empty;
      room = refl;
    }

-- where a seat is left there is a room
pub remove-requires : goal.remove-requires
remove-requires g c =
    let so_far = c.loop-seat.invariant in
    let some = rooms_left (asks_in c.args.asks.now) _ c.loop-seat.rooms.items c.in-Some.seat _ c.in-Some.ensures.steps.0 so_far.rooms in
    let len = c.loop-seat.rooms.ok.0 in
    omega (arith, some, len)

pub push_reserved-requires : goal.push_reserved-requires
push_reserved-requires g c =
    let so_far = c.loop-seat.invariant in
    let more = read_more c.args.seats.items c.loop-seat.yielded _ _ c.in-Some.seat so_far.rest c.in-Some.ensures.steps.0 in
    let count = so_far.count in
    let room = so_far.room in
    let len = c.loop-seat.posts.ok.0 in
    omega (arith, more, count, room, len, c.requires.room)

-- the room that is taken is that of the seat
pub loop-seat-preserved : goal.loop-seat-preserved
loop-seat-preserved g c =
    let so_far = c.loop-seat.invariant in
    let here = first_room (asks_in c.args.asks.now) _ c.loop-seat.rooms.items c.in-Some.seat _ c.remove.result c.remove.new.self.items
    c.in-Some.ensures.steps.0 so_far.rooms c.remove.ensures.value c.remove.ensures.items in
    let added = c.push_reserved.ensures.items in
    let count = so_far.count in
    let more = length-append c.loop-seat.yielded (c.in-Some.seat ∷ []) in
    let many = length-append c.loop-seat.posts.items (record { seat = c.in-Some.seat; answers = c.remove.result } ∷ []) in
    let grown = ap length added in
    record {
      rest = read_on c.args.seats.items c.loop-seat.yielded _ _ _ so_far.rest c.in-Some.ensures.steps.0;
      seats = ap (map seat_of) added ∙ map-append seat_of c.loop-seat.posts.items _ ∙ ap (λ l. l ++ c.in-Some.seat ∷ []) so_far.seats;
      rooms = here.1;
      each = subst (All (HasRoom (asks_in c.args.asks.now))) (sym added)
          (All-push (HasRoom (asks_in c.args.asks.now)) c.loop-seat.posts.items _ so_far.each here.0);
      count = omega (arith, count, more, many, grown);
      room = c.push_reserved.ensures.capacity ∙ so_far.room;
    }

pub returns-clause-seats : goal.returns-clause-seats
returns-clause-seats g c =
    c.loop-seat.invariant.seats ∙ read_all c.args.seats.items c.loop-seat.yielded _ c.loop-seat.invariant.rest (search rules)
