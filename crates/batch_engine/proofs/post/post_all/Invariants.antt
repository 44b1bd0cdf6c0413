use Rattle.std.proofs.Common.{◌≡◌, ◌++◌, All, length, map}
use Rattle.std.specs.Prelude.{vec_capacity}
use Rattle.std.specs.Vec.Iter.{into_iter_items}
use Rattle.batch_engine.specs.Batches.{asks_in}
use Rattle.batch_engine.specs.Posts.{HasRoom, HasRooms, seat_of}
use Rattle.batch_engine.proofs.post.post_all.Given as goal

-- the first seats have posts, with their rooms
abbrev pub invariant-loop-seat : goal.invariant-loop-seat
invariant-loop-seat g l = record {
  rest : l.yielded ++ into_iter_items l.seat-iterator ≡ l.fn.seats.items;
  seats : map seat_of l.posts.items ≡ l.yielded;
  rooms : HasRooms (asks_in l.asks) (into_iter_items l.seat-iterator) l.rooms.items;
  each : All (HasRoom (asks_in l.asks)) l.posts.items;
  count : length l.posts.items ≡ length l.yielded;
  room : vec_capacity l.posts ≡ vec_capacity l.initial.posts;
}
