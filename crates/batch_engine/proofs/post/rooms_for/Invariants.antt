use Rattle.std.proofs.Common.{◌≡◌, ◌≤◌, length, take}
use Rattle.std.specs.Prelude.{vec_len, vec_capacity}
use Rattle.batch_engine.specs.Batches.{asks_in}
use Rattle.batch_engine.specs.Posts.{HasRooms}
use Rattle.batch_engine.proofs.post.rooms_for.Given as goal

-- the first seats have their rooms
abbrev pub invariant-loop-seat : goal.invariant-loop-seat
invariant-loop-seat g l = record {
  so_far : HasRooms (asks_in l.asks) (take l.seat-index l.seats) l.rooms.items;
  room : length l.seats ≤ vec_capacity l.rooms;
  count : vec_len l.rooms ≡ l.seat-index;
}
