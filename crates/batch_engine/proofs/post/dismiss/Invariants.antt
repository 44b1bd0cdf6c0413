use Rattle.std.proofs.Common.{◌≡◌, ◌++◌, map}
use Rattle.std.specs.Prelude.{vec_capacity}
use Rattle.std.specs.List.{flat_map}
use Rattle.std.specs.Vec.Iter.{into_iter_items}
use Rattle.batch_engine.specs.Posts.{seat_of, answers_at}
use Rattle.batch_engine.proofs.post.dismiss.Given as goal

-- the first posts are taken apart
abbrev pub invariant-loop-post : goal.invariant-loop-post
invariant-loop-post g l = record {
  rest : l.yielded ++ into_iter_items l.post-iterator ≡ l.fn.posts.items;
  seats : l.seats.items ≡ map seat_of l.yielded;
  answers : l.answers.items ≡ l.fn.answers.items ++ flat_map answers_at l.yielded;
  room : vec_capacity l.seats ≡ vec_capacity l.initial.seats;
  capacity : vec_capacity l.answers ≡ vec_capacity l.fn.answers;
}
