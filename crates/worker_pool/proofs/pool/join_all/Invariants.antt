use Rattle.std.proofs.Common.{◌≡◌, ◌+◌, ◌++◌, map, length, vec_capacity}
use Rattle.std.specs.Vec.Iter.{into_iter_items}
use Rattle.worker_pool.specs.Drawers.{hand_of, drawn, IsAt}
use Rattle.worker_pool.specs.Seats.{draws}
use Rattle.worker_pool.proofs.pool.join_all.Given as goal

-- the workers so far are back, and what they drew is joined
abbrev pub invariant-loop-seated : goal.invariant-loop-seated
invariant-loop-seated g l = record {
  rest : l.yielded ++ into_iter_items l.seated-iterator ≡ l.fn.all.items;
  workers : l.crew.items ≡ map (λ seated. seated.worker) l.yielded;
  count : length l.crew.items ≡ length l.yielded;
  room : vec_capacity l.crew ≡ vec_capacity l.initial.crew;
  place : IsAt l.numbers l.drawer;
  parts : (hand_of l.drawer).parts ≡ (hand_of l.initial.drawer).parts + length l.yielded;
  drawn : drawn l.drawer ≡ draws l.yielded;
}
