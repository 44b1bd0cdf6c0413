use Rattle.std.proofs.Common.{◌≡◌, ◌+◌, ◌*◌, ◌^◌, ◌++◌, [], All, map, length, vec_capacity}
use Rattle.std.specs.Vec.Iter.{into_iter_items}
use Rattle.worker_pool.specs.Hands.{split_off_hand}
use Rattle.worker_pool.specs.Drawers.{hand_of, drawn, IsAt}
use Rattle.worker_pool.proofs.pool.seat_all.Given as goal

-- the workers so far have their seats
abbrev pub invariant-loop-worker : goal.invariant-loop-worker
invariant-loop-worker g l = record {
  rest : l.yielded ++ into_iter_items l.worker-iterator ≡ l.fn.crew.items;
  workers : map (λ seated. seated.worker) l.all.items ≡ l.yielded;
  count : length l.all.items ≡ length l.yielded;
  room : vec_capacity l.all ≡ vec_capacity l.initial.all;
  places : All (λ seated. IsAt l.numbers seated.drawer) l.all.items;
  hands : All (λ seated. hand_of seated.drawer ≡ split_off_hand) l.all.items;
  place : IsAt l.numbers l.drawer;
  parts : (hand_of l.drawer).parts + length l.yielded ≡ 65;
  turns : (hand_of l.drawer).turns + length l.yielded * 2 ^ 31 ≡ 65 * 2 ^ 31;
  drawn : drawn l.drawer ≡ [];
}
