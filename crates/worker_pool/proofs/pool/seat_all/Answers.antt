use Rattle.std.proofs.Common.{rules, arith, ◌≡◌, ◌+◌, ◌-◌, ◌^◌, [], ◌∷◌, ◌++◌, length, ap, length-append}
use Rattle.worker_pool.specs.declared.hand.Hand.{Hand}
use Rattle.worker_pool.specs.Hands.{split_off_hand}
use Rattle.worker_pool.specs.Drawers.{hand_of, IsAt}
use Rattle.worker_pool.proofs.Seating.{seated_more, each_more, read_on, read_more}
use Rattle.worker_pool.proofs.pool.seat_all.Goals as goal

pub loop-worker-preserved : goal.loop-worker-preserved
loop-worker-preserved g c =
    let added = c.push_reserved.ensures.items in
    let so_far = c.loop-worker.invariant in
    let step = c.in-Some.ensures.steps.0 in
    let turn = read_more c.args.crew.items c.loop-worker.yielded _ _ _ so_far.rest step in
    let parts : (hand_of c.split-drawer.new.drawer).parts ≡ (hand_of c.loop-worker.drawer).parts - 1 = ap (λ (h : Hand). h.parts) c.split-drawer.ensures.rest in
    let turns : (hand_of c.split-drawer.new.drawer).turns ≡ (hand_of c.loop-worker.drawer).turns - 2 ^ 31 =
    ap (λ (h : Hand). h.turns) c.split-drawer.ensures.rest in
    let more : length (c.loop-worker.yielded ++ c.in-Some.worker ∷ []) ≡ length c.loop-worker.yielded + 1 =
    length-append c.loop-worker.yielded (c.in-Some.worker ∷ []) in record {
      rest = read_on c.args.crew.items c.loop-worker.yielded _ _ _ so_far.rest step;
      workers = seated_more c.loop-worker.all.items c.push_reserved.new.self.items _ c.loop-worker.yielded added so_far.workers;
      count = omega (
        arith,
        more,
        ap length added,
        length-append c.loop-worker.all.items (record { worker = c.in-Some.worker; drawer = c.split-drawer.result } ∷ []),
      );
      room = search rules;
      places = each_more (λ s. IsAt c.args.numbers.now s.drawer) c.loop-worker.all.items _ _ added so_far.places (search rules);
      hands = each_more (λ s. hand_of s.drawer ≡ split_off_hand) c.loop-worker.all.items _ _ added so_far.hands c.split-drawer.ensures.part;
      place = search rules;
      parts = omega (arith, more, parts, turn);
      turns = omega (arith, more, turns, turn);
      drawn = search rules;
    }
