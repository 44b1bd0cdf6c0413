use Rattle.std.proofs.Common.{◌≡◌, ◌+◌, length, sum_by, refl, subst, ap, rules, arith}
use Rattle.std.specs.Vec.Iter.{into_iter_items}
use Rattle.session_core.specs.Members.{ArePassesOf, passes_in}
use Rattle.worker_pool.proofs.Seating.{read_on, next_of}
use Rattle.serve_engine.specs.Passing.{HaveShares, NoneOwn}
use Rattle.serve_engine.proofs.Owning.{own_weight, own_met}
use Rattle.serve_engine.proofs.Meeting.{on_same, on_then, have_met}
use Rattle.serve_engine.proofs.serving.join_all.Goals as goal

pub loop-part-init : goal.loop-part-init
loop-part-init g c = record {
  rest = search rules;
  these = c.requires.these;
  on = on_same (passes_in c.args.passes.now);
  own = λ place weight. refl;
  shares =
      let total = c.requires.rest.2 in
      let all : length (into_iter_items c.into_iter-part-iterator.result) ≡ length c.args.parts.items = ap length (search rules) in
      (c.requires.rest.0, c.requires.rest.1, omega (arith, total, all));
}

pub meet-requires-clause-those : goal.meet-requires-clause-those
meet-requires-clause-those g c =
    next_of (λ part. ArePassesOf part c.args.counters.now) c.args.parts.items c.loop-part.yielded _ _ c.in-Some.part c.loop-part.invariant.rest
    c.in-Some.ensures.steps.0 c.requires.those

pub loop-part-preserved : goal.loop-part-preserved
loop-part-preserved g c =
    let so_far = c.loop-part.invariant in
    let step = c.in-Some.ensures.steps.0 in
    let share = next_of (HaveShares 1) c.args.parts.items c.loop-part.yielded _ _ c.in-Some.part so_far.rest step c.requires.shares in
    let old = passes_in c.loop-part.passes in
    let new = passes_in c.meet.new.passes in
    let met = have_met so_far.shares.0 1 c.args.counters.now.counters.items old (passes_in c.in-Some.part) new so_far.shares.1 share c.meet.ensures.met in
    let one_less = ap length step in
    let total = so_far.shares.2 in
    record {
      rest = read_on c.args.parts.items c.loop-part.yielded _ _ _ so_far.rest step;
      these = c.meet.ensures.passes;
      on = on_then (passes_in c.args.passes.now) old new so_far.on met.on;
      own = λ place weight.
          let both = own_met weight place c.args.counters.now.counters.items old (passes_in c.in-Some.part) new c.meet.ensures.met in
          let none = next_of NoneOwn c.args.parts.items c.loop-part.yielded _ _ c.in-Some.part so_far.rest step c.requires.none place in
          let nothing : own_weight weight place (passes_in c.in-Some.part) ≡ 0 = ap (sum_by weight) none in
          let before = so_far.own place weight in
          omega (arith, both, nothing, before);
      shares = (so_far.shares.0 + 1, met.have, omega (arith, one_less, total));
    }

pub returns-clause-shares : goal.returns-clause-shares
returns-clause-shares g c =
    let total = c.loop-part.invariant.shares.2 in
    let none : length (into_iter_items c.loop-part.part-iterator) ≡ 0 = search rules in
    let all : c.loop-part.invariant.shares.0 ≡ 65 = omega (arith, total, none) in
    subst (λ n. HaveShares n c.loop-part.passes) all c.loop-part.invariant.shares.1
