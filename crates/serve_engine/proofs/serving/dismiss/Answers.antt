use Rattle.std.proofs.Common.{◌≡◌, ◌+◌, [], ◌∷◌, ◌++◌, length, refl, sym, ap, subst, ◌∙◌, rules, arith, sum_by, append-nil}
use Rattle.std.specs.Vec.Iter.{into_iter_items}
use Rattle.std.proofs.lemmas.List.Elements.{All-push, All-nil, All-weaker}
use Rattle.session_core.specs.Members.{ArePassesOf, passes_in}
use Rattle.session_core.specs.declared.counters.Passes.{Passes}
use Rattle.worker_pool.proofs.Seating.{read_on, next_of}
use Rattle.serve_engine.specs.Jobs.{job_passes}
use Rattle.std.proofs.lemmas.List.Sums.{sum_by_push}
use Rattle.serve_engine.specs.Members.{own_at}
use Rattle.serve_engine.specs.Passing.{HaveShares, AreOn, IsWorkerBack}
use Rattle.serve_engine.proofs.Owning.{own_weight, own_met, weigh_more}
use Rattle.serve_engine.proofs.Meeting.{on_same, on_then, have_met}
use Rattle.serve_engine.proofs.Reading.{grown}
use Rattle.serve_engine.proofs.serving.dismiss.Goals as goal

pub loop-worker-init : goal.loop-worker-init
loop-worker-init g c =
    let total = c.requires.rest.2 in
    let all : length (into_iter_items c.into_iter-worker-iterator.result) ≡ length c.args.crew.items = ap length (search rules) in
    record {
      rest = search rules;
      doors = c.requires.empty;
      these = c.requires.these;
      on = on_same (passes_in c.args.passes.now);
      all_on = All-nil (λ worker. AreOn (job_passes worker.job) c.args.passes.now);
      own = λ place weight. ap (sum_by weight) (sym (append-nil (own_at place (passes_in c.args.passes.now))));
      shares = (c.requires.rest.0, c.requires.rest.1, omega (arith, total, all));
      room = refl;
    }

pub meet-requires-clause-those : goal.meet-requires-clause-those
meet-requires-clause-those g c =
    let back = next_of
    (IsWorkerBack c.args.counters.now) c.args.crew.items c.loop-worker.yielded _ _ c.in-Some.worker c.loop-worker.invariant.rest c.in-Some.ensures.steps.0
    c.requires.crew in
    subst (ArePassesOf c.into_passes.result) back.counters_are c.into_passes.ensures.passes

pub loop-worker-preserved : goal.loop-worker-preserved
loop-worker-preserved g c =
    let so_far = c.loop-worker.invariant in
    let step = c.in-Some.ensures.steps.0 in
    let next = ap length step in
    let back = next_of (IsWorkerBack c.args.counters.now) c.args.crew.items c.loop-worker.yielded _ _ c.in-Some.worker so_far.rest step c.requires.crew in
    let first = passes_in c.args.passes.now in
    let old = passes_in c.loop-worker.passes in
    let new = passes_in c.meet.new.passes in
    let share = subst (HaveShares 1) (sym c.into_passes.ensures.same) back.shares_are in
    let met = have_met so_far.shares.0 1 c.args.counters.now.counters.items old (passes_in c.into_passes.result) new so_far.shares.1 share c.meet.ensures.met in
    let total = so_far.shares.2 in
    record {
      rest = read_on c.args.crew.items c.loop-worker.yielded _ _ _ so_far.rest step;
      doors = grown (λ worker. worker.door) _ _ c.loop-worker.yielded c.in-Some.worker c.push_reserved.ensures.items so_far.doors;
      these = c.meet.ensures.passes;
      on = on_then first old new so_far.on met.on;
      all_on = All-push (λ worker. AreOn (job_passes worker.job) c.meet.new.passes) c.loop-worker.yielded c.in-Some.worker
          (All-weaker (λ worker. AreOn (job_passes worker.job) c.loop-worker.passes) (λ worker. AreOn (job_passes worker.job) c.meet.new.passes) (λ worker on.
          on_then (passes_in (job_passes worker.job)) old new on met.on) c.loop-worker.yielded so_far.all_on)
          (subst (λ (passes : Passes g.row.D.Denot). AreOn passes c.meet.new.passes) c.into_passes.ensures.same met.those_on);
      own = λ place weight.
          let first = own_at place (passes_in c.args.passes.now) in
          let both = own_met weight place c.args.counters.now.counters.items old (passes_in c.into_passes.result) new c.meet.ensures.met in
          let this = ap (λ (passes : Passes g.row.D.Denot). own_weight weight place (passes_in passes)) c.into_passes.ensures.same in
          let before = so_far.own place weight ∙ weigh_more weight first (λ worker. own_at place (passes_in (job_passes worker.job))) c.loop-worker.yielded in
          let then = weigh_more weight first (λ worker. own_at place (passes_in (job_passes worker.job))) (c.loop-worker.yielded ++ c.in-Some.worker ∷ []) in
          let all = sum_by_push (λ worker. own_weight weight place (passes_in (job_passes worker.job))) c.loop-worker.yielded c.in-Some.worker in
          omega (arith, both, this, before, then, all);
      shares = (so_far.shares.0 + 1, met.have, omega (arith, next, total));
      room = c.push_reserved.ensures.capacity ∙ so_far.room;
    }
