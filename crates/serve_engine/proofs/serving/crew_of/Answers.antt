use Rattle.std.proofs.Common.{◌∷◌, length, refl, sym, ap, subst, ◌∙◌, arith}
use Rattle.std.specs.Vec.Iter.{into_iter_items}
use Rattle.std.proofs.lemmas.List.Elements.{All-push, All-same, All-rest, All-head}
use Rattle.session_core.specs.Members.{ArePassesOf, passes_in, fixeds_of}
use Rattle.worker_pool.proofs.Seating.{read_on}
use Rattle.serve_engine.specs.Members.{HaveSeenOpenings}
use Rattle.serve_engine.specs.Passing.{AreParts, IsWorkerFresh}
use Rattle.serve_engine.proofs.Reading.{taken_first, regrown}
use Rattle.serve_engine.proofs.serving.crew_of.Goals as goal

pub new-job-requires-clause-passes : goal.new-job-requires-clause-passes
new-job-requires-clause-passes g c =
    let so_far = c.loop-door.invariant in
    let next = ap length c.in-Some.ensures.steps.0 in
    let count = so_far.count in
    let first = taken_first c.loop-door.parts.items c.remove-part.result c.remove-part.new.self.items
    (omega (arith, next, count)) c.remove-part.ensures.value c.remove-part.ensures.items in
    All-head (λ part. ArePassesOf part c.args.counters.now) c.remove-part.result c.remove-part.new.self.items
    (All-same (λ part. ArePassesOf part c.args.counters.now) (c.remove-part.result ∷ c.remove-part.new.self.items) c.loop-door.parts.items
    (sym first) so_far.those)

pub new-job-requires-clause-opened : goal.new-job-requires-clause-opened
new-job-requires-clause-opened g c =
    let so_far = c.loop-door.invariant in
    let next = ap length c.in-Some.ensures.steps.0 in
    let count = so_far.count in
    let first = taken_first c.loop-door.parts.items c.remove-part.result c.remove-part.new.self.items
    (omega (arith, next, count)) c.remove-part.ensures.value c.remove-part.ensures.items in
    All-head (λ part. HaveSeenOpenings (fixeds_of c.args.counters.now) (passes_in part)) c.remove-part.result c.remove-part.new.self.items
    (All-same (λ part. HaveSeenOpenings (fixeds_of c.args.counters.now) (passes_in part))
    (c.remove-part.result ∷ c.remove-part.new.self.items) c.loop-door.parts.items (sym first) so_far.opened)

pub loop-door-preserved : goal.loop-door-preserved
loop-door-preserved g c =
    let so_far = c.loop-door.invariant in
    let step = c.in-Some.ensures.steps.0 in
    let next = ap length step in
    let count = so_far.count in
    let added = c.push_reserved.ensures.items in
    let first = taken_first c.loop-door.parts.items c.remove-part.result c.remove-part.new.self.items
    (omega (arith, next, count)) c.remove-part.ensures.value c.remove-part.ensures.items in
    let one_less = ap length first in
    record {
      rest = read_on c.args.doors.items c.loop-door.yielded _ (into_iter_items c.next.new.self) c.in-Some.door so_far.rest step;
      doors =
          regrown (λ worker. worker.door) c.loop-door.crew.items c.push_reserved.new.self.items _ c.loop-door.yielded c.in-Some.door added refl so_far.doors;
      count = omega (arith, one_less, next, count);
      those =
          All-rest (λ part. ArePassesOf part c.args.counters.now) c.remove-part.result c.remove-part.new.self.items c.loop-door.parts.items first so_far.those;
      opened = All-rest (λ part.
          HaveSeenOpenings (fixeds_of c.args.counters.now) (passes_in part)) c.remove-part.result c.remove-part.new.self.items c.loop-door.parts.items first
          so_far.opened;
      fresh = λ before parts.
          let both = so_far.fresh before parts in
          let here = All-head (AreParts before) c.remove-part.result c.remove-part.new.self.items
          (All-same (AreParts before) (c.remove-part.result ∷ c.remove-part.new.self.items) c.loop-door.parts.items (sym first) both.1) in (
            All-same (IsWorkerFresh c.args.counters.now before) c.push_reserved.new.self.items _ added
                (All-push (IsWorkerFresh c.args.counters.now before) c.loop-door.crew.items _ both.0
                (record {
                  counters_are = c.new-job.ensures.counters;
                  parts = subst (AreParts before) (sym c.new-job.ensures.passes) here;
                  none =
                      c.new-job.ensures.none;
                  running = refl;
                })),
            All-rest (AreParts before) c.remove-part.result c.remove-part.new.self.items c.loop-door.parts.items first both.1,
          );
      room = c.push_reserved.ensures.capacity ∙ so_far.room;
    }

pub returns-clause-fresh : goal.returns-clause-fresh
returns-clause-fresh g c = λ before parts. (c.loop-door.invariant.fresh before parts).0
