use Rattle.std.proofs.Common.{◌≡◌, ◌++◌, ◌∷◌, [], length, map, refl, ap, ◌∙◌, subst, rules, arith, length-append}
use Rattle.std.specs.List.{AllByRecursion}
use Rattle.turnstile.specs.Passes.{shares}
use Rattle.session_core.specs.Members.{ArePasses}
use Rattle.session_core.proofs.Passing.{passes_many}
use Rattle.worker_pool.proofs.Seating.{read_on, read_more, read_all}
use Rattle.serve_engine.specs.Sharing.{keeper_of, seat_counter, seat_pass}
use Rattle.serve_engine.proofs.Reading.{taken_first, returned, regrown, returned_all}
use Rattle.serve_engine.proofs.sharing.put_together.Goals as goal

pub loop-keeper-init : goal.loop-keeper-init
loop-keeper-init g c =
    let count = c.requires.count in
    record {
      rest = search rules;
      keepers = ap (map keeper_of) c.requires.empty;
      counters = ap (λ l. map seat_counter l ++ c.args.counters.items) c.requires.empty;
      passes = ap (λ l. map seat_pass l ++ c.args.passes.items) c.requires.empty;
      counts = (omega (arith, count), passes_many c.args.passes.items c.args.counters.items c.requires.passes);
      place = c.requires.passes;
      all = c.requires.all;
      room = refl;
    }

pub remove-requires : goal.remove-requires
remove-requires g c =
    let counts = c.loop-keeper.invariant.counts.0 in
    let more = read_more c.args.keepers.items c.loop-keeper.yielded _ _ c.in-Some.keeper c.loop-keeper.invariant.rest c.in-Some.ensures.steps.0 in
    let len = c.loop-keeper.counters.ok.0 in
    omega (arith, counts, more, len)

pub remove-requires-in-loop-keeper : goal.remove-requires-in-loop-keeper
remove-requires-in-loop-keeper g c =
    let counts = c.loop-keeper.invariant.counts.0 in
    let same = c.loop-keeper.invariant.counts.1 in
    let more = read_more c.args.keepers.items c.loop-keeper.yielded _ _ c.in-Some.keeper c.loop-keeper.invariant.rest c.in-Some.ensures.steps.0 in
    let len = c.loop-keeper.passes.ok.0 in
    omega (arith, counts, same, more, len)

pub loop-keeper-preserved : goal.loop-keeper-preserved
loop-keeper-preserved g c =
    let so_far = c.loop-keeper.invariant in
    let many = so_far.counts.0 in
    let same = so_far.counts.1 in
    let more = read_more c.args.keepers.items c.loop-keeper.yielded _ _ c.in-Some.keeper so_far.rest c.in-Some.ensures.steps.0 in
    let counters = taken_first c.loop-keeper.counters.items c.remove.result c.remove.new.self.items
    (omega (arith, many, more)) c.remove.ensures.value c.remove.ensures.items in
    let passes = taken_first c.loop-keeper.passes.items c.remove-in-loop-keeper.result c.remove-in-loop-keeper.new.self.items
    (omega (arith, many, same, more)) c.remove-in-loop-keeper.ensures.value c.remove-in-loop-keeper.ensures.items in
    let first = ap length counters in
    let second = ap length passes in
    let read = length-append c.loop-keeper.yielded (c.in-Some.keeper ∷ []) in
    let place = subst (λ ps. ArePasses ps (c.remove.result ∷ c.remove.new.self.items)) passes
    (subst (λ cs. ArePasses c.loop-keeper.passes.items cs) counters so_far.place) in
    let all = subst (AllByRecursion (λ pass. shares pass ≡ 65)) passes so_far.all in
    record {
      rest = read_on c.args.keepers.items c.loop-keeper.yielded _ _ _ so_far.rest c.in-Some.ensures.steps.0;
      keepers = regrown keeper_of c.loop-keeper.seats.items _ _ c.loop-keeper.yielded c.in-Some.keeper c.push_reserved.ensures.items refl so_far.keepers;
      counters = returned seat_counter c.loop-keeper.seats.items _ _ c.loop-keeper.counters.items c.remove.new.self.items _ c.remove.result
          c.push_reserved.ensures.items c.from_parts-desk.ensures.counter counters so_far.counters;
      passes = returned seat_pass c.loop-keeper.seats.items _ _ c.loop-keeper.passes.items c.remove-in-loop-keeper.new.self.items _
          c.remove-in-loop-keeper.result c.push_reserved.ensures.items c.from_parts-desk.ensures.pass passes so_far.passes;
      counts = (omega (arith, many, first, read), omega (arith, same, first, second));
      place = place.1;
      all = all.1;
      room = c.push_reserved.ensures.capacity ∙ so_far.room;
    }

pub returns-clause-counters : goal.returns-clause-counters
returns-clause-counters g c =
    let all = ap length (read_all c.args.keepers.items c.loop-keeper.yielded _ c.loop-keeper.invariant.rest (search rules)) in
    let many = c.loop-keeper.invariant.counts.0 in
    returned_all seat_counter c.loop-keeper.seats.items c.loop-keeper.counters.items _ (omega (arith, all, many)) c.loop-keeper.invariant.counters

pub returns-clause-passes : goal.returns-clause-passes
returns-clause-passes g c =
    let all = ap length (read_all c.args.keepers.items c.loop-keeper.yielded _ c.loop-keeper.invariant.rest (search rules)) in
    let many = c.loop-keeper.invariant.counts.0 in
    let same = c.loop-keeper.invariant.counts.1 in
    returned_all seat_pass c.loop-keeper.seats.items c.loop-keeper.passes.items _ (omega (arith, all, many, same)) c.loop-keeper.invariant.passes
