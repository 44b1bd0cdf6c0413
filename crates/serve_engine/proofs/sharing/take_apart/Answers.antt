use Rattle.std.proofs.Common.{◌≡◌, ◌++◌, ◌∷◌, [], refl, sym, ap, subst, ◌∙◌, rules, arith}
use Rattle.serve_engine.specs.Sharing.{keeper_of, seat_counter, seat_pass}
use Rattle.worker_pool.proofs.Seating.{read_on}
use Rattle.std.specs.List.{AllByRecursion}
use Rattle.turnstile.specs.Passes.{shares}
use Rattle.session_core.specs.Members.{ArePasses}
use Rattle.serve_engine.proofs.Apart.{passes_more, shares_more}
use Rattle.serve_engine.proofs.Reading.{grown, room_left, grown_all}
use Rattle.serve_engine.proofs.sharing.take_apart.Goals as goal

pub loop-seat-init : goal.loop-seat-init
loop-seat-init g c = record {
  rest = search rules;
  keepers = c.requires.empty.0;
  counters = c.requires.empty.1;
  passes = c.requires.empty.2;
  places = subst (λ ps. ArePasses ps c.args.rooms.1.items) (sym c.requires.empty.2) (subst (λ cs. ArePasses [] cs) (sym c.requires.empty.1) tt);
  all = subst (AllByRecursion (λ pass. shares pass ≡ 65)) (sym c.requires.empty.2) tt;
  rooms = (refl, refl, refl);
}

pub loop-seat-preserved : goal.loop-seat-preserved
loop-seat-preserved g c =
    let so_far = c.loop-seat.invariant in
    let parts = c.into_parts-counter.ensures in
    record {
      rest = read_on c.args.seats.items c.loop-seat.yielded _ _ _ so_far.rest c.in-Some.ensures.steps.0;
      keepers = grown keeper_of _ _ c.loop-seat.yielded c.in-Some.seat c.push_reserved-in-loop-seat-2.ensures.items so_far.keepers;
      counters = grown seat_counter _ _ c.loop-seat.yielded c.in-Some.seat (c.push_reserved.ensures.items
          ∙ ap (λ x. c.loop-seat.counters.items ++ x ∷ []) parts.counter) so_far.counters;
      passes = grown seat_pass _ _ c.loop-seat.yielded c.in-Some.seat (c.push_reserved-in-loop-seat.ensures.items
          ∙ ap (λ x. c.loop-seat.passes.items ++ x ∷ []) parts.pass) so_far.passes;
      places = subst (λ ps. ArePasses ps c.push_reserved.new.self.items) (sym c.push_reserved-in-loop-seat.ensures.items)
          (subst (ArePasses (c.loop-seat.passes.items ++ c.into_parts-counter.result.1 ∷ [])) (sym c.push_reserved.ensures.items)
          (passes_more c.loop-seat.passes.items c.loop-seat.counters.items c.into_parts-counter.result.1 c.into_parts-counter.result.0 so_far.places
          parts.place));
      all = subst (AllByRecursion (λ pass. shares pass ≡ 65)) (sym c.push_reserved-in-loop-seat.ensures.items)
          (shares_more c.loop-seat.passes.items c.into_parts-counter.result.1 so_far.all parts.all);
      rooms = (
        c.push_reserved-in-loop-seat-2.ensures.capacity ∙ so_far.rooms.0,
        c.push_reserved.ensures.capacity ∙ so_far.rooms.1,
        c.push_reserved-in-loop-seat.ensures.capacity ∙ so_far.rooms.2,
      );
    }

pub push_reserved-requires : goal.push_reserved-requires
push_reserved-requires g c =
    let so_far = c.loop-seat.invariant in
    let space = so_far.rooms.1 in
    let enough = c.requires.room.1 in
    let counted = c.loop-seat.counters.ok.0 in
    room_left seat_counter c.loop-seat.counters.items c.args.seats.items c.loop-seat.yielded _ _ c.in-Some.seat _ _ so_far.counters so_far.rest
    c.in-Some.ensures.steps.0 counted (omega (arith, space, enough))

pub push_reserved-requires-in-loop-seat : goal.push_reserved-requires-in-loop-seat
push_reserved-requires-in-loop-seat g c =
    let so_far = c.loop-seat.invariant in
    let space = so_far.rooms.2 in
    let enough = c.requires.room.2 in
    let counted = c.loop-seat.passes.ok.0 in
    room_left seat_pass c.loop-seat.passes.items c.args.seats.items c.loop-seat.yielded _ _ c.in-Some.seat _ _ so_far.passes so_far.rest
    c.in-Some.ensures.steps.0 counted (omega (arith, space, enough))

pub push_reserved-requires-in-loop-seat-2 : goal.push_reserved-requires-in-loop-seat-2
push_reserved-requires-in-loop-seat-2 g c =
    let so_far = c.loop-seat.invariant in
    let space = so_far.rooms.0 in
    let enough = c.requires.room.0 in
    let counted = c.loop-seat.keepers.ok.0 in
    room_left keeper_of c.loop-seat.keepers.items c.args.seats.items c.loop-seat.yielded _ _ c.in-Some.seat _ _ so_far.keepers so_far.rest
    c.in-Some.ensures.steps.0 counted (omega (arith, space, enough))

pub returns-clause-keepers : goal.returns-clause-keepers
returns-clause-keepers g c =
    grown_all keeper_of c.loop-seat.keepers.items c.args.seats.items c.loop-seat.yielded _ c.loop-seat.invariant.keepers c.loop-seat.invariant.rest
    (search rules)

pub returns-clause-counters : goal.returns-clause-counters
returns-clause-counters g c =
    grown_all seat_counter c.loop-seat.counters.items c.args.seats.items c.loop-seat.yielded _ c.loop-seat.invariant.counters c.loop-seat.invariant.rest
    (search rules)

pub returns-clause-passes : goal.returns-clause-passes
returns-clause-passes g c =
    grown_all seat_pass c.loop-seat.passes.items c.args.seats.items c.loop-seat.yielded _ c.loop-seat.invariant.passes c.loop-seat.invariant.rest (search rules)
