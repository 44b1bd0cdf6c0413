use Rattle.std.proofs.Common.{◌∷◌, [], refl, sym, ◌∙◌, arith, rules, append-nil, length-append}
use Rattle.std.proofs.lemmas.List.Sums.{sum_by-append}
use Rattle.outside.specs.Visits.{one_if_any}
use Rattle.worker_pool.proofs.Seating.{read_on, read_more}
use Rattle.serve_engine.proofs.Backing.{sum_more, flat_more, failed_more}
use Rattle.serve_engine.proofs.run.take_back_all.Goals as goal

pub take_back-requires : goal.take_back-requires
take_back-requires g c =
    let out = c.loop-door.invariant.out in
    let more = read_more c.args.doors.items c.loop-door.yielded _ _ c.in-Some.door c.loop-door.invariant.rest c.in-Some.ensures.steps.0 in
    let enough = c.requires in
    omega (arith, out, more, enough)

pub loop-door-init : goal.loop-door-init
loop-door-init g c = record {
  rest = search rules;
  out = omega arith;
  ended = omega arith;
  given = λ t. omega arith;
  left = λ t. omega arith;
  at_hand = λ t. omega arith;
  back = λ t. sym (append-nil (g.L.Links.back c.args.links.now));
  listened = λ t. refl;
  dialling = refl;
  exchanged = λ t. refl;
  exchange_faults = λ name. refl;
  later = omega arith;
  failed = λ none. absurd none;
}

pub loop-door-preserved : goal.loop-door-preserved
loop-door-preserved g c =
    let so_far = c.loop-door.invariant in
    let back = c.take_back.ensures in
    let out = so_far.out in
    let less = back.out in
    let read = length-append c.loop-door.yielded (c.in-Some.door ∷ []) in
    let before = so_far.later in
    let after = back.later in
    record {
      rest = read_on c.args.doors.items c.loop-door.yielded _ _ _ so_far.rest c.in-Some.ensures.steps.0;
      out = omega (arith, out, less, read);
      ended = sum_more (λ door. one_if_any (g.L.D.Door.ends door)) c.loop-door.yielded c.in-Some.door _ _ _ so_far.ended back.ended;
      given = λ t. sum_more g.L.D.Door.given c.loop-door.yielded c.in-Some.door _ _ _ (so_far.given t) (back.given t);
      left = λ t.
          let before = so_far.left t in
          let less = back.left t in
          let more = sum_by-append g.L.D.Door.given c.loop-door.yielded (c.in-Some.door ∷ []) in
          omega (arith, before, less, more);
      at_hand = λ t. sum_more g.L.D.Door.left c.loop-door.yielded c.in-Some.door _ _ _ (so_far.at_hand t) (back.at_hand t);
      listened = λ t. back.listened t ∙ so_far.listened t;
      back = λ t. flat_more g.L.D.Door.back c.loop-door.yielded c.in-Some.door _ _ _ (so_far.back t) (back.back t);
      dialling = back.dialling ∙ so_far.dialling;
      exchanged = λ t. back.exchanged t ∙ so_far.exchanged t;
      exchange_faults = λ name. back.exchange_faults name ∙ so_far.exchange_faults name;
      later = omega (arith, before, after);
      failed = failed_more g.L.D.Door.faults c.loop-door.yielded c.in-Some.door _ _ _ before after so_far.failed back.failed;
    }
