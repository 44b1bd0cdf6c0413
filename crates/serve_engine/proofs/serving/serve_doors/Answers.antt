use denote.Param.Send.{sendable}
use Rattle.std.proofs.Common.{rules, arith, ◌≡◌, ◌≤◌, ◌∙◌, [], length, sum_by, refl, sym, ap, subst}
use Rattle.std.specs.Prelude.{None}
use Rattle.std.proofs.lemmas.List.{length-map}
use Rattle.std.proofs.lemmas.List.Elements.{All-same, All-weaker, All-from_recursion, recursion_from_All}
use Rattle.desk_counter.proofs.Crossing.{ticketed_desk_send}
use Rattle.session_core.specs.Members.{passes_in, fixeds_of}
use Rattle.serve_engine.specs.Doors.{AreServedDoors}
use Rattle.serve_engine.specs.Jobs.{job_passes, job_runs}
use Rattle.serve_engine.specs.Members.{HaveSeenOpenings, IsServedBy, own_at, room_in}
use Rattle.serve_engine.specs.Served.{items_told}
use Rattle.serve_engine.proofs.Owning.{own_weight, weigh_more}
use Rattle.serve_engine.specs.Passing.{AreParts, IsWorkerFresh, IsWorkerBack}
use Rattle.serve_engine.proofs.Crossing.{job_send}
use Rattle.serve_engine.proofs.Apart.{none_served}
use Rattle.serve_engine.proofs.Connections.{sum_none}
use Rattle.serve_engine.proofs.Later.{openings_later, room_enough}
use Rattle.serve_engine.proofs.Meeting.{on_same, on_then}
use Rattle.serve_engine.proofs.Outcomes.{as_long, are_back, served_together}
use Rattle.serve_engine.proofs.serving.serve_doors.Goals as goal

pub serve_all-requires-send-J : goal.serve_all-requires-send-J
serve_all-requires-send-J g c κs within = search (sendable, job_send, ticketed_desk_send) depth 30

pub returns-in_default-clause-on : goal.returns-in_default-clause-on
returns-in_default-clause-on g c = on_same (passes_in c.args.passes.now)

pub returns-in_default-clause-served : goal.returns-in_default-clause-served
returns-in_default-clause-served g c = (
  0,
  λ t. [],
  none_served g.O.Door
      (IsServedBy c.args.counters.now c.args.passes.now) c.args.doors.items,
  refl,
  omega arith,
  λ t place weight. let none = weigh_more weight (own_at place (passes_in c.args.passes.now)) (items_told place) [] in omega (arith, none),
)

pub returns-in_default-split_all-clause-served : goal.returns-in_default-split_all-clause-served
returns-in_default-split_all-clause-served g c = (
  0,
  λ t. [],
  none_served g.O.Door
      (IsServedBy c.args.counters.now c.split_all.new.passes) c.args.doors.items,
  refl,
  omega arith,
  λ t place weight.
      let same = c.split_all.ensures.own place weight in
      let none = weigh_more weight (own_at place (passes_in c.args.passes.now)) (items_told place) [] in
      omega (arith, same, none),
)

pub crew_of-crew-requires-clause-opened : goal.crew_of-crew-requires-clause-opened
crew_of-crew-requires-clause-opened g c κs within =
    let fixeds = fixeds_of c.args.counters.now in
    let first = passes_in c.args.passes.now in
    All-weaker (AreParts c.args.passes.now) (λ part. HaveSeenOpenings fixeds (passes_in part)) (λ part is.
    openings_later fixeds first (passes_in part) is.on c.requires.opened) c.in-Some.parts.items c.in-Some.ensures.parts

pub serve_all-requires-clause-running : goal.serve_all-requires-clause-running
serve_all-requires-clause-running g c κs within =
    All-weaker (IsWorkerFresh c.args.counters.now c.args.passes.now) (λ worker. worker.ended ≡ None) (λ worker is. is.running) c.crew_of-crew.result.items
    (c.crew_of-crew.ensures.fresh c.args.passes.now c.in-Some.ensures.parts)

pub serve_all-requires-clause-none : goal.serve_all-requires-clause-none
serve_all-requires-clause-none g c κs within =
    All-weaker (IsWorkerFresh c.args.counters.now c.args.passes.now) (λ worker. job_runs worker.job ≡ 0) (λ worker is. is.none) c.crew_of-crew.result.items
    (c.crew_of-crew.ensures.fresh c.args.passes.now c.in-Some.ensures.parts)

pub serve_all-requires-clause-room : goal.serve_all-requires-clause-room
serve_all-requires-clause-room g c κs within =
    let most = c.requires.limit in
    All-weaker (IsWorkerFresh c.args.counters.now c.args.passes.now) (λ worker. c.args.limit ≤ room_in (passes_in (job_passes worker.job)))
    (λ worker is. let enough = room_enough (passes_in (job_passes worker.job)) is.parts.turns_are in omega (arith, most, enough))
    c.crew_of-crew.result.items (c.crew_of-crew.ensures.fresh c.args.passes.now c.in-Some.ensures.parts)

pub dismiss-requires-clause-room : goal.dismiss-requires-clause-room
dismiss-requires-clause-room g c κs within =
    let counted = c.len-count.ensures in
    let items = c.args.doors.ok.0 in
    let doors = ap length c.crew_of-crew.ensures.doors in
    let crew = length-map c.crew_of-crew.result.items (λ worker. worker.door) in
    let same = as_long g.O.Door c.crew_of-crew.result.items c.in-Ok.crew.items
    c.in-Ok.ensures.served in
    let space = c.in-Ok-Ok.ensures'.room in
    omega (arith, counted, items, doors, crew, same, space)

pub dismiss-requires-clause-crew : goal.dismiss-requires-clause-crew
dismiss-requires-clause-crew g c κs within =
    let first = c.args.passes.now in
    let counters = c.args.counters.now in
    All-from_recursion (IsWorkerBack counters) c.in-Ok.crew.items
    (are_back g.O.Door counters first c.crew_of-crew.result.items
    c.in-Ok.crew.items
    (recursion_from_All (IsWorkerFresh counters first) c.crew_of-crew.result.items (c.crew_of-crew.ensures.fresh first c.in-Some.ensures.parts))
    c.in-Ok.ensures.served)

pub dismiss-requires-clause-rest : goal.dismiss-requires-clause-rest
dismiss-requires-clause-rest g c κs within =
    let counted = c.len-count.ensures in
    let items = c.args.doors.ok.0 in
    let doors = ap length c.crew_of-crew.ensures.doors in
    let crew = length-map c.crew_of-crew.result.items (λ worker. worker.door) in
    let same = as_long g.O.Door c.crew_of-crew.result.items c.in-Ok.crew.items
    c.in-Ok.ensures.served in
    let rest = c.in-Some.ensures.rest in
    let total = rest.2 in
    (rest.0, rest.1, omega (arith, counted, items, doors, crew, same, total))

pub dismiss-requires-in-Err-clause-crew : goal.dismiss-requires-in-Err-clause-crew
dismiss-requires-in-Err-clause-crew g c κs within =
    let first = c.args.passes.now in
    let counters = c.args.counters.now in
    let same : c.in-Err.crew.items ≡ c.crew_of-crew.result.items = cc (c.in-Err.ensures.refused) in
    All-same (IsWorkerBack counters) c.in-Err.crew.items c.crew_of-crew.result.items same
    (All-weaker (IsWorkerFresh counters first) (IsWorkerBack counters) (λ worker is.
    record { counters_are = is.counters_are; shares_are = is.parts.shares_are }) c.crew_of-crew.result.items
    (c.crew_of-crew.ensures.fresh first c.in-Some.ensures.parts))

pub dismiss-requires-in-Err-clause-rest : goal.dismiss-requires-in-Err-clause-rest
dismiss-requires-in-Err-clause-rest g c κs within =
    let counted = c.len-count.ensures in
    let items = c.args.doors.ok.0 in
    let doors = ap length c.crew_of-crew.ensures.doors in
    let crew = length-map c.crew_of-crew.result.items (λ worker. worker.door) in
    let same : c.in-Err.crew.items ≡ c.crew_of-crew.result.items = cc (c.in-Err.ensures.refused) in
    let as_many = ap length same in
    let rest = c.in-Some.ensures.rest in
    let total = rest.2 in
    (rest.0, rest.1, omega (arith, counted, items, doors, crew, as_many, total))

pub returns-in-Ok-clause-on : goal.returns-in-Ok-clause-on
returns-in-Ok-clause-on g c =
    on_then (passes_in c.args.passes.now) (passes_in c.split_all.new.passes) (passes_in c.dismiss.new.passes) c.in-Some.ensures.on c.dismiss.ensures.on

pub returns-in-Ok-clause-served : goal.returns-in-Ok-clause-served
returns-in-Ok-clause-served g c =
    let first = c.args.passes.now in
    served_together g.O.Door c.args.counters.now first c.dismiss.new.passes
    c.args.limit c.outcome_of-outcome.result c.args.doors.items c.dismiss.result.items
    c.crew_of-crew.result.items c.in-Ok.crew.items c.crew_of-crew.ensures.doors c.dismiss.ensures.doors (search rules) c.requires.whole c.requires.unended
    (c.crew_of-crew.ensures.fresh first c.in-Some.ensures.parts) c.dismiss.ensures.all_on c.dismiss.ensures.these.legal c.in-Ok.ensures.reached
    c.in-Ok.ensures.served
    c.in-Ok.ensures.limit
    (λ weight place.
    let all = c.dismiss.ensures.own place weight
    ∙ weigh_more weight (own_at place (passes_in c.split_all.new.passes)) (λ worker. own_at place (passes_in (job_passes worker.job))) c.in-Ok.crew.items in
    let rest = c.split_all.ensures.own place weight in
    omega (arith, all, rest))

pub returns-in-Err-clause-on : goal.returns-in-Err-clause-on
returns-in-Err-clause-on g c =
    on_then (passes_in c.args.passes.now) (passes_in c.split_all.new.passes)
    (passes_in c.dismiss-in-Err.new.passes) c.in-Some.ensures.on c.dismiss-in-Err.ensures.on

pub returns-in-Err-clause-served : goal.returns-in-Err-clause-served
returns-in-Err-clause-served g c =
    let stands = IsServedBy c.args.counters.now c.dismiss-in-Err.new.passes in
    let same : c.in-Err.crew.items ≡ c.crew_of-crew.result.items = cc (c.in-Err.ensures.refused) in
    let back : c.dismiss-in-Err.result.items ≡ c.args.doors.items = cc (c.dismiss-in-Err.ensures.doors, same, c.crew_of-crew.ensures.doors) in
    let fresh = c.crew_of-crew.ensures.fresh c.args.passes.now c.in-Some.ensures.parts in (
      0,
      λ t. [],
      subst (λ ds. AreServedDoors g.O.Door stands 0 (λ t. []) c.args.doors.items ds) (sym back)
          (none_served g.O.Door stands c.args.doors.items),
      refl,
      omega arith,
      λ t place weight.
          let all = c.dismiss-in-Err.ensures.own place weight
          ∙ weigh_more weight (own_at place (passes_in c.split_all.new.passes)) (λ worker. own_at place (passes_in (job_passes worker.job)))
          c.in-Err.crew.items in
          let rest = c.split_all.ensures.own place weight in
          let told = weigh_more weight (own_at place (passes_in c.args.passes.now)) (items_told place) [] in
          let none = sum_none (λ worker. own_weight weight place (passes_in (job_passes worker.job))) c.in-Err.crew.items
          (All-same (λ worker. own_weight weight place (passes_in (job_passes worker.job)) ≡ 0) c.in-Err.crew.items c.crew_of-crew.result.items same
          (All-weaker (IsWorkerFresh c.args.counters.now c.args.passes.now) (λ worker. own_weight weight place (passes_in (job_passes worker.job))
          ≡ 0) (λ worker is. ap (sum_by weight) (is.parts.none_own place)) c.crew_of-crew.result.items fresh)) in
          omega (arith, all, rest, none, told),
    )
