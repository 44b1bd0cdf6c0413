use Rattle.std.proofs.Common.{◌≡◌, ◌≤◌, ◌∙◌, [], length, map, sum_by, append-nil, refl, sym, ap, subst, arith}
use Rattle.std.proofs.lemmas.List.{length-map}
use Rattle.std.specs.List.{AllByRecursion, AllZip}
use Rattle.turnstile.specs.History.{IsPrefix}
use Rattle.turnstile.specs.Passes.{seen, shares, turns}
use Rattle.desk_counter.specs.Counters.{kept_by}
use Rattle.desk_crew.specs.Crew.{seat_kept}
use Rattle.session_core.specs.Members.{AreDesksOf, HaveSeenLegal, ArePasses}
use Rattle.serve_engine.specs.Members.{members_of, HaveSeenOpenings, OwnMore, own_at}
use Rattle.serve_engine.specs.Served.{Served}
use Rattle.serve_engine.specs.Sharing.{keeper_of, seat_counter, seat_pass, IsServedAt}
use Rattle.serve_engine.proofs.Apart.{kept_apart, served_still, none_served, apart_turns, apart_opened, seats_on, seats_same, served_at}
use Rattle.serve_engine.proofs.sharing.serve_seats.Goals as goal

pub new-counters-requires : goal.new-counters-requires
new-counters-requires g c =
    let apart = c.take_apart-keepers.ensures in
    let counters = c.take_apart-keepers.result.1.items in
    let kept : map kept_by counters ≡ map seat_kept c.args.seats.items = ap (map kept_by) apart.counters ∙ kept_apart c.args.seats.items in
    record {
      passes = apart.places;
      desks = subst (AreDesksOf c.args.users.now) (sym kept) c.requires.desks;
      legal = subst (HaveSeenLegal (map kept_by counters)) (sym apart.passes)
          (subst (λ fs. HaveSeenLegal fs (map seat_pass c.args.seats.items)) (sym kept) c.requires.legal);
    }

pub serve_doors-outcome-requires-clause-these : goal.serve_doors-outcome-requires-clause-these
serve_doors-outcome-requires-clause-these g c κs within = c.new-counters.ensures.at

pub serve_doors-outcome-requires-clause-opened : goal.serve_doors-outcome-requires-clause-opened
serve_doors-outcome-requires-clause-opened g c κs within =
    let made = c.new-counters.ensures in
    let apart = c.take_apart-keepers.ensures in
    subst (λ ps. HaveSeenOpenings (map kept_by c.new-counters.result.0.counters.items) ps) (sym (made.passes ∙ apart.passes))
    (subst (λ cs. HaveSeenOpenings (map kept_by cs) (map seat_pass c.args.seats.items)) (sym (made.counters ∙ apart.counters))
    (apart_opened c.args.seats.items c.requires.fresh))

pub serve_doors-outcome-requires-clause-shares : goal.serve_doors-outcome-requires-clause-shares
serve_doors-outcome-requires-clause-shares g c κs within =
    subst (AllByRecursion (λ pass. shares pass ≡ 65)) (sym c.new-counters.ensures.passes) c.take_apart-keepers.ensures.all

pub serve_doors-outcome-requires-clause-turns : goal.serve_doors-outcome-requires-clause-turns
serve_doors-outcome-requires-clause-turns g c κs within =
    subst (AllByRecursion (λ pass. 9367487224930631680 ≤ turns pass)) (sym (c.new-counters.ensures.passes ∙ c.take_apart-keepers.ensures.passes))
    (apart_turns c.args.seats.items c.requires.turns)

pub put_together-seats-requires-clause-room : goal.put_together-seats-requires-clause-room
put_together-seats-requires-clause-room g c =
    let keepers = ap length c.take_apart-keepers.ensures.keepers in
    let seats = length-map c.args.seats.items keeper_of in
    let len = c.args.seats.ok.0 in
    let count = c.len-count.ensures in
    let room = c.in-Ok-Ok.ensures'.room in
    omega (arith, keepers, seats, len, count, room)

pub put_together-seats-requires-clause-count : goal.put_together-seats-requires-clause-count
put_together-seats-requires-clause-count g c =
    let counters = ap length (c.into_parts-counters.ensures.counters ∙ c.new-counters.ensures.counters ∙ c.take_apart-keepers.ensures.counters) in
    let keepers = ap length c.take_apart-keepers.ensures.keepers in
    let first = length-map c.args.seats.items seat_counter in
    let second = length-map c.args.seats.items keeper_of in
    omega (arith, counters, keepers, first, second)

pub put_together-seats-requires-clause-passes : goal.put_together-seats-requires-clause-passes
put_together-seats-requires-clause-passes g c =
    let parts = c.into_parts-counters.ensures in
    subst (λ ps. ArePasses ps c.into_parts-counters.result.0.items) (sym parts.passes)
    (subst (λ cs. ArePasses c.serve_doors-outcome.new.passes.passes.items cs) (sym parts.counters) c.serve_doors-outcome.ensures.these.are)

pub put_together-seats-requires-clause-all : goal.put_together-seats-requires-clause-all
put_together-seats-requires-clause-all g c =
    subst (AllByRecursion (λ pass. shares pass ≡ 65)) (sym c.into_parts-counters.ensures.passes) c.serve_doors-outcome.ensures.shares

pub returns-clause-on : goal.returns-clause-on
returns-clause-on g c =
    let made = c.new-counters.ensures in
    let apart = c.take_apart-keepers.ensures in
    let parts = c.into_parts-counters.ensures in
    let again = c.put_together-seats.ensures in
    let first = subst (λ ps. AllZip (λ earlier later. IsPrefix (seen earlier) (seen later)) ps c.serve_doors-outcome.new.passes.passes.items)
    (made.passes ∙ apart.passes) c.serve_doors-outcome.ensures.on in
    seats_on c.args.seats.items c.put_together-seats.result.items (again.keepers ∙ apart.keepers)
    (again.counters ∙ parts.counters ∙ made.counters ∙ apart.counters)
    (subst (λ ps. AllZip (λ earlier later. IsPrefix (seen earlier) (seen later)) (map seat_pass c.args.seats.items) ps)
    (sym (again.passes ∙ parts.passes)) first)

pub returns-clause-served : goal.returns-clause-served
returns-clause-served g c =
    let made = c.new-counters.ensures in
    let parts = c.into_parts-counters.ensures in
    let again = c.put_together-seats.ensures in
    let served = c.serve_doors-outcome.ensures.served in (
      served.0,
      served.1,
      served_still g.O.Door _ (IsServedAt c.args.users.now c.put_together-seats.result.items)
          (λ visit marks is.
          served_at c.args.users.now c.put_together-seats.result.items
          (map kept_by c.new-counters.result.0.counters.items) c.serve_doors-outcome.new.passes.passes.items
          (ap (map kept_by) (sym (again.counters ∙ parts.counters))) (sym (again.passes ∙ parts.passes)) visit marks
          (λ schema world all.
          subst (λ us. Served schema world us
          (members_of (map kept_by c.new-counters.result.0.counters.items) c.serve_doors-outcome.new.passes.passes.items) visit marks) made.users
          (is schema world all)))
          served.0 served.1 c.args.doors.items c.serve_doors-outcome.result.1.items served.2,
      served.3,
      served.4,
      λ t. subst (λ ps. OwnMore (map seat_pass c.args.seats.items) ps (served.1 t)) (sym (again.passes ∙ parts.passes))
          (subst (λ ps. OwnMore ps c.serve_doors-outcome.new.passes.passes.items (served.1 t)) (made.passes ∙ c.take_apart-keepers.ensures.passes)
          (served.5 t)),
    )

pub returns-in_default-clause-on : goal.returns-in_default-clause-on
returns-in_default-clause-on g c = seats_same c.args.seats.items

pub returns-in_default-clause-served : goal.returns-in_default-clause-served
returns-in_default-clause-served g c = (
  0,
  λ t. [],
  none_served g.O.Door
      (IsServedAt c.args.users.now c.args.seats.items) c.args.doors.items,
  refl,
  omega arith,
  λ t place weight. ap (sum_by weight) (sym (append-nil (own_at place (map seat_pass c.args.seats.items)))),
)
