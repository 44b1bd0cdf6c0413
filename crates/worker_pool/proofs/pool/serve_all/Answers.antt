use Rattle.std.proofs.Common.{rules, ◌≡◌, ◌≤◌, map, ap, ◌∙◌, sym, subst, All}
use Rattle.list_sums.proofs.Lent.{lent_whole}
use Rattle.worker_pool.specs.declared.pool.Seated.{Seated}
use Rattle.worker_pool.specs.Drawers.{IsAt}
use Rattle.worker_pool.proofs.Seating.{in_seats}
use Rattle.worker_pool.proofs.Serving.{together}
use Rattle.worker_pool.proofs.pool.serve_all.Goals as goal

pub work_all-requires-clause-room : goal.work_all-requires-clause-room
work_all-requires-clause-room g c _ _ =
    let lent : c.deref_mut.result.now ≡ c.seat_all-all.result.items = search rules in
    subst (All (λ s. c.args.limit ≤ g.J.Job.room s.worker.job)) (sym lent)
    (in_seats (λ w. c.args.limit ≤ g.J.Job.room w.job) c.seat_all-all.result.items c.args.crew.items c.seat_all-all.ensures.workers c.requires.room)

pub work_all-requires-clause-none : goal.work_all-requires-clause-none
work_all-requires-clause-none g c _ _ =
    let lent : c.deref_mut.result.now ≡ c.seat_all-all.result.items = search rules in
    subst (All (λ s. g.J.Job.ran s.worker.job ≡ 0)) (sym lent)
    (in_seats (λ w. g.J.Job.ran w.job ≡ 0) c.seat_all-all.result.items c.args.crew.items c.seat_all-all.ensures.workers c.requires.none)

pub join_all-crew-requires-clause-places : goal.join_all-crew-requires-clause-places
join_all-crew-requires-clause-places g c =
    let whole = lent_whole c.seat_all-all.result.len c.work_all.new.all c.seat_all-all.result.items (search rules) (search rules) in
    subst (All (λ s. IsAt c.in-Ok-Ok-Ok.numbers s.drawer)) (sym whole) (λ k d within. search rules)

pub returns : goal.returns
returns g c =
    let lent : c.deref_mut.result.now ≡ c.seat_all-all.result.items = search rules in
    let whole = lent_whole c.seat_all-all.result.len c.work_all.new.all c.seat_all-all.result.items (search rules) (search rules) in
    let t = together g.O.Door.tells g.J.Job.tells g.O.Door.given g.O.Door.left g.O.Door.ends g.O.Door.faults g.O.Door.back g.J.Job.room g.J.Job.ran
    g.J.Job.numbers g.J.Job.stands g.J.Job.keeps
    (g.met.J.Job g.world.𝓛 g.world.𝓜 g.world.𝓡 ((λ s x. x), (λ x. x), (λ x. x), λ x. x)).stands_none c.args.limit
    c.args.crew.items c.join_all-crew.result.items c.deref_mut.result.now c.work_all.new.all _ _
    (ap (map (λ (s : Seated g.row.J.Denot g.row.O.Denot). s.worker)) lent
    ∙ c.seat_all-all.ensures.workers) c.requires.none c.work_all.ensures.count c.work_all.ensures.worked
    whole c.join_all-crew.ensures.workers c.join_all-crew.ensures.drawn c.end.ensures in
    record { refused = tt; served = t.served; limit = t.at_most; reached = t.at_limit; numbers = t.differ }
