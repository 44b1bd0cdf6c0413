use Rattle.std.proofs.Common.{rules, arith, ◌≡◌, ◌≤◌, ◌+◌, [], ◌∷◌, ◌++◌, List, ℕ, length, sum_by, ap, ◌∙◌, subst, length-append}
use Rattle.worker_pool.specs.declared.hand.Hand.{Hand}
use Rattle.worker_pool.specs.Hands.{is_below}
use Rattle.worker_pool.specs.Drawers.{drawn}
use Rattle.worker_pool.proofs.Running.{below_one_more, runs_more, worked_to_end}
use Rattle.worker_pool.proofs.pool.work.Goals as goal

pub serve_next-requires-clause-room : goal.serve_next-requires-clause-room
serve_next-requires-clause-room g c _ _ =
    let so_far = c.loop.invariant.has_run.room in
    let now : drawn c.draw-number.new.drawer ≡ drawn c.loop.seated.drawer ++ c.draw-number.result ∷ [] =
    ap (λ (h : Hand). h.drawn) c.draw-number.ensures.hand in
    let count = below_one_more c.args.limit c.draw-number.result (drawn c.loop.seated.drawer) (omega arith) in
    let few : sum_by (is_below c.args.limit) (drawn c.loop.seated.drawer ++ c.draw-number.result ∷ []) ≤ c.args.limit =
    subst (λ (l : List ℕ). sum_by (is_below c.args.limit) l ≤ c.args.limit) now (c.draw-number.ensures.few c.args.limit) in
    omega (arith, so_far, count, few)

pub loop-preserved : goal.loop-preserved
loop-preserved g c =
    let now : drawn c.draw-number.new.drawer ≡ drawn c.loop.seated.drawer ++ c.draw-number.result ∷ [] =
    ap (λ (h : Hand). h.drawn) c.draw-number.ensures.hand in
    let turns = ap (λ (h : Hand). h.turns) c.draw-number.ensures.hand in
    let below : sum_by (is_below c.args.limit) (drawn c.draw-number.new.drawer) ≡ sum_by (is_below c.args.limit) (drawn c.loop.seated.drawer) + 1 =
    ap (sum_by (is_below c.args.limit)) now ∙ below_one_more c.args.limit c.draw-number.result (drawn c.loop.seated.drawer) (omega arith) in
    let few = c.draw-number.ensures.few c.args.limit in record {
      place = search rules;
      part = search rules;
      turns = omega (arith, turns);
      count = omega (arith, ap length now, length-append (drawn c.loop.seated.drawer) (c.draw-number.result ∷ []));
      below = omega (arith, below);
      few = omega (arith, below, few);
      has_run = runs_more g.O.Door.tells g.J.Job.tells g.O.Door.given g.O.Door.left g.O.Door.ends g.O.Door.faults g.O.Door.back g.J.Job.room g.J.Job.ran
          g.J.Job.numbers g.J.Job.stands g.J.Job.keeps
          g.met.J.Job.keeps_more _ (drawn c.loop.seated.drawer)
          (c.draw-number.result ∷ []) c.args.seated.now.worker c.loop.seated.worker c.serve_next.new.worker now c.loop.invariant.has_run
          c.in_default.ensures.served;
    }

pub returns-in-Some-clause-worked : goal.returns-in-Some-clause-worked
returns-in-Some-clause-worked g c =
    let now : drawn c.draw-number.new.drawer ≡ drawn c.loop.seated.drawer ++ c.draw-number.result ∷ [] =
    ap (λ (h : Hand). h.drawn) c.draw-number.ensures.hand in
    worked_to_end g.O.Door.tells g.J.Job.tells g.O.Door.given g.O.Door.left g.O.Door.ends g.O.Door.faults g.O.Door.back g.J.Job.room g.J.Job.ran g.J.Job.numbers
    g.J.Job.stands g.J.Job.keeps
    g.met.J.Job.keeps_more c.args.limit c.draw-number.result
    (drawn c.loop.seated.drawer) _ c.args.seated.now.worker c.loop.seated.worker c.serve_next.new.worker c.in-Some.end
    now (omega arith)
    (omega arith) c.loop.invariant.has_run c.in-Some.ensures.ended c.in-Some.ensures.no_limit c.in-Some.ensures.at_end c.in-Some.ensures.at_failure
