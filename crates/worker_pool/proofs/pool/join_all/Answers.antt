use Rattle.std.proofs.Common.{rules, arith, ◌≡◌, ◌+◌, [], ◌∷◌, ◌++◌, List, ℕ, length, ap, sym, ◌∙◌, length-append}
use Rattle.worker_pool.specs.declared.hand.Hand.{Hand}
use Rattle.worker_pool.specs.declared.pool.Seated.{Seated}
use Rattle.worker_pool.specs.Drawers.{hand_of, drawn}
use Rattle.worker_pool.proofs.Seating.{back_more, draws_more, read_on, read_all, next_of}
use Rattle.worker_pool.proofs.pool.join_all.Goals as goal

pub loop-seated-preserved : goal.loop-seated-preserved
loop-seated-preserved g c =
    let added = c.push_reserved.ensures.items in
    let so_far = c.loop-seated.invariant in
    let step = c.in-Some.ensures.steps.0 in
    let one = next_of (λ (s : Seated g.row.J.Denot g.row.O.Denot). (hand_of s.drawer).parts
    ≡ 1) c.args.all.items c.loop-seated.yielded _ _ c.in-Some.seated so_far.rest step c.requires.hands in
    let parts : (hand_of c.join.new.drawer).parts ≡ (hand_of c.loop-seated.drawer).parts + (hand_of c.in-Some.seated.drawer).parts =
    ap (λ (h : Hand). h.parts) c.join.ensures.hand in
    let drawn' : drawn c.join.new.drawer ≡ drawn c.loop-seated.drawer ++ drawn c.in-Some.seated.drawer = ap (λ (h : Hand). h.drawn) c.join.ensures.hand in
    let more : length (c.loop-seated.yielded ++ c.in-Some.seated ∷ []) ≡ length c.loop-seated.yielded + 1 =
    length-append c.loop-seated.yielded (c.in-Some.seated ∷ []) in record {
      rest = read_on c.args.all.items c.loop-seated.yielded _ _ _ so_far.rest step;
      workers = back_more c.loop-seated.crew.items c.push_reserved.new.self.items c.in-Some.seated c.loop-seated.yielded added so_far.workers;
      count = omega (arith, more, ap length added, length-append c.loop-seated.crew.items (c.in-Some.seated.worker ∷ []));
      room = search rules;
      place = search rules;
      parts = omega (arith, more, parts, one);
      drawn = drawn' ∙ ap (λ (l : List ℕ). l ++ drawn c.in-Some.seated.drawer) so_far.drawn ∙ sym (draws_more c.loop-seated.yielded c.in-Some.seated);
    }

pub returns-clause-parts : goal.returns-clause-parts
returns-clause-parts g c =
    let all : c.loop-seated.yielded ≡ c.args.all.items = read_all c.args.all.items c.loop-seated.yielded _ c.loop-seated.invariant.rest (search rules) in
    omega (arith, ap length all)
