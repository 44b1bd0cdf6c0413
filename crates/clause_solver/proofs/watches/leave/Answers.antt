use Rattle.std.proofs.Common.{◌≡◌, ◌+◌, ◌<◌, ◌≤◌, [], ◌∷◌, drop, length, refl, sym, ap, ◌∙◌, arith}
use Rattle.std.proofs.lemmas.List.{get_or_read, drop_more}
use Rattle.std.proofs.Math.ListN.{drop_of_length-le}
use Rattle.clause_solver.specs.Watching.{no_pair, times_watched_by}
use Rattle.clause_solver.proofs.watches.leave.Goals as goal

pub loop-i-init : goal.loop-i-init
loop-i-init c = record {
  room = refl;
  below = λ m. refl;
  fewer = λ m left h. h;
}

pub loop-i-preserved : goal.loop-i-preserved
loop-i-preserved c =
    let v = c.loop-i.invariant in
    let i = c.loop-i.i in
    let ps = c.args.pairs.now.items in
    let e = c.leave_pair.ensures in
    let within : i < length ps = (let lt = c.loop-i-test.true in let all = c.len-i-end.ensures in let ok = c.args.pairs.now.ok.0 in omega arith) in
    let split : drop i ps ≡ c.index.result.now ∷ drop (i + 1) ps =
    drop_more ps i no_pair within ∙ ap (λ p. p ∷ drop (i + 1) ps) (sym (get_or_read ps i c.index.result.now within c.index.ensures no_pair)) in
    record {
      room = e.length ∙ v.room;
      below = λ m. (e.left m).below ∙ v.below m;
      fewer = λ m left h. (e.left m).fewer (times_watched_by (drop (i + 1) ps) m + left)
          (let had = v.fewer m left h in let parts = ap (λ qs. times_watched_by qs m) split in omega arith);
    }

pub returns-clause-left : goal.returns-clause-left
returns-clause-left c =
    let v = c.loop-i.invariant in
    let i = c.loop-i.i in
    let ps = c.args.pairs.now.items in
    let end : length ps ≤ i = (let past = c.loop-i-test.false in let all = c.len-i-end.ensures in let ok = c.args.pairs.now.ok.0 in omega arith) in
    let past : drop i ps ≡ [] = drop_of_length-le ps end in
    λ m. record {
      below = v.below m;
      fewer = λ left h. let had = v.fewer m left h in let none = ap (λ qs. times_watched_by qs m) past in omega arith;
    }
