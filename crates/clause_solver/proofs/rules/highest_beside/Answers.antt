use Rattle.std.proofs.Common.{◌++◌, ◌∷◌, [], take, sym, ap, ◌∙◌, subst}
use Rattle.std.proofs.lemmas.List.{take_more}
use Rattle.clause_solver.specs.IndexedStates.{IsHighestBeside}
use Rattle.clause_solver.proofs.Learnt.{beside_more}
use Rattle.clause_solver.proofs.rules.highest_beside.Goals as goal

pub loop-other-preserved : goal.loop-other-preserved
loop-other-preserved c =
    let t = c.args.assignment.now.trail in
    let i = c.loop-other.other-index in
    let e = c.higher_beside-highest.ensures in
    subst (λ xs. IsHighestBeside t xs c.args.literal c.higher_beside-highest.result)
    (sym (take_more c.args.clause.now i c.other-item.result c.loop-other-test.true ∙ ap (λ y. take i c.args.clause.now ++ y ∷ []) (sym c.other-item.is)))
    (beside_more t (take i c.args.clause.now) c.args.literal c.loop-other.highest c.other-item.result c.higher_beside-highest.result c.loop-other.invariant
    e.either e.higher e.kept)
