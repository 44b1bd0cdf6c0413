use Rattle.std.proofs.Common.{refl, sym, ◌∙◌}
use Rattle.clause_solver.proofs.Trails.{more_current}
use Rattle.clause_solver.proofs.analysis.has_more_current.Goals as goal

pub returns-then-left-eq0 : goal.returns-then-left-eq0
returns-then-left-eq0 c =
    let t = c.args.assignment.now.trail in
    let l = c.index-clause-clause.result in (
      λ _. more_current t c.args.clause.now c.loop-i.i c.loop-i.left c.args.most l c.loop-i-test.true c.loop-i.invariant c.index-clause-clause.is
          (sym c.is_current.ensures ∙ c.if-is_current.true) c.if-left-eq0.true,
      λ _. refl,
    )
