use Rattle.std.proofs.Common.{sym, ◌∙◌, arith}
use Rattle.clause_solver.proofs.Trails.{level_step, chosen_true, chosen_false}
use Rattle.clause_solver.proofs.plain.trail.level.Goals as goal
use Rattle.clause_solver.proofs.plain.trail.level.Goals.{then-is_decided, else-is_decided}

pub loop-e-preserved : goal.loop-e-preserved
loop-e-preserved c =
    elim c.if-is_decided.branch [
      | then-is_decided w ↦ record {
        counted = level_step c.args.trail.now c.loop-e.e-index c.e-item.result c.loop-e.decisions _ c.loop-e-test.true c.e-item.is c.loop-e.invariant.counted
            (chosen_true _ _ _ _ (sym c.is_decided.ensures ∙ w.if-is_decided.true) w.decisions-is);
        room = omega arith;
      }
      | else-is_decided w ↦ record {
        counted = level_step c.args.trail.now c.loop-e.e-index c.e-item.result c.loop-e.decisions _ c.loop-e-test.true c.e-item.is c.loop-e.invariant.counted
            (chosen_false _ _ _ _ (sym c.is_decided.ensures ∙ w.if-is_decided.false) w.decisions-is);
        room = omega arith;
      }
    ]
