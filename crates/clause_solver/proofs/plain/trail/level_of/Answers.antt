use Rattle.std.proofs.Common.{◌≡◌, ◌+◌, ◌≤◌, cond, eqb, take, reverse, sym, ap, ◌∙◌, arith}
use Rattle.std.proofs.lemmas.Bool.{eq-eqb, ne_eqb}
use Rattle.cqe_base.specs.Literal.{variable_of}
use Rattle.cqe_base.specs.Machine.{level, assigned_literal}
use Rattle.clause_solver.proofs.Trails.{level_step, level_of_step, chosen_true, chosen_false}
use Rattle.clause_solver.proofs.plain.trail.level_of.Goals as goal
use Rattle.clause_solver.proofs.plain.trail.level_of.Goals.{then-is_decided, else-is_decided, then-variable, else-variable}

counted : (c : goal.Joined-variable) → c.if-is_decided.decisions ≡ level (reverse (take (c.loop-e.e-index + 1) c.args.trail.now))
counted c =
    elim c.if-is_decided.branch [
      | then-is_decided w ↦ level_step c.args.trail.now c.loop-e.e-index c.e-item.result c.loop-e.decisions _ c.loop-e-test.true c.e-item.is
          c.loop-e.invariant.counted (chosen_true _ _ _ _ (sym c.is_decided.ensures ∙ w.if-is_decided.true) w.decisions-is)
      | else-is_decided w ↦ level_step c.args.trail.now c.loop-e.e-index c.e-item.result c.loop-e.decisions _ c.loop-e-test.true c.e-item.is
          c.loop-e.invariant.counted (chosen_false _ _ _ _ (sym c.is_decided.ensures ∙ w.if-is_decided.false) w.decisions-is)
    ]

room : (c : goal.Joined-variable) → c.if-is_decided.decisions ≤ c.loop-e.e-index + 1
room c = elim c.if-is_decided.branch [ then-is_decided w ↦ omega arith | else-is_decided w ↦ omega arith ]

item : (c : goal.Joined-variable) → c.variable-in-loop-e.result ≡ variable_of (assigned_literal c.e-item.result)
item c = c.variable-in-loop-e.ensures.variable ∙ ap variable_of c.literal.ensures

chosen : (c : goal.Joined-variable)
    → c.if-variable.found ≡ cond (eqb (variable_of c.args.literal) (variable_of (assigned_literal c.e-item.result))) c.if-is_decided.decisions c.loop-e.found
chosen c =
    elim c.if-variable.branch [
      | then-variable w ↦ chosen_true _ _ _ _ (eq-eqb _ _ (sym c.variable.ensures.variable ∙ w.if-variable.true ∙ item c)) w.found-is
      | else-variable w ↦ chosen_false _ _ _ _ (ne_eqb _ _ (λ e. w.if-variable.false (c.variable.ensures.variable ∙ e ∙ sym (item c)))) w.found-is
    ]

pub loop-e-preserved : goal.loop-e-preserved
loop-e-preserved c =
    record {
      counted = counted c;
      found = level_of_step c.args.trail.now c.loop-e.e-index c.e-item.result c.args.literal _ _ _ c.loop-e-test.true c.e-item.is
          (counted c) c.loop-e.invariant.found (chosen c);
      room = room c;
    }
