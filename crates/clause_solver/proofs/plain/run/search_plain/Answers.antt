use Rattle.std.proofs.Common.{◌≡◌, ◌+◌, ◌-◌, suc, sym, ◌∙◌, arith}
use Rattle.cqe_base.specs.Machine.{Continues, Ends, Model, Refuted as MachineRefuted, step}
use Rattle.clause_solver.specs.PlainStates.{state_of}
use Rattle.clause_solver.proofs.Budget.{went_on, went_past, ended_within, ended_past, no_step}
use Rattle.clause_solver.proofs.plain.run.search_plain.Goals as goal

pub returns-then-left-cost : goal.returns-then-left-cost
returns-then-left-cost c =
    let old = state_of c.loop-steps.state in
    let new = state_of c.step.new.state in
    let one : c.args.budget - c.loop-steps.steps ≡ suc (c.args.budget - (c.loop-steps.steps + 1)) = omega arith in
    let h : step c.args.variables old ≡ Continues c.in-Went.cost new = rw c.in-Went.is at c.in_ok-cost.ensures.step in
    sym (went_past c.args.variables c.loop-steps.left c.in-Went.cost _ _ old new one h c.if-left-cost.true) ∙ c.loop-steps.invariant.same

pub returns-then-left-cost-2 : goal.returns-then-left-cost-2
returns-then-left-cost-2 c =
    let old = state_of c.loop-steps.state in
    let new = state_of c.step.new.state in
    let one : c.args.budget - c.loop-steps.steps ≡ suc (c.args.budget - (c.loop-steps.steps + 1)) = omega arith in
    let h : step c.args.variables old ≡ Ends c.in-Refuted.cost (MachineRefuted new.lines) = rw c.in-Refuted.is at c.in_ok-cost.ensures.step in
    sym (ended_past c.args.variables c.loop-steps.left c.in-Refuted.cost _ _ old _ one h c.if-left-cost-2.true) ∙ c.loop-steps.invariant.same

pub returns-in-Refuted : goal.returns-in-Refuted
returns-in-Refuted c =
    let old = state_of c.loop-steps.state in
    let new = state_of c.step.new.state in
    let one : c.args.budget - c.loop-steps.steps ≡ suc (c.args.budget - (c.loop-steps.steps + 1)) = omega arith in
    let h : step c.args.variables old ≡ Ends c.in-Refuted.cost (MachineRefuted new.lines) = rw c.in-Refuted.is at c.in_ok-cost.ensures.step in
    sym (ended_within c.args.variables c.loop-steps.left c.in-Refuted.cost _ _ old _ one h c.if-left-cost-2.false) ∙ c.loop-steps.invariant.same

pub returns-then-left-cost-3 : goal.returns-then-left-cost-3
returns-then-left-cost-3 c =
    let old = state_of c.loop-steps.state in
    let one : c.args.budget - c.loop-steps.steps ≡ suc (c.args.budget - (c.loop-steps.steps + 1)) = omega arith in
    let h : step c.args.variables old ≡ Ends c.in-Satisfied.cost (Model c.in-Satisfied.signs.values.items) =
    rw c.in-Satisfied.is at c.in_ok-cost.ensures.step in
    sym (ended_past c.args.variables c.loop-steps.left c.in-Satisfied.cost _ _ old _ one h c.if-left-cost-3.true) ∙ c.loop-steps.invariant.same

pub returns-in-Satisfied : goal.returns-in-Satisfied
returns-in-Satisfied c =
    let old = state_of c.loop-steps.state in
    let one : c.args.budget - c.loop-steps.steps ≡ suc (c.args.budget - (c.loop-steps.steps + 1)) = omega arith in
    let h : step c.args.variables old ≡ Ends c.in-Satisfied.cost (Model c.in-Satisfied.signs.values.items) =
    rw c.in-Satisfied.is at c.in_ok-cost.ensures.step in
    sym (ended_within c.args.variables c.loop-steps.left c.in-Satisfied.cost _ _ old _ one h c.if-left-cost-3.false) ∙ c.loop-steps.invariant.same

pub loop-steps-preserved : goal.loop-steps-preserved
loop-steps-preserved c =
    let old = state_of c.loop-steps.state in
    let new = state_of c.step.new.state in
    let one : c.args.budget - c.loop-steps.steps ≡ suc (c.args.budget - (c.loop-steps.steps + 1)) = omega arith in
    let h : step c.args.variables old ≡ Continues c.in-Went.cost new = rw c.in-Went.is at c.in_ok-cost.ensures.step in
    record {
      room = omega (arith, c.in_ok-cost.ensures.grows);
      same = sym (went_on c.args.variables c.loop-steps.left c.in-Went.cost _ _ old new one h c.if-left-cost.false) ∙ c.loop-steps.invariant.same;
    }

pub returns : goal.returns
returns c =
    sym (no_step c.args.variables c.loop-steps.left (c.args.budget - c.loop-steps.steps) (state_of c.loop-steps.state) (omega arith))
    ∙ c.loop-steps.invariant.same
