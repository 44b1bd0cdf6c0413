use Rattle.std.proofs.Common.{◌≡◌, Some, None, reverse}
use Rattle.std.specs.List.{list_all, position_from}
use Rattle.cqe_base.specs.Machine.{is_false}
use Rattle.clause_solver.specs.PlainStates.{state_of}
use Rattle.clause_solver.proofs.Trails.{StepIs-step}
use Rattle.clause_solver.proofs.plain.state.step.Goals as goal

pub returns-in_ok-conflict_step-in-Some-clause-step : goal.returns-in_ok-conflict_step-in-Some-clause-step
returns-in_ok-conflict_step-in-Some-clause-step c =
    let old = state_of c.args.state.now in
    let first : Some c.in-Some.number ≡ position_from (list_all (is_false (reverse c.args.state.now.trail.items))) 0 c.args.state.now.clauses =
    cc (c.in-Some.ensures.first, c.deref.ensures.value) in
    StepIs-step c.args.variables old (Some c.in-Some.number) _ _ first c.in_ok-conflict_step-in-Some.ensures.step

pub returns-in_ok-unit_step-in-None-clause-step : goal.returns-in_ok-unit_step-in-None-clause-step
returns-in_ok-unit_step-in-None-clause-step c =
    let old = state_of c.args.state.now in
    let first : None ≡ position_from (list_all (is_false (reverse c.args.state.now.trail.items))) 0 c.args.state.now.clauses =
    cc (c.in-None.ensures.first, c.deref.ensures.value) in
    StepIs-step c.args.variables old None _ _ first c.in_ok-unit_step-in-None.ensures.step
