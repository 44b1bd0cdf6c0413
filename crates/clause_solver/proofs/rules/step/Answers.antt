use Rattle.std.proofs.Common.{Some, None}
use Rattle.clause_solver.specs.IndexedStates.{plain_of}
use Rattle.clause_solver.proofs.Trails.{StepIs-step}
use Rattle.clause_solver.proofs.rules.step.Goals as goal

pub returns-in_ok-conflict_step-in-Some-clause-step : goal.returns-in_ok-conflict_step-in-Some-clause-step
returns-in_ok-conflict_step-in-Some-clause-step c =
    StepIs-step c.args.variables (plain_of c.args.state.now) (Some c.in-Some.number) c.in_ok-conflict_step-in-Some.field-0
    (plain_of c.conflict_step.new.state) c.in-Some.ensures.first c.in_ok-conflict_step-in-Some.ensures.step

pub returns-in_ok-unit_step-in-None-clause-step : goal.returns-in_ok-unit_step-in-None-clause-step
returns-in_ok-unit_step-in-None-clause-step c =
    StepIs-step c.args.variables (plain_of c.args.state.now) None c.in_ok-unit_step-in-None.field-0
    (plain_of c.unit_step.new.state) c.in-None.ensures.first c.in_ok-unit_step-in-None.ensures.step
