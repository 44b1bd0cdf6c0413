use Rattle.cqe_base.proofs.MachineRuns.{budget_is_whole_cost}
use Rattle.cqe_base.proofs.machine_laws.law_budget_is_whole_cost.Goals as goal

pub returns : goal.returns
returns c = budget_is_whole_cost
