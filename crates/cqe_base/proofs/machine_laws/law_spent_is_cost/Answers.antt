use Rattle.cqe_base.proofs.SpentCost.{spent_is_cost}
use Rattle.cqe_base.proofs.machine_laws.law_spent_is_cost.Goals as goal

pub returns : goal.returns
returns c = spent_is_cost
