use Rattle.cqe_base.proofs.SpentCost.{enough_is_never_spent}
use Rattle.cqe_base.proofs.machine_laws.law_enough_is_never_spent.Goals as goal

pub returns : goal.returns
returns c = enough_is_never_spent
