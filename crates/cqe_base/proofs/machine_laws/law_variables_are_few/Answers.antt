use Rattle.cqe_base.proofs.ClauseLaws.{variables_are_few}
use Rattle.cqe_base.proofs.machine_laws.law_variables_are_few.Goals as goal

pub returns : goal.returns
returns c = variables_are_few
