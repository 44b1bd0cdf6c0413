use Rattle.cqe_base.proofs.MachineBound.{machine_ends}
use Rattle.cqe_base.proofs.machine_laws.law_machine_ends.Goals as goal

pub returns : goal.returns
returns c = machine_ends
