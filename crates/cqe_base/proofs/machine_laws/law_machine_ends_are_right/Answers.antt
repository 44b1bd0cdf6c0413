use Rattle.cqe_base.proofs.MachineRight.{machine_ends_are_right}
use Rattle.cqe_base.proofs.machine_laws.law_machine_ends_are_right.Goals as goal

pub returns : goal.returns
returns c = machine_ends_are_right
