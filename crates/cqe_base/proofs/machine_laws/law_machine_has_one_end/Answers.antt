use Rattle.cqe_base.proofs.MachineRuns.{machine_has_one_end}
use Rattle.cqe_base.proofs.machine_laws.law_machine_has_one_end.Goals as goal

pub returns : goal.returns
returns c = machine_has_one_end
