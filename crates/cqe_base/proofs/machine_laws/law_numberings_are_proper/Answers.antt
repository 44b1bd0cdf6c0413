use Rattle.cqe_base.proofs.ClauseLaws.{numberings_are_proper}
use Rattle.cqe_base.proofs.machine_laws.law_numberings_are_proper.Goals as goal

pub returns : goal.returns
returns c = numberings_are_proper
