use Rattle.cqe_base.proofs.Outcomes.{ground_open_is_open}
use Rattle.cqe_base.proofs.machine_laws.law_ground_open_is_open.Goals as goal

pub returns : goal.returns
returns c = ground_open_is_open
