use Rattle.cqe_base.proofs.KeptTrails.{kept_is_reached}
use Rattle.cqe_base.proofs.machine_laws.law_kept_is_reached.Goals as goal

pub returns : goal.returns
returns c = kept_is_reached
