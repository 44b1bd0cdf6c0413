use Rattle.cqe_base.proofs.KeptTrails.{kept_stays_without}
use Rattle.cqe_base.proofs.machine_laws.law_kept_stays_without.Goals as goal

pub returns : goal.returns
returns c = kept_stays_without
