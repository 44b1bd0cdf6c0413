use Rattle.cqe_base.proofs.KeptTrails.{kept_begins_kept}
use Rattle.cqe_base.proofs.machine_laws.law_kept_begins_kept.Goals as goal

pub returns : goal.returns
returns c = kept_begins_kept
