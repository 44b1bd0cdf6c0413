use Rattle.cqe_base.proofs.KeptTrails.{probe_goes_on_from_kept}
use Rattle.cqe_base.proofs.machine_laws.law_probe_goes_on_from_kept.Goals as goal

pub returns : goal.returns
returns c = probe_goes_on_from_kept
