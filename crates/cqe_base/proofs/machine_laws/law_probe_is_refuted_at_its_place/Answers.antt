use Rattle.cqe_base.proofs.KeptTrails.{probe_is_refuted_at_its_place}
use Rattle.cqe_base.proofs.machine_laws.law_probe_is_refuted_at_its_place.Goals as goal

pub returns : goal.returns
returns c = probe_is_refuted_at_its_place
