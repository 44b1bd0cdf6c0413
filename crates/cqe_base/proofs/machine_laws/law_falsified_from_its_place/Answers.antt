use Rattle.cqe_base.proofs.KeptTrails.{falsified_from_its_place}
use Rattle.cqe_base.proofs.machine_laws.law_falsified_from_its_place.Goals as goal

pub returns : goal.returns
returns c = falsified_from_its_place
