use Rattle.cqe_base.proofs.KeptTrails.{lowest_unit_is_kept_or_probes}
use Rattle.cqe_base.proofs.machine_laws.law_lowest_unit_is_kept_or_probes.Goals as goal

pub returns : goal.returns
returns c = lowest_unit_is_kept_or_probes
