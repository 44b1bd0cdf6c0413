use Rattle.cqe_base.proofs.KeptTrails.{probe_goes_on_where_none_is_falsified}
use Rattle.cqe_base.proofs.machine_laws.law_probe_goes_on_where_none_is_falsified.Goals as goal

pub returns : goal.returns
returns c = probe_goes_on_where_none_is_falsified
