use Rattle.cqe_base.proofs.KeptTrails.{search_goes_on_from_kept}
use Rattle.cqe_base.proofs.machine_laws.law_search_goes_on_from_kept.Goals as goal

pub returns : goal.returns
returns c = search_goes_on_from_kept
