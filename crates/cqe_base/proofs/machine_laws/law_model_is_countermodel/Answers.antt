use Rattle.cqe_base.proofs.Outcomes.{model_is_countermodel}
use Rattle.cqe_base.proofs.machine_laws.law_model_is_countermodel.Goals as goal

pub returns : goal.returns
returns c = model_is_countermodel
