use Rattle.cqe_base.proofs.ClauseLaws.{model_gives_world}
use Rattle.cqe_base.proofs.machine_laws.law_model_gives_world.Goals as goal

pub returns : goal.returns
returns c = model_gives_world
