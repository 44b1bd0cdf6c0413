use Rattle.cqe_base.proofs.ClauseLaws.{models_are_worlds}
use Rattle.cqe_base.proofs.machine_laws.law_models_are_worlds.Goals as goal

pub returns : goal.returns
returns c = models_are_worlds
