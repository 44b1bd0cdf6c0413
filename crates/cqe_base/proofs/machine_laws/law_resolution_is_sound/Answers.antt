use Rattle.cqe_base.proofs.ClauseLaws.{resolution_is_sound}
use Rattle.cqe_base.proofs.machine_laws.law_resolution_is_sound.Goals as goal

pub returns : goal.returns
returns c = resolution_is_sound
