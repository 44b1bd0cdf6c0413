use Rattle.cqe_base.proofs.ClauseLaws.{refutation_is_sound}
use Rattle.cqe_base.proofs.machine_laws.law_refutation_is_sound.Goals as goal

pub returns : goal.returns
returns c = refutation_is_sound
