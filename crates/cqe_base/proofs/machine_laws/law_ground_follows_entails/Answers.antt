use Rattle.cqe_base.proofs.Outcomes.{ground_follows_entails}
use Rattle.cqe_base.proofs.machine_laws.law_ground_follows_entails.Goals as goal

pub returns : goal.returns
returns c = ground_follows_entails
