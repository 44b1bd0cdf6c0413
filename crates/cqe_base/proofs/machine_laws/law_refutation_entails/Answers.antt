use Rattle.cqe_base.proofs.Outcomes.{refutation_entails}
use Rattle.cqe_base.proofs.machine_laws.law_refutation_entails.Goals as goal

pub returns : goal.returns
returns c = refutation_entails
