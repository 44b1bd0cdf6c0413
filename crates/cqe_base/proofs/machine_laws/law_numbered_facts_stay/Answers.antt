use Rattle.cqe_base.proofs.ClauseLaws.{numbered_facts_stay}
use Rattle.cqe_base.proofs.machine_laws.law_numbered_facts_stay.Goals as goal

pub returns : goal.returns
returns c = numbered_facts_stay
