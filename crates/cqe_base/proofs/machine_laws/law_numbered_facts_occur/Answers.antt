use Rattle.cqe_base.proofs.Occurrences.{numbered_facts_occur}
use Rattle.cqe_base.proofs.machine_laws.law_numbered_facts_occur.Goals as goal

pub returns : goal.returns
returns c = numbered_facts_occur
