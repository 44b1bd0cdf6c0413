use Rattle.cqe_base.proofs.ClauseLaws.{numbering_goes_on}
use Rattle.cqe_base.proofs.machine_laws.law_numbering_goes_on.Goals as goal

pub returns : goal.returns
returns c = numbering_goes_on
