use Rattle.cqe_base.proofs.RefusalTable.{refusals_are_of_the_table}
use Rattle.cqe_base.proofs.laws.law_refusals.Goals as goal

pub returns : goal.returns
returns c = refusals_are_of_the_table
