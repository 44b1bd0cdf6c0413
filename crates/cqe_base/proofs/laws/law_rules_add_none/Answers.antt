use Rattle.cqe_base.proofs.Legal.{rules_add_none}
use Rattle.cqe_base.proofs.laws.law_rules_add_none.Goals as goal

pub returns : goal.returns
returns c = rules_add_none
