use Rattle.cqe_base.proofs.ClauseLaws.{clause_form_uses_its_variables}
use Rattle.cqe_base.proofs.machine_laws.law_clause_form_uses_its_variables.Goals as goal

pub returns : goal.returns
returns c = clause_form_uses_its_variables
