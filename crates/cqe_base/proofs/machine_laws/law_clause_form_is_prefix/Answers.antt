use Rattle.cqe_base.proofs.ClauseLaws.{clause_form_is_prefix}
use Rattle.cqe_base.proofs.machine_laws.law_clause_form_is_prefix.Goals as goal

pub returns : goal.returns
returns c = clause_form_is_prefix
