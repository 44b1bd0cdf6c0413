use Rattle.cqe_base.proofs.ClauseLaws.{clause_form_has_no_repeat}
use Rattle.cqe_base.proofs.machine_laws.law_clause_form_has_no_repeat.Goals as goal

pub returns : goal.returns
returns c = clause_form_has_no_repeat
