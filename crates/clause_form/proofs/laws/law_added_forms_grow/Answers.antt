use Rattle.clause_form.proofs.Cuts.{added_forms_grow}
use Rattle.clause_form.proofs.laws.law_added_forms_grow.Goals as goal

pub returns : goal.returns
returns c = added_forms_grow c.law_clause_form_is_prefix.ensures c.law_numbering_goes_on.ensures
