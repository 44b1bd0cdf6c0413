use Rattle.std.proofs.Common.{◌∙◌, ap}
use Rattle.std.proofs.lemmas.Result.{on_ok_weaker}
use Rattle.cqe_base.specs.Formula.{formula_of}
use Rattle.cqe_base.specs.Outcome.{grounded_signed}
use Rattle.clause_form.specs.Forms.{with_formula}
use Rattle.entailment.proofs.LogForms.{has_added}
use Rattle.entailment.proofs.forms.add_sentence.Goals as goal

pub returns-clause-added : goal.returns-clause-added
returns-clause-added c =
    on_ok_weaker c.add.result
    (λ is formulas before.
    is
    ∙ ap (λ formula. with_formula c.args.former.now (formula, c.args.yes)) c.in_ok-prop.ensures.grounded
    ∙ has_added c.law_added_forms_grow.ensures (grounded_signed c.args.schema.now (formula_of c.args.sentence.now, c.args.yes)) c.args.former.now formulas
    before)
    c.add.ensures.added
