use Rattle.std.proofs.Common.{ap, ◌∙◌}
use Rattle.cqe_base.specs.Refutation.{is_refutation}
use Rattle.clause_store.specs.PlainLines.{lines_of}
use Rattle.clause_form.specs.Forms.{Form}
use Rattle.entailment.proofs.confirming.refutes.Goals as goal

pub returns-clause-right : goal.returns-clause-right
returns-clause-right c formulas is =
    c.in_ok-right.ensures.right
    ∙ ap (λ clauses. is_refutation clauses (lines_of c.args.refutation.now))
    (c.clauses.ensures ∙ ap (λ (form : Form). form.clauses) (c.in_ok-add_probe.ensures.added formulas is))
