use Rattle.std.proofs.Common.{ap, ◌∙◌}
use Rattle.clause_store.specs.Marking.{Marking}
use Rattle.clause_store.proofs.Marking.{at_refusal}
use Rattle.clause_store.proofs.marked_clause.MarkedClause.add.Goals as goal

pub returns-in_err-push-clause-refused : goal.returns-in_err-push-clause-refused
returns-in_err-push-clause-refused c =
    let clause = c.in_err-push.ensures.items ∙ ap (λ (s : Marking). s.clause) c.self.view_is in
    at_refusal c.from_residual.result (λ i. record { variables = (c.self.view_is i).variables; clause = clause i })
