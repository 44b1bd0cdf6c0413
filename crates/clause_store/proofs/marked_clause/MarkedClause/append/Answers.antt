use Rattle.std.proofs.Common.{◌∙◌}
use Rattle.clause_store.proofs.Marking.{at_refusal}
use Rattle.clause_store.proofs.marked_clause.MarkedClause.append.Goals as goal

pub returns-in_err-add-clause-part : goal.returns-in_err-add-clause-part
returns-in_err-add-clause-part c =
    at_refusal c.from_residual.result (c.loop-literal.literal-index, c.in_err-add.ensures.refused ∙ c.loop-literal.invariant)
