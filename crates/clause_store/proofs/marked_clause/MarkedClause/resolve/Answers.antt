use Rattle.std.proofs.Common.{ap, drop, ◌∙◌}
use Rattle.cqe_base.specs.Literal.{variable_of, union}
use Rattle.cqe_base.specs.Refutation.{without_variable}
use Rattle.clause_store.specs.Marking.{Marking}
use Rattle.clause_store.proofs.Marking.{at_refusal}
use Rattle.clause_store.proofs.marked_clause.MarkedClause.resolve.Goals as goal

pub returns-in_err-join-clause-rest : goal.returns-in_err-join-clause-rest
returns-in_err-join-clause-rest c =
    let rest = without_variable (variable_of c.args.literal) (drop c.loop-other.other-index c.args.clause.now) in
    at_refusal c.from_residual.result (
      c.loop-other.other-index,
      ap (λ (m : Marking). union m.clause rest) c.in_err-join.ensures.refused ∙ c.loop-other.invariant.same
          ∙ ap (λ (m : Marking). union m.clause (without_variable (variable_of c.args.literal) c.args.clause.now)) c.remove.ensures,
    )
