use Rattle.std.proofs.Common.{ap, drop, ◌∙◌}
use Rattle.cqe_base.specs.Literal.{union}
use Rattle.clause_store.proofs.Marking.{at_refusal}
use Rattle.clause_store.proofs.resolution.unite.Goals as goal

pub returns-in_err-push-clause-rest : goal.returns-in_err-push-clause-rest
returns-in_err-push-clause-rest c =
    at_refusal c.from_residual.result (
      c.loop-literal.literal-index,
      ap (λ literals. union literals (drop c.loop-literal.literal-index c.args.more.now)) c.in_err-push.ensures.items ∙ c.loop-literal.invariant,
    )
