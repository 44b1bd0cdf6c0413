use Rattle.std.proofs.Common.{◌∙◌, ◌||◌, ap}
use Rattle.cqe_base.specs.Literal.{has_literal}
use Rattle.proof_check.proofs.refutation.replace.Goals as goal

pub returns : goal.returns
returns c = λ l. c.in_ok-join.ensures l ∙ ap (λ b. b || has_literal c.args.clause.now l) (c.clear.ensures l)
