use Rattle.std.proofs.Common.{◌≡◌, ◌||◌, drop}
use Rattle.cqe_base.specs.Literal.{Literal, has_literal}
use Rattle.proof_check.proofs.refutation.join.Given as goal

abbrev pub invariant-loop-literal : goal.invariant-loop-literal
invariant-loop-literal l = (m : Literal)
    → (has_literal l.set m || has_literal (drop l.literal-index l.clause) m) ≡ (has_literal l.initial.set m || has_literal l.clause m)
