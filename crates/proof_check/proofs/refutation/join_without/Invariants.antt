use Rattle.std.proofs.Common.{◌≡◌, ◌||◌, ◌&&◌, not, drop}
use Rattle.cqe_base.specs.Literal.{Literal, same_literal, has_literal}
use Rattle.proof_check.proofs.refutation.join_without.Given as goal

abbrev pub invariant-loop-literal : goal.invariant-loop-literal
invariant-loop-literal l = (m : Literal)
    → (has_literal l.set m || (has_literal (drop l.literal-index l.clause) m && not (same_literal m l.left_out)))
    ≡ (has_literal l.initial.set m || (has_literal l.clause m && not (same_literal m l.left_out)))
