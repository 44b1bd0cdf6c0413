use Rattle.std.proofs.Common.{◌≡◌, ◌&&◌, not, drop}
use Rattle.cqe_base.specs.Literal.{Literal, has_literal}
use Rattle.proof_check.specs.LiteralSets.{is_marked}
use Rattle.proof_check.proofs.literal_set.unmark_all.Given as goal

abbrev pub invariant-loop-literal : goal.invariant-loop-literal
invariant-loop-literal l = (m : Literal)
    → (is_marked l.marks.items m && not (has_literal (drop l.literal-index l.clause) m))
    ≡ (is_marked l.initial.marks.items m && not (has_literal l.clause m))
