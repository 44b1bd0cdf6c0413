use Rattle.std.proofs.Common.{List, drop}
use Rattle.cqe_base.specs.Literal.{Literal}
use Rattle.proof_check.specs.LiteralSets.{IsSetOf}
use Rattle.proof_check.proofs.Clashing.{IsFound}
use Rattle.proof_check.proofs.refutation.single_clash.Given as goal

abbrev pub invariant-loop-other : goal.invariant-loop-other
invariant-loop-other l = (c : List Literal) → IsSetOf l.set c → IsFound c l.clause (drop l.other-index l.clause) l.found
