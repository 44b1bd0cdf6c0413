use Rattle.std.proofs.Common.{◌++◌, List, map, drop}
use Rattle.cqe_base.specs.Literal.{Literal}
use Rattle.proof_check.specs.LiteralSets.{IsSetOf}
use Rattle.proof_check.proofs.LiteralSets.{IsOnTheWay}
use Rattle.proof_check.proofs.refutation.resolve_chain.Given as goal

abbrev pub invariant-loop-number : goal.invariant-loop-number
invariant-loop-number l = (c : List Literal) → IsSetOf l.initial.set c
    → IsOnTheWay (l.clauses ++ map (λ x. x.clause.items) l.lines) l.set (drop l.number-index l.chain) c l.chain
