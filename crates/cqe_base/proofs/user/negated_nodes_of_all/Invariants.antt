use Rattle.std.proofs.Common.{◌≡◌, ◌≤◌, ◌+◌, ◌^◌, drop, map, min}
use Rattle.std.specs.Prelude.{sum_by}
use Rattle.cqe_base.specs.Formula.{formula_of, nodes}
use Rattle.cqe_base.proofs.user.negated_nodes_of_all.Given as goal

-- the nodes so far and those of the sentences that are left, as far as they are counted
abbrev pub invariant-loop-sentence : goal.invariant-loop-sentence
invariant-loop-sentence l =
    (l.total ≤ 2 ^ 32)
    × (min (l.total + sum_by (λ s. 1 + nodes l.schema s) (map formula_of (drop l.sentence-index l.sentences))) (2 ^ 32)
    ≡ min (sum_by (λ s. 1 + nodes l.schema s) (map formula_of l.sentences)) (2 ^ 32))
