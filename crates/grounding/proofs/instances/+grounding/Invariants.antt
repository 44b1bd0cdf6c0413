use Rattle.std.proofs.Common.{◌≡◌, [], ◌∷◌, ◌++◌, map, take}
use Rattle.cqe_base.specs.Formula.{formula_of}
use Rattle.cqe_base.specs.Ground.{ground_of, grounded_at}
use Rattle.cqe_base.specs.Truth.{first_constants}
use Rattle.grounding.proofs.instances.+grounding.Given as goal

abbrev pub invariant-instances-loop-index : goal.invariant-instances-loop-index
invariant-instances-loop-index l =
    map ground_of l.parts.items ≡ map (λ c. grounded_at l.schema (take l.depth l.places ++ c ∷ []) (formula_of l.body)) (first_constants l.domain l.index)
