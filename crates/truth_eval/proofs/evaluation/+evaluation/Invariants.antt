use Rattle.std.proofs.Common.{◌≡◌, true, false, [], ◌∷◌, ◌++◌, take}
use Rattle.std.specs.List.{list_all, list_any}
use Rattle.std.specs.FinSet as set
use Rattle.cqe_base.specs.Formula.{formula_of}
use Rattle.cqe_base.specs.Truth.{true_at, first_constants}
use Rattle.truth_eval.proofs.evaluation.+evaluation.Given as goal

abbrev pub invariant-holds_for_each-loop-index : goal.invariant-holds_for_each-loop-index
invariant-holds_for_each-loop-index l =
    list_all (λ c. true_at l.schema (set.contains l.world) (take l.depth l.places ++ c ∷ []) (formula_of l.body)) (first_constants l.domain l.index) ≡ true

abbrev pub invariant-holds_for_some-loop-index : goal.invariant-holds_for_some-loop-index
invariant-holds_for_some-loop-index l =
    list_any (λ c. true_at l.schema (set.contains l.world) (take l.depth l.places ++ c ∷ []) (formula_of l.body)) (first_constants l.domain l.index) ≡ false
