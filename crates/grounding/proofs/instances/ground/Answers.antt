use Rattle.std.proofs.Common.{[], ap, ◌∙◌}
use Rattle.std.specs.FinSet as set
use Rattle.cqe_base.specs.Formula.{formula_of}
use Rattle.cqe_base.specs.Truth.{true_in}
use Rattle.cqe_base.specs.Ground.{true_ground}
use Rattle.grounding.proofs.instances.ground.Goals as goal

pub returns-in-Ok-clause-same_truth : goal.returns-in-Ok-clause-same_truth
unfolding true_in
returns-in-Ok-clause-same_truth c =
    λ world. ap (true_ground (set.contains world)) c.in-Ok.ensures
    ∙ c.law_grounding.ensures c.args.schema.now (set.contains world) [] (formula_of c.args.sentence.now)
