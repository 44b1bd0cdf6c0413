use Rattle.std.proofs.Common.{[], ◌∷◌, ◌++◌, take}
use Rattle.cqe_base.specs.Formula.{formula_of}
use Rattle.cqe_base.specs.Ground.{ground_of, grounded_at}
use Rattle.grounding.proofs.Constants.{one_more}
use Rattle.grounding.proofs.instances.+grounding.Goals as goal

pub instances-loop-index-preserved : goal.instances-loop-index-preserved
instances-loop-index-preserved t c =
    one_more ground_of (λ x.
    grounded_at c.args.schema.now (take c.args.depth c.args.places ++ x ∷ []) (formula_of c.args.body.now)) c.args.domain c.loop-index.index
    c.loop-index.parts.items c.push.new.self.items c.in_ok-part.part c.loop-index.invariant c.in_ok-part.ensures c.in_ok-push.ensures.items
