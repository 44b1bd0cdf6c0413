use Rattle.cqe_base.proofs.GroundNodes.{grounding_keeps_nodes}
use Rattle.cqe_base.proofs.laws.law_grounded_nodes.Goals as goal

pub returns : goal.returns
returns c = grounding_keeps_nodes
