use Rattle.cqe_base.proofs.Runs.{asks_are_answered}
use Rattle.cqe_base.proofs.laws.law_asks_are_answered.Goals as goal

pub returns : goal.returns
returns c = asks_are_answered
