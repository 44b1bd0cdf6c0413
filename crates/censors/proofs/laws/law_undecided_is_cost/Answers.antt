use Rattle.censors.proofs.Costs.{undecided-is-cost}
use Rattle.censors.proofs.laws.law_undecided_is_cost.Goals as goal

pub returns : goal.returns
returns c = undecided-is-cost c.law_spent_is_cost.ensures
