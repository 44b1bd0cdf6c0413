use Rattle.rehearsals.proofs.Marking.{none-begins}
use Rattle.rehearsals.proofs.orders.Growing.searched.Goals as goal

pub invariant_of-self : goal.invariant_of-self
invariant_of-self c = (none-begins c.search_with_cost.new.self c.self.inside.marked c.in_err-searched.ensures.refused, c.self.invariant.1)
