use Rattle.rehearsals.proofs.Marking.{none-begins}
use Rattle.rehearsals.proofs.orders.Growing.found.Goals as goal

pub invariant_of-self : goal.invariant_of-self
invariant_of-self c = (none-begins c.search.new.self c.self.inside.marked c.in_err-found.ensures.refused, c.self.invariant.1)
