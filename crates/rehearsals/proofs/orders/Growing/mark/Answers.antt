use Rattle.rehearsals.proofs.Marking.{none-begins}
use Rattle.rehearsals.proofs.orders.Growing.mark.Goals as goal

pub invariant_of-self : goal.invariant_of-self
invariant_of-self c = (none-begins c.keep.new.self c.self.inside.marked c.in_err-keep.ensures.refused, c.self.invariant.1)
