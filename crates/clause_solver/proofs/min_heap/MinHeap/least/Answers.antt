use Rattle.std.proofs.Common.{◌<◌, refl, subst}
use Rattle.std.specs.BinaryHeap.{heap_items}
use Rattle.clause_solver.specs.Watching.{IsLeast}
use Rattle.clause_solver.proofs.HeapNumbers.{first_is_least}
use Rattle.clause_solver.proofs.min_heap.MinHeap.least.Goals as goal

pub returns-clause-least : goal.returns-clause-least
returns-clause-least c =
    let some = subst (λ m. 0 < m) c.self.inside.heap.data.ok.0 (c.in_ok-top.ensures.variant.0 refl) in
    subst (λ xs. IsLeast xs c.in_ok-top.top.now.0) c.self.view_is
    (first_is_least (λ r. r.0) c.in_ok-top.top.now (heap_items c.self.inside.heap) some c.in_ok-top.ensures.lookup
    (c.in_ok-top.ensures.greatest c.self.invariant))
