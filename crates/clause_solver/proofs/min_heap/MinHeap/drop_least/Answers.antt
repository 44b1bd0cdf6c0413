use Rattle.std.proofs.Common.{map, sym, subst}
use Rattle.std.specs.BinaryHeap.{heap_items}
use Rattle.clause_solver.specs.Watching.{IsLeast, IsWithout}
use Rattle.clause_solver.proofs.HeapNumbers.{popped}
use Rattle.clause_solver.proofs.min_heap.MinHeap.drop_least.Goals as goal

pub returns : goal.returns
returns c =
    let old = heap_items c.self.inside.heap in
    let new = heap_items c.pop-least.new.self in
    λ k l. subst (λ xs. IsWithout k xs (map (λ r. r.0) new)) c.self.view_is
    (popped (λ r. r.0) c.pop-least.result old new _ k c.self.inside.heap.data.ok.0 c.self.invariant c.pop-least.ensures.permutation
    c.pop-least.ensures.heap_order c.pop-least.ensures.none (subst (λ xs. IsLeast xs k) (sym c.self.view_is) l))
