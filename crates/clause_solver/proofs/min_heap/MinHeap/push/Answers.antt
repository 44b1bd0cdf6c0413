use Rattle.std.proofs.Common.{◌||◌, eqb, sym, ap, ◌∙◌, map}
use Rattle.std.proofs.Math.Bool.{or_comm}
use Rattle.std.specs.BinaryHeap.{heap_items}
use Rattle.clause_solver.specs.Watching.{has_number}
use Rattle.clause_solver.proofs.HeapNumbers.{same_numbers}
use Rattle.clause_solver.proofs.min_heap.MinHeap.push.Goals as goal

pub returns : goal.returns
returns c = λ i.
    sym (same_numbers (λ r. r.0) _ (heap_items c.push.new.self) i c.in_ok-push.ensures.permutation)
    ∙ or_comm (eqb c.args.number i) (has_number (map (λ r. r.0) (heap_items c.self.inside.heap)) i)
    ∙ ap (λ xs. has_number xs i || eqb c.args.number i) c.self.view_is
