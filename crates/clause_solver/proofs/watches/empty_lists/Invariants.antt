use Rattle.std.proofs.Common.{◌≡◌, [], map, replicate}
use Rattle.clause_solver.proofs.watches.empty_lists.Given as goal

abbrev pub invariant-loop-literal : goal.invariant-loop-literal
invariant-loop-literal l = map (λ v. v.items) l.lists.items ≡ replicate l.literal []
