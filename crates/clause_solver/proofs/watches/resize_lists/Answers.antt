use Rattle.std.proofs.Common.{[], map, get_or, ap, ◌∙◌}
use Rattle.clause_solver.proofs.StateMoves.{take_map_at}
use Rattle.clause_solver.proofs.watches.resize_lists.Goals as goal

pub returns-clause-same : goal.returns-clause-same
returns-clause-same c =
    λ k lt. ap (λ xs. get_or (map (λ v. v.items) xs) k []) c.truncate.ensures.items ∙ take_map_at (λ v. v.items) [] c.args.size k c.loop-literal.lists.items lt
    ∙ c.loop-literal.invariant.same k
