use Rattle.std.proofs.Common.{◌≡◌, ℕ, [], map, length, get_or}
use Rattle.clause_solver.proofs.watches.resize_lists.Given as goal

abbrev pub invariant-loop-literal : goal.invariant-loop-literal
invariant-loop-literal l = record {
  length : length l.lists.items ≡ l.literal;
  same : (k : ℕ) → get_or (map (λ v. v.items) l.lists.items) k [] ≡ get_or (map (λ v. v.items) l.initial.lists.items) k [];
}
