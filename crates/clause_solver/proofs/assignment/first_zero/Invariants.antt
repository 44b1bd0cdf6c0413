use Rattle.std.proofs.Common.{◌≡◌, ℕ, ◌<◌, ◌≤◌, get_or}
use Rattle.clause_solver.proofs.assignment.first_zero.Given as goal

abbrev pub invariant-loop-variable : goal.invariant-loop-variable
invariant-loop-variable l = (k : ℕ) → l.start ≤ k → k < l.variable → get_or l.places k 0 ≡ 0 → ⊥
