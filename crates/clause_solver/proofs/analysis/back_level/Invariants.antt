use Rattle.std.proofs.Common.{◌≡◌, max, not, drop}
use Rattle.std.specs.List.{filter}
use Rattle.cqe_base.specs.Machine.{highest_level, is_current}
use Rattle.clause_solver.proofs.analysis.back_level.Given as goal

abbrev pub invariant-loop-literal : goal.invariant-loop-literal
invariant-loop-literal l =
    max l.highest (highest_level l.assignment.trail (filter (λ m. not (is_current l.assignment.trail m)) (drop l.literal-index l.clause)))
    ≡ highest_level l.assignment.trail (filter (λ m. not (is_current l.assignment.trail m)) l.clause)
