use Rattle.std.proofs.Common.{◌≡◌, ◌-◌, not, ◌&&◌, reverse}
use Rattle.std.specs.List.{find, range_with_len}
use Rattle.cqe_base.specs.Literal.{Positive, Negative}
use Rattle.cqe_base.specs.Machine.{is_true, first_unassigned}
use Rattle.clause_solver.proofs.plain.scan.first_unassigned.Given as goal

abbrev pub invariant-loop-v : goal.invariant-loop-v
invariant-loop-v l =
    find (λ v. not (is_true (reverse l.trail) (Positive v)) && not (is_true (reverse l.trail) (Negative v))) (range_with_len l.v (l.variables - l.v))
    ≡ first_unassigned (reverse l.trail) l.variables
