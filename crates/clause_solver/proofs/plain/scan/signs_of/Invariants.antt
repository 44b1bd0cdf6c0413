use Rattle.std.proofs.Common.{◌≡◌, ◌-◌, ◌++◌, map, reverse}
use Rattle.std.specs.List.{range_with_len}
use Rattle.cqe_base.specs.Literal.{Positive}
use Rattle.cqe_base.specs.Machine.{is_true, signs_of}
use Rattle.clause_solver.proofs.plain.scan.signs_of.Given as goal

abbrev pub invariant-loop-v : goal.invariant-loop-v
invariant-loop-v l =
    l.signs.items ++ map (λ v. is_true (reverse l.trail) (Positive v)) (range_with_len l.v (l.variables - l.v))
    ≡ signs_of (reverse l.trail) l.variables
