use Rattle.std.proofs.Common.{◌≡◌, reverse}
use Rattle.cqe_base.specs.Machine.{cut}
use Rattle.std.proofs.Common.{vec_len}
use Rattle.clause_solver.proofs.plain.trail.cut.Given as goal

abbrev pub invariant-loop-trail : goal.invariant-loop-trail
invariant-loop-trail l = cut l.k (reverse l.trail.items) ≡ cut l.k (reverse l.initial.trail.items)

abbrev pub decreases-loop-trail : goal.decreases-loop-trail
decreases-loop-trail l = vec_len l.trail
