use Rattle.std.proofs.Common.{◌≡◌, max, drop}
use Rattle.cqe_base.specs.KeptTrail.{latest_place}
use Rattle.clause_solver.proofs.assignment.Assignment.latest_place.Given as goal

abbrev pub invariant-loop-literal : goal.invariant-loop-literal
invariant-loop-literal l = max l.latest (latest_place l.self.trail (drop l.literal-index l.clause)) ≡ latest_place l.self.trail l.clause
