use Rattle.std.proofs.Common.{drop}
use Rattle.std.specs.Prelude.{◌↔◌}
use Rattle.cqe_base.specs.Literal.{ClauseBelow}
use Rattle.clause_solver.proofs.conditions.is_below.Given as goal

abbrev pub invariant-loop-literal : goal.invariant-loop-literal
invariant-loop-literal l = ClauseBelow l.variables (drop l.literal-index l.clause) ↔ ClauseBelow l.variables l.clause
