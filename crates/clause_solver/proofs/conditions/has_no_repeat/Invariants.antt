use Rattle.std.proofs.Common.{drop}
use Rattle.std.specs.Prelude.{◌↔◌}
use Rattle.cqe_base.specs.Literal.{HasNoRepeat}
use Rattle.clause_solver.proofs.conditions.has_no_repeat.Given as goal

abbrev pub invariant-loop-i : goal.invariant-loop-i
invariant-loop-i l = HasNoRepeat (drop l.i l.clause) ↔ HasNoRepeat l.clause
