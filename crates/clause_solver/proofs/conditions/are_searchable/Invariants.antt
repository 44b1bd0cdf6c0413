use Rattle.std.proofs.Common.{drop}
use Rattle.std.specs.Prelude.{◌↔◌}
use Rattle.cqe_base.specs.Literal.{ClausesBelow, HaveNoRepeat}
use Rattle.clause_solver.proofs.conditions.are_searchable.Given as goal

abbrev pub invariant-loop-number : goal.invariant-loop-number
invariant-loop-number l = record {
  below : ClausesBelow l.variables (drop l.number l.clauses) ↔ ClausesBelow l.variables l.clauses;
  no_repeat : HaveNoRepeat (drop l.number l.clauses) ↔ HaveNoRepeat l.clauses;
}
