use Rattle.std.proofs.Common.{◌≡◌, drop}
use Rattle.cqe_base.specs.Literal.{variable_of, union}
use Rattle.cqe_base.specs.Refutation.{without_variable}
use Rattle.clause_store.proofs.marked_clause.MarkedClause.resolve.Given as goal

abbrev pub invariant-loop-other : goal.invariant-loop-other
invariant-loop-other l = record {
  variables : l.self.variables ≡ l.initial.self.variables;
  same : union l.self.clause (without_variable (variable_of l.literal) (drop l.other-index l.clause))
      ≡ union l.initial.self.clause (without_variable (variable_of l.literal) l.clause);
}
