use Rattle.std.proofs.Common.{◌<◌, ◌^◌, take}
use Rattle.cqe_base.specs.Literal.{ClauseBelow}
use Rattle.clause_store.proofs.marked_clause.variables_of.Given as goal

abbrev pub invariant-loop-literal : goal.invariant-loop-literal
invariant-loop-literal l = record {
  below : ClauseBelow l.above (take l.literal-index l.clause);
  fits : l.above < 2 ^ 31;
}
