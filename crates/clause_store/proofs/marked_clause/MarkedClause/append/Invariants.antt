use Rattle.std.proofs.Common.{◌≡◌, ◌++◌, take}
use Rattle.clause_store.proofs.marked_clause.MarkedClause.append.Given as goal

abbrev pub invariant-loop-literal : goal.invariant-loop-literal
invariant-loop-literal l = l.self ≡ record l.initial.self { clause = l.initial.self.clause ++ take l.literal-index l.clause }
