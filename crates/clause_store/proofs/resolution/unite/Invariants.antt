use Rattle.std.proofs.Common.{◌≡◌, drop}
use Rattle.cqe_base.specs.Literal.{union}
use Rattle.clause_store.proofs.resolution.unite.Given as goal

abbrev pub invariant-loop-literal : goal.invariant-loop-literal
invariant-loop-literal l = union l.clause.items (drop l.literal-index l.more) ≡ union l.initial.clause.items l.more
