use Rattle.std.proofs.Common.{subst}
use Rattle.cqe_base.specs.Literal.{ClauseBelow, ClausesBelow}
use Rattle.clause_solver.proofs.StateMoves.{each_first}
use Rattle.clause_solver.proofs.propagation.settled_with.Goals as goal

pub set_variables-requires-clause-below : goal.set_variables-requires-clause-below
set_variables-requires-clause-below c =
    each_first (ClauseBelow c.args.variables) c.args.from.clauses c.requires.begins.0
    (subst (ClausesBelow c.args.variables) c.requires.begins.1 c.requires.below)
