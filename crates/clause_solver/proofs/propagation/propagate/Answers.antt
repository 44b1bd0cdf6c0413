use Rattle.std.proofs.Common.{sym}
use Rattle.clause_solver.proofs.StateMoves.{no_first_conflict}
use Rattle.clause_solver.proofs.propagation.propagate.Goals as goal

pub propagate_unit-requires-clause-calm : goal.propagate_unit-requires-clause-calm
propagate_unit-requires-clause-calm c =
    no_first_conflict c.args.state.now.assignment.trail c.args.state.now.clauses 0 (sym c.in-None.ensures.first)
