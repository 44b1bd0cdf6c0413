use Rattle.std.proofs.Common.{sym}
use Rattle.clause_solver.proofs.StateMoves.{no_first_conflict}
use Rattle.clause_solver.proofs.propagation.is_settled.Goals as goal

pub has_no_unit-requires-clause-calm : goal.has_no_unit-requires-clause-calm
has_no_unit-requires-clause-calm c =
    no_first_conflict c.args.state.now.assignment.trail c.args.state.now.clauses 0 (sym c.in-None.ensures.first)
