use Rattle.clause_store.proofs.Marking.{at_refusal}
use Rattle.clause_store.proofs.marked_clause.MarkedClause.make_room.Goals as goal

pub returns-in_err-resize-clause-refused : goal.returns-in_err-resize-clause-refused
returns-in_err-resize-clause-refused c = at_refusal c.from_residual.result c.self.view_is
