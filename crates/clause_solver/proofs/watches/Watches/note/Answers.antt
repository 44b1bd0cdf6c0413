use Rattle.std.proofs.Common.{refl}
use Rattle.clause_solver.proofs.watches.Watches.note.Goals as goal

pub returns-in_ok-push-clause-unit : goal.returns-in_ok-push-clause-unit
returns-in_ok-push-clause-unit c = λ _. (refl, c.in_ok-push.ensures)
