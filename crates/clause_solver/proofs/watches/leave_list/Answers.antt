use Rattle.std.proofs.Common.{subst}
use Rattle.clause_solver.specs.Watching.{IsLater}
use Rattle.clause_solver.proofs.LeavingWatches.{loses_one}
use Rattle.clause_solver.proofs.watches.leave_list.Goals as goal

pub returns-in-Some : goal.returns-in-Some
returns-in-Some c =
    let count = c.args.clauses in
    let place = c.in-Some.place in
    loses_one count c.args.list.now.items c.remove-watch.new.self.items place
    (subst (λ ws. IsLater count ws place) c.deref.ensures.value c.in-Some.ensures.some) c.remove-watch.ensures.items
