use Rattle.desk_crew.specs.Shelved.{journals_on}
use Rattle.batch_engine.proofs.Joining.{batches_are_calls, batches_are_spans, cut_batches_are_calls, later_cuts_are_calls}
use Rattle.batch_engine.proofs.Joining.{batches_join, cut_batches_join, late_batches_join, same_events}
use Rattle.batch_engine.proofs.laws.law_batches_join.Goals as goal

pub returns-clause-calls : goal.returns-clause-calls
returns-clause-calls g c = λ directory. batches_are_calls (journals_on g.F.Shelf g.F.D.Disk directory c.args.before.now c.args.behind.now)

pub returns-clause-spans : goal.returns-clause-spans
returns-clause-spans g c = λ directory. batches_are_spans (journals_on g.F.Shelf g.F.D.Disk directory c.args.before.now c.args.behind.now)

pub returns-clause-cut : goal.returns-clause-cut
returns-clause-cut g c = λ directory. cut_batches_are_calls (journals_on g.F.Shelf g.F.D.Disk directory c.args.before.now c.args.behind.now)

pub returns-clause-late : goal.returns-clause-late
returns-clause-late g c = λ directory. later_cuts_are_calls (journals_on g.F.Shelf g.F.D.Disk directory c.args.before.now c.args.behind.now)

pub returns-clause-same_lines : goal.returns-clause-same_lines
returns-clause-same_lines g c = λ directory schema world header policy.
    same_events schema world header policy (journals_on g.F.Shelf g.F.D.Disk directory c.args.before.now c.args.behind.now)
    (journals_on g.F.Shelf g.F.D.Disk directory c.args.later_before.now c.args.later_behind.now)

pub returns-clause-joined : goal.returns-clause-joined
returns-clause-joined g c = λ directory schema world header policy.
    batches_join schema world header policy (journals_on g.F.Shelf g.F.D.Disk directory c.args.before.now c.args.behind.now)
    (journals_on g.F.Shelf g.F.D.Disk directory c.args.later_before.now c.args.later_behind.now)

pub returns-clause-cut_joined : goal.returns-clause-cut_joined
returns-clause-cut_joined g c = λ directory schema world header policy.
    cut_batches_join schema world header policy (journals_on g.F.Shelf g.F.D.Disk directory c.args.before.now c.args.behind.now)
    (journals_on g.F.Shelf g.F.D.Disk directory c.args.later_before.now c.args.later_behind.now)

pub returns-clause-late_joined : goal.returns-clause-late_joined
returns-clause-late_joined g c = λ directory schema world header policy.
    late_batches_join schema world header policy (journals_on g.F.Shelf g.F.D.Disk directory c.args.before.now c.args.behind.now)
    (journals_on g.F.Shelf g.F.D.Disk directory c.args.later_before.now c.args.later_behind.now)
