use Rattle.std.proofs.Common.{sym, subst}
use Rattle.log_journal.specs.Journal.{disk_of}
use Rattle.log_journal.specs.Records.{Adds}
use Rattle.log_journal.proofs.journal.Journal.append.Goals as goal

pub returns-in-Ok-clause-kept : goal.returns-in-Ok-clause-kept
returns-in-Ok-clause-kept g c told c' is =
    subst (λ b. Adds (g.D.Disk.reads (disk_of c.args.self.now)) (c.args.kind, c.args.text.now) b) (sym (c.in-Ok.ensures.durable c' is))
    (c.in-Ok.ensures.added told)

pub returns-in-Ok-clause-moments : goal.returns-in-Ok-clause-moments
returns-in-Ok-clause-moments g c told whole = c.put_told.ensures.moments told

pub returns-in-Err-clause-moments : goal.returns-in-Err-clause-moments
returns-in-Err-clause-moments g c told whole = c.put_told.ensures.moments told

pub returns-in-Err-clause-either : goal.returns-in-Err-clause-either
returns-in-Err-clause-either g c told fault = c.put_told.ensures.images told
