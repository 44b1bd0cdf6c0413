use Rattle.std.proofs.Common.{sym, subst}
use Rattle.log_journal.specs.Opening.{header_bytes}
use Rattle.init_engine.specs.Stops.{OnlyReads}
use Rattle.migrate_engine.specs.Stops.{IsUnread}
use Rattle.migrate_engine.proofs.Halves.{unread_of}
use Rattle.migrate_engine.proofs.source.read_old.Goals as goal

pub returns-in-Ok-clause-only : goal.returns-in-Ok-clause-only
returns-in-Ok-clause-only g c =
    let e = c.in-Ok.ensures in
    subst (λ d. OnlyReads g.D.Disk c.args.disk d) (sym c.close.ensures)
    (record { reads = e.reads; images = e.images; moments = e.moments; time = e.time; count = e.count })

pub returns-in-Err-clause-only : goal.returns-in-Err-clause-only
returns-in-Err-clause-only g c =
    let e = c.in-Err.ensures in
    record { reads = e.reads; images = e.images; moments = e.moments; time = e.time; count = e.count }

pub returns-in-Err-clause-reason : goal.returns-in-Err-clause-reason
returns-in-Err-clause-reason g c =
    subst (λ s. IsUnread g.D.Disk.tells (header_bytes c.args.header.now) (g.D.Disk.reads c.args.disk) (g.D.Disk.faults c.args.disk)
    (g.D.Disk.faults c.in-Err.refused.disk) 0 0 s) (sym c.stop_of.ensures)
    (unread_of g.D.Disk.tells (header_bytes c.args.header.now) (g.D.Disk.reads c.args.disk) (g.D.Disk.faults c.args.disk)
    (g.D.Disk.faults c.in-Err.refused.disk) c.in-Err.refused.why c.in-Err.ensures.refused)
