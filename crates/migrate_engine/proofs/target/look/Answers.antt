use Rattle.log_journal.proofs.Windows.{only_then}
use Rattle.init_engine.specs.Stops.{OnlyReads}
use Rattle.migrate_engine.proofs.target.look.Given.{Over}
use Rattle.migrate_engine.proofs.target.look.Goals as goal
use Rattle.migrate_engine.proofs.target.look.Goals.{After-sync}

synced : (g : Over) (c : After-sync g) → OnlyReads g.D.Disk c.args.disk.now c.sync.new.self
synced g c =
    let e = c.sync.ensures in
    record { reads = e.reads; images = e.images; moments = e.moments; time = e.time; count = e.cause.later }

pub returns-in_err-sync-clause-only : goal.returns-in_err-sync-clause-only
returns-in_err-sync-clause-only g c = synced g (goal.at.returns-in_err-sync-clause-only g c).After-sync

pub returns-clause-only : goal.returns-clause-only
returns-clause-only g c =
    let e = c.length.ensures in
    only_then _ _ _ _ _ _ _ _ _ _ _ _ _ _ _ (synced g (goal.at.returns-clause-only g c).After-sync)
    (record { reads = e.reads; images = e.images; moments = e.moments; time = e.time; count = e.cause.later })
