use Rattle.std.proofs.Common.{arith}
use Rattle.std.proofs.lemmas.List.{nil_from_length}
use Rattle.log_journal.proofs.Windows.{only_then}
use Rattle.log_journal.specs.Opening.{header_bytes}
use Rattle.init_engine.specs.Stops.{OnlyReads}
use Rattle.init_engine.proofs.Visiting.{stays_where, read_stays, read_ready, made_ready}
use Rattle.init_engine.proofs.visit.make.Given.{Over}
use Rattle.init_engine.proofs.visit.make.Goals as goal
use Rattle.init_engine.proofs.visit.make.Goals.{After-length, After-reopen}

-- its length was looked at
looked : (g : Over) (c : After-length g) → OnlyReads g.D.Disk c.args.disk c.length.new.self
looked g c =
    let e = c.length.ensures in
    record { reads = e.reads; images = e.images; moments = e.moments; time = e.time; count = e.cause.later }

-- and then it was opened
opened : (g : Over) (c : After-reopen g) → OnlyReads g.D.Disk c.args.disk c.reopen.result.0
opened g c = only_then _ _ _ _ _ _ _ _ _ _ _ _ _ _ _ (looked g (goal.at.returns-in-Ok-clause-kept g c).After-length) c.reopen.ensures.only

pub returns-in-Ok-eq0-clause-made : goal.returns-in-Ok-eq0-clause-made
returns-in-Ok-eq0-clause-made g c = λ told.
    let size = c.in-Ok-eq0.ensures.length told in
    let none = nil_from_length (g.D.Disk.reads c.args.disk) (omega (arith, size)) in
    made_ready g.D.Disk (header_bytes c.args.header.now) c.args.disk c.format_empty-made.new.disk c.format_empty-made.result c.map_err.result
    c.map_err.ensures.variant none (c.format_empty-made.ensures.made told)

pub returns-in-Ok-clause-made : goal.returns-in-Ok-clause-made
returns-in-Ok-clause-made g c = λ told.
    read_ready g.D.Disk (header_bytes c.args.header.now) c.args.disk c.reopen.result.0 c.length.new.self c.reopen.result.1 c.length.ensures.reads
    (opened g c) (c.reopen.ensures.made told)

pub returns-in-Ok-clause-kept : goal.returns-in-Ok-clause-kept
returns-in-Ok-clause-kept g c = λ told.
    stays_where g.D.Disk _ _ c.reopen.result.1 (read_stays g.D.Disk c.args.disk c.reopen.result.0 (opened g c))

pub returns-in-Err-clause-kept : goal.returns-in-Err-clause-kept
returns-in-Err-clause-kept g c = λ told some.
    read_stays g.D.Disk c.args.disk c.length.new.self (looked g (goal.at.returns-in-Err-clause-kept g c).After-length)
