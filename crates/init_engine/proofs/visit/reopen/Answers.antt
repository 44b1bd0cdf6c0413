use Rattle.std.proofs.Common.{sym, subst}
use Rattle.init_engine.specs.Stops.{OnlyReads}
use Rattle.init_engine.proofs.visit.reopen.Goals as goal

pub returns-in-Ok-clause-only : goal.returns-in-Ok-clause-only
returns-in-Ok-clause-only g c =
    let e = c.in-Ok.ensures in
    subst (λ d. OnlyReads g.D.Disk c.args.disk d) (sym c.close.ensures)
    (record { reads = e.reads; images = e.images; moments = e.moments; time = e.time; count = e.count })

pub returns-in-Err-clause-only : goal.returns-in-Err-clause-only
returns-in-Err-clause-only g c =
    let e = c.in-Err.ensures in
    record { reads = e.reads; images = e.images; moments = e.moments; time = e.time; count = e.count }
