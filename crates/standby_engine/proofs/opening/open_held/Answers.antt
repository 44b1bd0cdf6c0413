use Rattle.std.proofs.Common.{[], List, map, arith}
use Rattle.std.proofs.lemmas.List.{length-map}
use Rattle.log_journal.specs.Opening.{header_bytes, recorded}
use Rattle.log_journal.specs.Records.{Recorded}
use Rattle.standby_engine.proofs.Begun.{lasts_first}
use Rattle.standby_engine.proofs.opening.open_held.Goals as goal

pub returns-in-Ok-clause-opened : goal.returns-in-Ok-clause-opened
returns-in-Ok-clause-opened g c = λ told.
    let is = c.in-Ok.ensures in
    let first : List Recorded = map recorded c.in-Ok.records.items in (
      first,
      (
        is.opened told,
        lasts_first g.D.Disk g.met.D.Disk.counts_now g.met.D.Disk.only_now (header_bytes c.args.header.now) first (g.D.Disk.reads c.args.disk) _ _
            c.len-count.result _ (is.opened told) is.reads is.durable (omega (arith, c.len-count.ensures, length-map c.in-Ok.records.items recorded)),
      ),
    )

pub returns-in-Ok-clause-sound : goal.returns-in-Ok-clause-sound
returns-in-Ok-clause-sound g c =
    let count = c.len-count.ensures in
    let number = c.in-Ok.ensures.number in
    (c.in-Ok.ensures.whole, omega (arith, count, number))

pub returns-in-Err-clause-opened : goal.returns-in-Err-clause-opened
returns-in-Err-clause-opened g c = λ told. ([], tt)

pub returns-in-Err-clause-sound : goal.returns-in-Err-clause-sound
returns-in-Err-clause-sound g c = c.in-Err.ensures.refused

pub returns-in-Ok-clause-only : goal.returns-in-Ok-clause-only
returns-in-Ok-clause-only g c =
    let is = c.in-Ok.ensures in
    record { reads = is.reads; images = is.images; moments = is.moments; time = is.time; count = is.count }

pub returns-in-Err-clause-only : goal.returns-in-Err-clause-only
returns-in-Err-clause-only g c =
    let is = c.in-Err.ensures in
    record { reads = is.reads; images = is.images; moments = is.moments; time = is.time; count = is.count }
