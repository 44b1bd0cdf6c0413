use Rattle.std.proofs.Common.{map}
use Rattle.log_journal.specs.Opening.{header_bytes, recorded}
use Rattle.log_journal.proofs.Refusals.{unrefused, outside_only}
use Rattle.log_journal.proofs.opening.open.Goals as goal

pub returns-in-Ok-clause-opened : goal.returns-in-Ok-clause-opened
returns-in-Ok-clause-opened g c told = (c.in-Ok.ensures.opened told).0

pub returns-in-Ok-clause-sound : goal.returns-in-Ok-clause-sound
returns-in-Ok-clause-sound g c told why =
    unrefused 5 (header_bytes c.args.header.now) (map recorded c.in-Ok.records.items) (g.D.Disk.reads c.args.disk) (c.in-Ok.ensures.opened told) why

pub returns-in-Err-clause-good : goal.returns-in-Err-clause-good
returns-in-Err-clause-good g c told all journal =
    outside_only 5 (header_bytes c.args.header.now) all (g.D.Disk.reads c.args.disk) (journal, journal.each) g.D.Disk.tells (g.D.Disk.faults c.args.disk)
    (g.D.Disk.faults c.read_told.new.disk) c.in-Err.why told c.in-Err.ensures.refused
