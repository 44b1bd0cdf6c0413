use Rattle.std.proofs.Common.{[], length, sym, ap}
use Rattle.log_journal.specs.Opening.{header_bytes}
use Rattle.log_journal.proofs.Fronts.{walked, empty_ends_of}
use Rattle.log_journal.proofs.opening.create.Goals as goal

pub at-requires-clause-ends : goal.at-requires-clause-ends
at-requires-clause-ends g c told =
    empty_ends_of (header_bytes c.args.header.now) (g.D.Disk.reads c.format.new.disk) (c.in-Ok.ensures.journal told).size
    (c.in-Ok.ensures.written told)

pub at-requires-clause-counted : goal.at-requires-clause-counted
at-requires-clause-counted g c told =
    sym (ap length (walked (header_bytes c.args.header.now) [] (g.D.Disk.reads c.format.new.disk) (c.in-Ok.ensures.journal told)).are)
