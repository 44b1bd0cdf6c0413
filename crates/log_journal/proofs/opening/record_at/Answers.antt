use Rattle.std.proofs.Common.{drop, take, refl}
use Rattle.log_journal.proofs.Windows.{window_of, found_in, stopped_in}
use Rattle.log_journal.proofs.opening.record_at.Goals as goal

pub returns-clause-found : goal.returns-clause-found
returns-clause-found g c told =
    let R = g.D.Disk.reads c.args.disk.now in
    let window = take c.in_ok-count.count c.read_at.new.into in
    found_in c.args.kinds window (drop c.args.gate R)
    (window_of R c.args.gate c.in_ok-count.count _ c.read_at.new.into window refl (c.requires told) (c.in_ok-count.ensures.bytes told) refl)
    c.first_record.result c.first_record.ensures.found

pub returns-clause-refused : goal.returns-clause-refused
returns-clause-refused g c =
    let R = g.D.Disk.reads c.args.disk.now in
    let window = take c.in_ok-count.count c.read_at.new.into in
    stopped_in c.args.kinds g.D.Disk.tells window (drop c.args.gate R) c.args.number (g.D.Disk.faults c.args.disk.now) _
    (λ told. window_of R c.args.gate c.in_ok-count.count _ c.read_at.new.into window refl (c.requires told) (c.in_ok-count.ensures.bytes told) refl)
    c.first_record.result c.first_record.ensures.err
