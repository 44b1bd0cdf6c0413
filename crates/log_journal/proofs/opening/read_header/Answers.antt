use Rattle.std.proofs.Common.{◌∙◌, take, refl, subst}
use Rattle.log_journal.specs.Opening.{headed, Refuses}
use Rattle.log_journal.proofs.Windows.{start_of, start_refused, start_begins}
use Rattle.log_journal.proofs.opening.read_header.Goals as goal

pub returns-in-Some-clause-refused : goal.returns-in-Some-clause-refused
returns-in-Some-clause-refused g c kinds =
    let start = take c.in_ok-count.count c.read_at.new.into in
    start_refused kinds g.D.Disk.tells (headed c.args.first.now c.args.header.now) (g.D.Disk.reads c.args.disk.now) start (g.D.Disk.faults c.args.disk.now)
    (g.D.Disk.faults c.read_at.new.self) c.in-Some.why
    (λ told. start_of (g.D.Disk.reads c.args.disk.now)
    (g.D.Disk.reads c.length.new.self) c.in_ok-count.count _ c.read_at.new.into start c.length.ensures.reads refl
    (c.in_ok-count.ensures.bytes told) refl)
    c.in-Some.ensures.kind (subst (λ h. Refuses h start c.in-Some.why) c.header_array.ensures c.in-Some.ensures.some)

pub returns-in-None-clause-begins : goal.returns-in-None-clause-begins
returns-in-None-clause-begins g c told =
    let start = take c.in_ok-count.count c.read_at.new.into in
    start_begins (headed c.args.first.now c.args.header.now) (g.D.Disk.reads c.args.disk.now) start
    (start_of (g.D.Disk.reads c.args.disk.now) (g.D.Disk.reads c.length.new.self) c.in_ok-count.count _ c.read_at.new.into start c.length.ensures.reads refl
    (c.in_ok-count.ensures.bytes told) refl)
    (c.in-None.ensures.none.1 ∙ c.header_array.ensures)
