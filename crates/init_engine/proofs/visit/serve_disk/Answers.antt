use Rattle.std.proofs.Common.{◌∙◌, ap, sym, arith}
use Rattle.std.proofs.lemmas.Result.{IfErr-weaker, on_ok_weaker}
use Rattle.outside.proofs.Taken.{taken_reads}
use Rattle.outside.specs.Shelf.{Lent, bytes_on}
use Rattle.log_journal.specs.Opening.{header_bytes}
use Rattle.init_engine.proofs.Reasons.{reason_of, none_rose}
use Rattle.init_engine.proofs.Visiting.{held_ready, untouched}
use Rattle.init_engine.proofs.visit.serve_disk.Goals as goal

-- it is the disk that was taken
pub give_disk-requires-clause-own : goal.give_disk-requires-clause-own
give_disk-requires-clause-own g c =
    c.make-disk.ensures.origin ∙ c.in-Ok.ensures.origin ∙ ap (λ (l : Lent). l.origin c.args.journal.now) (sym c.take_disk.ensures.lent)

pub returns-in-Ok-clause-reason : goal.returns-in-Ok-clause-reason
returns-in-Ok-clause-reason g c =
    let shelf = g.F.Shelf in
    let disk = g.F.D.Disk in
    let journal = c.args.journal.now in
    let held = shelf.disk c.args.shelf.now journal in
    let count = c.in-Ok.ensures.count in
    let back = c.give_disk.ensures.count in
    IfErr-weaker c.make-disk.result.1 _ _
    (λ why. reason_of disk.tells shelf.tells (header_bytes c.args.header.now) (disk.reads c.in-Ok.disk) (bytes_on disk.reads held)
    (disk.faults c.in-Ok.disk) (shelf.disk_faults c.args.shelf.now journal) (disk.faults c.make-disk.result.0) (shelf.disk_faults c.give_disk.new.self journal)
    g.met.F.Shelf.tells_disks (λ told. taken_reads disk.reads disk.image held c.in-Ok.disk (c.in-Ok.ensures.taken told)) (omega (arith, count))
    (omega (arith, back))
    0 (shelf.faults c.args.shelf.now) 0 (shelf.faults c.give_disk.new.self) none_rose why) c.make-disk.ensures.reason

pub returns-in-Ok-clause-ready : goal.returns-in-Ok-clause-ready
returns-in-Ok-clause-ready g c = λ told.
    let shelf = g.F.Shelf in
    let journal = c.args.journal.now in
    on_ok_weaker c.make-disk.result.1
    (held_ready g.F.D.Disk (header_bytes c.args.header.now) (shelf.disk c.args.shelf.now journal) (shelf.disk c.give_disk.new.self journal) c.in-Ok.disk
    c.make-disk.result.0 (c.in-Ok.ensures.taken told) (c.give_disk.ensures.held told))
    (c.make-disk.ensures.made (g.met.F.Shelf.tells_disks told))

pub returns-in-Err-Failed-clause-kept : goal.returns-in-Err-Failed-clause-kept
returns-in-Err-Failed-clause-kept g c = λ told.
    untouched g.F.D.Disk g.met.F.D.Disk.only_now (g.F.Shelf.disk c.args.shelf.now c.args.journal.now) (g.F.Shelf.disk c.take_disk.new.self c.args.journal.now)
    (c.in-Err-Failed.ensures.refused_disks c.args.journal.now)

pub returns-in-Err-clause-kept : goal.returns-in-Err-clause-kept
returns-in-Err-clause-kept g c = λ told.
    untouched g.F.D.Disk g.met.F.D.Disk.only_now (g.F.Shelf.disk c.args.shelf.now c.args.journal.now) (g.F.Shelf.disk c.take_disk.new.self c.args.journal.now)
    (c.in-Err.ensures.refused_disks c.args.journal.now)
