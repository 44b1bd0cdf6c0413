use Rattle.std.proofs.Common.{◌∙◌, ap, sym, map, arith}
use Rattle.std.proofs.lemmas.Result.{IfErr-weaker, on_ok_weaker}
use Rattle.outside.proofs.Taken.{taken_reads}
use Rattle.outside.specs.Shelf.{Lent, bytes_on}
use Rattle.log_journal.specs.Opening.{header_bytes, recorded}
use Rattle.init_engine.proofs.Reasons.{none_rose}
use Rattle.migrate_engine.proofs.Filling.{held_filled, held_left}
use Rattle.migrate_engine.proofs.Halves.{unfilled_wide}
use Rattle.migrate_engine.proofs.target.fill_target.Goals as goal

-- it is the disk that was taken
pub give_disk-requires-clause-own : goal.give_disk-requires-clause-own
give_disk-requires-clause-own g c =
    c.fill-disk.ensures.origin ∙ c.in-Ok.ensures.origin ∙ ap (λ (l : Lent). l.origin c.args.target.now) (sym c.take_disk.ensures.lent)

pub returns-in-Ok-clause-filled : goal.returns-in-Ok-clause-filled
returns-in-Ok-clause-filled g c = λ told.
    let shelf = g.F.Shelf in
    let target = c.args.target.now in
    on_ok_weaker c.fill-disk.result.1
    (held_filled g.F.D.Disk (header_bytes c.args.header.now) (map recorded c.args.records.now) (shelf.disk c.args.shelf.now target)
    (shelf.disk c.give_disk.new.self target) c.in-Ok.disk c.fill-disk.result.0 (c.in-Ok.ensures.taken told) (c.give_disk.ensures.held told))
    (c.fill-disk.ensures.filled (g.met.F.Shelf.tells_disks told))

pub returns-in-Ok-clause-reason : goal.returns-in-Ok-clause-reason
returns-in-Ok-clause-reason g c =
    let shelf = g.F.Shelf in
    let disk = g.F.D.Disk in
    let target = c.args.target.now in
    let held = shelf.disk c.args.shelf.now target in
    let count = c.in-Ok.ensures.count in
    let back = c.give_disk.ensures.count in
    IfErr-weaker c.fill-disk.result.1 _ _
    (λ why. unfilled_wide disk.tells shelf.tells (header_bytes c.args.header.now) (disk.reads c.in-Ok.disk) (bytes_on disk.reads held)
    (disk.faults c.in-Ok.disk) (shelf.disk_faults c.args.shelf.now target) (disk.faults c.fill-disk.result.0) (shelf.disk_faults c.give_disk.new.self target)
    g.met.F.Shelf.tells_disks (λ told. taken_reads disk.reads disk.image held c.in-Ok.disk (c.in-Ok.ensures.taken told)) (omega (arith, count))
    (omega (arith, back))
    0 (shelf.faults c.args.shelf.now) 0 (shelf.faults c.give_disk.new.self) none_rose why) c.fill-disk.ensures.reason

pub returns-in-Ok-clause-left : goal.returns-in-Ok-clause-left
returns-in-Ok-clause-left g c = λ told.
    let shelf = g.F.Shelf in
    let target = c.args.target.now in
    IfErr-weaker c.fill-disk.result.1 _ _
    (held_left g.F.D.Disk (header_bytes c.args.header.now) (map recorded c.args.records.now) (shelf.disk c.args.shelf.now target)
    (shelf.disk c.give_disk.new.self target) c.in-Ok.disk c.fill-disk.result.0 (c.in-Ok.ensures.taken told) (c.give_disk.ensures.held told))
    (c.fill-disk.ensures.left (g.met.F.Shelf.tells_disks told))

pub returns-in-Err-Failed-clause-left : goal.returns-in-Err-Failed-clause-left
returns-in-Err-Failed-clause-left g c = λ told. c.in-Err-Failed.ensures.refused_disks c.args.target.now

pub returns-in-Err-clause-left : goal.returns-in-Err-clause-left
returns-in-Err-clause-left g c = λ told. c.in-Err.ensures.refused_disks c.args.target.now
