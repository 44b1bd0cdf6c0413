use Rattle.std.proofs.Common.{◌∙◌, ap, List, ℕ, map, sym, subst, arith}
use Rattle.std.proofs.lemmas.Result.{IfErr-weaker, IfOk-weaker}
use Rattle.outside.proofs.Taken.{taken_reads}
use Rattle.outside.specs.Shelf.{Lent, bytes_on}
use Rattle.log_journal.specs.Opening.{header_bytes, recorded, IsOldJournal}
use Rattle.init_engine.proofs.Reasons.{held_stays, none_rose}
use Rattle.init_engine.proofs.Visiting.{read_stays, untouched}
use Rattle.init_engine.specs.Stops.{Stays}
use Rattle.migrate_engine.proofs.Halves.{unread_wide}
use Rattle.migrate_engine.proofs.source.read_source.Goals as goal

-- it is the disk that was taken
pub give_disk-requires-clause-own : goal.give_disk-requires-clause-own
give_disk-requires-clause-own g c =
    c.read_old-disk.ensures.origin ∙ c.in-Ok.ensures.origin ∙ ap (λ (l : Lent). l.origin c.args.source.now) (sym c.take_disk.ensures.lent)

pub returns-in-Ok-clause-opened : goal.returns-in-Ok-clause-opened
returns-in-Ok-clause-opened g c = λ told.
    let disk = g.F.D.Disk in
    let held = g.F.Shelf.disk c.args.shelf.now c.args.source.now in
    IfOk-weaker c.read_old-disk.result.1 _ _
    (λ records. subst (λ (b : List ℕ). IsOldJournal (header_bytes c.args.header.now) (map recorded records.items) b)
    (taken_reads disk.reads disk.image held c.in-Ok.disk (c.in-Ok.ensures.taken told))) (c.read_old-disk.ensures.opened (g.met.F.Shelf.tells_disks told))

pub returns-in-Ok-clause-reason : goal.returns-in-Ok-clause-reason
returns-in-Ok-clause-reason g c =
    let shelf = g.F.Shelf in
    let disk = g.F.D.Disk in
    let source = c.args.source.now in
    let held = shelf.disk c.args.shelf.now source in
    let count = c.in-Ok.ensures.count in
    let back = c.give_disk.ensures.count in
    IfErr-weaker c.read_old-disk.result.1 _ _
    (λ why. unread_wide disk.tells shelf.tells (header_bytes c.args.header.now) (disk.reads c.in-Ok.disk) (bytes_on disk.reads held)
    (disk.faults c.in-Ok.disk) (shelf.disk_faults c.args.shelf.now source) (disk.faults c.read_old-disk.result.0)
    (shelf.disk_faults c.give_disk.new.self source)
    g.met.F.Shelf.tells_disks (λ told. taken_reads disk.reads disk.image held c.in-Ok.disk (c.in-Ok.ensures.taken told)) (omega (arith, count))
    (omega (arith, back))
    0 (shelf.faults c.args.shelf.now) 0 (shelf.faults c.give_disk.new.self) none_rose why) c.read_old-disk.ensures.reason

pub returns-in-Ok-clause-stays : goal.returns-in-Ok-clause-stays
returns-in-Ok-clause-stays g c = λ told.
    let disk = g.F.D.Disk in
    let held = g.F.Shelf.disk c.args.shelf.now c.args.source.now in
    subst (λ o. Stays disk held o) (sym (c.give_disk.ensures.held told))
    (held_stays disk c.read_old-disk.result.0 held c.in-Ok.disk (c.in-Ok.ensures.taken told)
    (read_stays disk c.in-Ok.disk c.read_old-disk.result.0 c.read_old-disk.ensures.only))

pub returns-in-Err-Failed-clause-stays : goal.returns-in-Err-Failed-clause-stays
returns-in-Err-Failed-clause-stays g c = λ told.
    untouched g.F.D.Disk g.met.F.D.Disk.only_now (g.F.Shelf.disk c.args.shelf.now c.args.source.now)
    (g.F.Shelf.disk c.take_disk.new.self c.args.source.now) (c.in-Err-Failed.ensures.refused_disks c.args.source.now)

pub returns-in-Err-clause-stays : goal.returns-in-Err-clause-stays
returns-in-Err-clause-stays g c = λ told.
    untouched g.F.D.Disk g.met.F.D.Disk.only_now (g.F.Shelf.disk c.args.shelf.now c.args.source.now)
    (g.F.Shelf.disk c.take_disk.new.self c.args.source.now) (c.in-Err.ensures.refused_disks c.args.source.now)
