use Rattle.std.proofs.Common.{map, sym, ap, subst, arith}
use Rattle.std.proofs.lemmas.Result.{IfErr-weaker, on_ok_weaker}
use Rattle.outside.proofs.Rises.{rose_wide}
use Rattle.outside.specs.Shelf.{bytes_on}
use Rattle.log_journal.specs.Opening.{header_bytes, recorded, IsOldJournal}
use Rattle.init_engine.proofs.Apart.{apart_back}
use Rattle.init_engine.specs.Stops.{Stays}
use Rattle.migrate_engine.specs.Stops.{LeavesUnfilled, changed}
use Rattle.migrate_engine.proofs.Filling.{moved_of}
use Rattle.migrate_engine.proofs.Halves.{unread_reason, unfilled_reason, unfilled_wide, unfilled_left, unread_left}
use Rattle.migrate_engine.proofs.visit.move_journal.Goals as goal

pub returns-in-Ok-clause-moved : goal.returns-in-Ok-clause-moved
returns-in-Ok-clause-moved g c = λ told.
    let disk = g.F.Shelf.disk in
    let source = c.args.source.now in
    let target = c.args.target.now in
    let mid = c.read_source.new.shelf in
    on_ok_weaker c.fill_target.result
    (moved_of g.F.D.Disk (header_bytes c.args.header.now) (map recorded c.in-Ok.records.items) (map recorded c.deref.result.now)
    (disk c.args.shelf.now source) (disk c.args.shelf.now target) (disk mid target) (disk c.fill_target.new.shelf target)
    (ap (λ l. map recorded l) c.deref.ensures.value) (c.read_source.ensures.disks target (apart_back source target c.requires.apart))
    (c.in-Ok.ensures.opened told)) (c.fill_target.ensures.filled told)

pub returns-in-Ok-clause-reason : goal.returns-in-Ok-clause-reason
returns-in-Ok-clause-reason g c =
    let shelf = g.F.Shelf in
    let disk = g.F.D.Disk in
    let source = c.args.source.now in
    let target = c.args.target.now in
    let first = c.args.shelf.now in
    let mid = c.read_source.new.shelf in
    let new = c.fill_target.new.shelf in
    let header = header_bytes c.args.header.now in
    let same = c.read_source.ensures.disks target (apart_back source target c.requires.apart) in
    let counts = c.read_source.ensures.counts target in
    IfErr-weaker c.fill_target.result _ _
    (λ why is. unfilled_reason shelf.tells disk header source target (changed shelf first new)
    (λ told. (map recorded c.in-Ok.records.items, c.in-Ok.ensures.opened told)) why
    (unfilled_wide shelf.tells shelf.tells header (bytes_on disk.reads (shelf.disk mid target)) (bytes_on disk.reads (shelf.disk first target))
    (shelf.disk_faults mid target) (shelf.disk_faults first target) (shelf.disk_faults new target) (shelf.disk_faults new target)
    (λ told. told) (λ told. ap (bytes_on disk.reads) same) counts (omega arith)
    (shelf.faults mid) (shelf.faults first) (shelf.faults new) (shelf.faults new)
    (rose_wide (shelf.faults first) (shelf.faults mid) (shelf.faults new) (shelf.faults new) c.read_source.ensures.later (omega arith)) why is))
    c.fill_target.ensures.reason

pub returns-in-Ok-clause-source : goal.returns-in-Ok-clause-source
returns-in-Ok-clause-source g c = λ told.
    subst (λ o. Stays g.F.D.Disk (g.F.Shelf.disk c.args.shelf.now c.args.source.now) o)
    (sym (c.fill_target.ensures.disks c.args.source.now c.requires.apart)) (c.read_source.ensures.stays told)

pub returns-in-Ok-clause-target : goal.returns-in-Ok-clause-target
returns-in-Ok-clause-target g c = λ told.
    let shelf = g.F.Shelf in
    let disk = g.F.D.Disk in
    let target = c.args.target.now in
    let first = c.args.shelf.now in
    let mid = c.read_source.new.shelf in
    let new = c.fill_target.new.shelf in
    let same = c.read_source.ensures.disks target (apart_back c.args.source.now target c.requires.apart) in
    let header = header_bytes c.args.header.now in
    let bytes = bytes_on disk.reads (shelf.disk first c.args.source.now) in
    let all = map recorded c.deref.result.now in
    IfErr-weaker c.fill_target.result _ _
    (λ why is. unfilled_left disk header (shelf.disk first target) (shelf.disk new target) bytes all
    (subst (λ l. IsOldJournal header (map recorded l) bytes) (sym c.deref.ensures.value) (c.in-Ok.ensures.opened told)) why
    (subst (λ d. LeavesUnfilled disk header all d (shelf.disk new target) why) same is)) (c.fill_target.ensures.left told)

pub returns-in-Err-clause-reason : goal.returns-in-Err-clause-reason
returns-in-Err-clause-reason g c =
    unread_reason g.F.Shelf.tells g.F.D.Disk (header_bytes c.args.header.now) c.args.source.now c.args.target.now
    (changed g.F.Shelf c.args.shelf.now c.read_source.new.shelf) c.in-Err.why c.in-Err.ensures.reason

pub returns-in-Err-clause-target : goal.returns-in-Err-clause-target
returns-in-Err-clause-target g c = λ told.
    let target = c.args.target.now in
    unread_left g.F.D.Disk (header_bytes c.args.header.now) (g.F.Shelf.disk c.args.shelf.now target) (g.F.Shelf.disk c.read_source.new.shelf target)
    g.F.Shelf.tells (bytes_on g.F.D.Disk.reads (g.F.Shelf.disk c.args.shelf.now c.args.source.now)) _ _ _ _
    (c.read_source.ensures.disks target (apart_back c.args.source.now target c.requires.apart)) _ c.in-Err.why c.in-Err.ensures.reason
