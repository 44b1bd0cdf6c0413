use Rattle.std.proofs.Common.{ap, sym, refl, subst, ◌∙◌}
use Rattle.outside.proofs.Taken.{taken_reads, same_moments, given_moments}
use Rattle.outside.specs.Faults.{Rose}
use Rattle.outside.specs.Shelf.{Lent, image_on}
use Rattle.dossier_engine.proofs.run.dossier_of_journal.Goals as goal

-- it is the disk that was taken
pub give_disk-requires-clause-own : goal.give_disk-requires-clause-own
give_disk-requires-clause-own g c =
    c.show_disk-disk.ensures.origin ∙ c.in-Ok.ensures.origin ∙ ap (λ (l : Lent). l.origin c.args.journal.now) (sym c.take_disk.ensures.lent)

pub returns-in-Ok-clause-moments : goal.returns-in-Ok-clause-moments
returns-in-Ok-clause-moments g c = λ told.
    given_moments g.F.D.Disk g.met.F.D.Disk.only_now c.args.journal.now c.args.journal.now refl (g.F.Shelf.disk c.args.shelf.now)
    (g.F.Shelf.disk c.take_disk.new.self) (g.F.Shelf.disk c.give_disk.new.self) c.in-Ok.disk c.show_disk-disk.result.0 (c.in-Ok.ensures.taken told)
    c.show_disk-disk.ensures.moments (c.give_disk.ensures.held told) c.take_disk.ensures.disks c.give_disk.ensures.disks

pub returns-in-Err-Memory-clause-moments : goal.returns-in-Err-Memory-clause-moments
returns-in-Err-Memory-clause-moments g c = λ told.
    same_moments g.F.D.Disk g.met.F.D.Disk.only_now (g.F.Shelf.disk c.args.shelf.now) (g.F.Shelf.disk c.take_disk.new.self)
    c.in-Err-Memory.ensures.refused_disks

pub returns-in-Err-Missing-clause-moments : goal.returns-in-Err-Missing-clause-moments
returns-in-Err-Missing-clause-moments g c = λ told.
    same_moments g.F.D.Disk g.met.F.D.Disk.only_now (g.F.Shelf.disk c.args.shelf.now) (g.F.Shelf.disk c.take_disk.new.self)
    c.in-Err-Missing.ensures.refused_disks

pub returns-in-Err-Failed-clause-moments : goal.returns-in-Err-Failed-clause-moments
returns-in-Err-Failed-clause-moments g c = λ told.
    same_moments g.F.D.Disk g.met.F.D.Disk.only_now (g.F.Shelf.disk c.args.shelf.now) (g.F.Shelf.disk c.take_disk.new.self)
    c.in-Err-Failed.ensures.refused_disks

pub returns-in-Ok-clause-durable : goal.returns-in-Ok-clause-durable
returns-in-Ok-clause-durable g c = λ told done c' left.
    c.show_disk-disk.ensures.durable done c' (subst (λ o. image_on g.F.D.Disk.image o c') (c.give_disk.ensures.held told) left)
    ∙ taken_reads g.F.D.Disk.reads g.F.D.Disk.image (g.F.Shelf.disk c.args.shelf.now c.args.journal.now) c.in-Ok.disk (c.in-Ok.ensures.taken told)

pub returns-in-Ok-clause-journal_cause : goal.returns-in-Ok-clause-journal_cause
returns-in-Ok-clause-journal_cause g c = λ is.
    subst (λ n. Rose n (g.F.Shelf.disk_faults c.give_disk.new.self c.args.journal.now)) c.in-Ok.ensures.count
    (subst (λ n. Rose (g.F.D.Disk.faults c.in-Ok.disk) n) (sym c.give_disk.ensures.count) (c.show_disk-disk.ensures.journal_cause is))
