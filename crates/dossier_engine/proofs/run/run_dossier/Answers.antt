use Rattle.std.proofs.Common.{refl, ap, subst, ◌∙◌}
use Rattle.outside.proofs.Taken.{same_moments}
use Rattle.outside.specs.Disk.{Only}
use Rattle.outside.specs.Shelf.{bytes_on, image_on}
use Rattle.log_journal.specs.Names.{journal_name}
use Rattle.audit_engine.proofs.Taking.{all_bytes, all_images}
use Rattle.dossier_engine.proofs.run.run_dossier.Goals as goal

pub returns-in_default-clause-moments : goal.returns-in_default-clause-moments
returns-in_default-clause-moments g c = λ told.
    same_moments g.F.D.Disk g.met.F.D.Disk.only_now (g.F.Shelf.disk c.args.shelf.now) (g.F.Shelf.disk c.args.shelf.now) (λ name. refl)

pub returns-clause-durable : goal.returns-clause-durable
returns-clause-durable g c = λ told done.
    subst (λ n. Only (bytes_on g.F.D.Disk.reads (g.F.Shelf.disk c.args.shelf.now n))
    (image_on g.F.D.Disk.image (g.F.Shelf.disk c.dossier_of_journal.new.shelf n)))
    (c.as_str-2.ensures.value ∙ c.in-Ok.ensures ∙ ap (journal_name c.args.registry.now.directory.now) c.as_str.ensures.value)
    (c.dossier_of_journal.ensures.durable told done)

pub returns-clause-bytes : goal.returns-clause-bytes
returns-clause-bytes g c = λ told.
    all_bytes g.F.D.Disk.reads g.F.D.Disk.image c.as_str-2.result.now (g.F.Shelf.disk c.args.shelf.now) (g.F.Shelf.disk c.dossier_of_journal.new.shelf)
    c.dossier_of_journal.ensures.disks (c.dossier_of_journal.ensures.bytes told)

pub returns-clause-images : goal.returns-clause-images
returns-clause-images g c = λ told.
    all_images g.F.D.Disk.reads g.F.D.Disk.image c.as_str-2.result.now (g.F.Shelf.disk c.args.shelf.now) (g.F.Shelf.disk c.dossier_of_journal.new.shelf)
    c.dossier_of_journal.ensures.disks (c.dossier_of_journal.ensures.images told)
