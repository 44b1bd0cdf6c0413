use Rattle.std.proofs.Common.{refl, ap, subst, ◌∙◌}
use Rattle.outside.proofs.Taken.{same_moments}
use Rattle.outside.specs.Disk.{Only}
use Rattle.outside.specs.Shelf.{bytes_on, image_on}
use Rattle.log_journal.specs.Names.{journal_name}
use Rattle.audit_engine.proofs.run.run_audit.Goals as goal

pub returns-in_default-clause-moments : goal.returns-in_default-clause-moments
returns-in_default-clause-moments g c = λ told.
    same_moments g.F.D.Disk g.met.F.D.Disk.only_now (g.F.Shelf.disk c.args.shelf.now) (g.F.Shelf.disk c.args.shelf.now) (λ name. refl)

pub returns-clause-durable : goal.returns-clause-durable
returns-clause-durable g c = λ told done.
    subst (λ n. Only (bytes_on g.F.D.Disk.reads (g.F.Shelf.disk c.args.shelf.now n))
    (image_on g.F.D.Disk.image (g.F.Shelf.disk c.audit_journal.new.shelf n)))
    (c.as_str-2.ensures.value ∙ c.in-Ok.ensures ∙ ap (journal_name c.args.registry.now.directory.now) c.as_str.ensures.value)
    (c.audit_journal.ensures.durable told done)
