use Rattle.std.proofs.Common.{refl, ap, subst, ◌∙◌}
use Rattle.outside.specs.Shelf.{IsTaken}
use Rattle.log_journal.specs.Names.{journal_name}
use Rattle.desk_crew.proofs.crew.take_one.Goals as goal

pub returns-clause-own : goal.returns-clause-own
returns-clause-own g c =
    c.in-Ok-take_disk.ensures.origin ∙ ap (g.F.Shelf.lent c.args.shelf.now).origin c.as_str-2.ensures.value

pub returns-clause-taken : goal.returns-clause-taken
returns-clause-taken g c =
    let named = c.in-Ok.ensures ∙ ap (journal_name c.args.registry.now.directory.now) c.as_str.ensures.value in
    let under = c.as_str-2.ensures.value ∙ named in
    record {
      user_is = refl;
      admission_is = refl;
      before_is = refl;
      taken = record {
        journal_is = named;
        from = λ told. subst (λ n. IsTaken g.F.D.Disk.reads g.F.D.Disk.image (g.F.Shelf.disk c.args.shelf.now n) c.in-Ok-take_disk.disk) under
            (c.in-Ok-take_disk.ensures.taken told);
        unheard = c.in-Ok-take_disk.ensures.unheard;
        counted = c.in-Ok-take_disk.ensures.count ∙ ap (g.F.Shelf.disk_faults c.args.shelf.now) under;
      };
    }
