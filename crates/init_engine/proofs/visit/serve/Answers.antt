use Rattle.std.proofs.Common.{refl}
use Rattle.init_engine.proofs.Visiting.{stays_where, untouched}
use Rattle.log_journal.specs.Names.{journal_name}
use Rattle.init_engine.proofs.visit.serve.Goals as goal

pub returns-in_err-journal-clause-kept : goal.returns-in_err-journal-clause-kept
returns-in_err-journal-clause-kept g c = λ told.
    let held = g.F.Shelf.disk c.args.shelf.now (journal_name c.args.directory.now c.args.name.now) in
    stays_where g.F.D.Disk held held _ (untouched g.F.D.Disk g.met.F.D.Disk.only_now held held refl)
