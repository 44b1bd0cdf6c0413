use Rattle.std.proofs.Common.{refl, ap, subst, ◌∙◌}
use Rattle.std.specs.Prelude.{IfOk, string_bytes}
use Rattle.log_journal.specs.Names.{journal_name}
use Rattle.log_journal.specs.Opening.{header_bytes}
use Rattle.standby_engine.specs.Opened.{IsPlaceUnder}
use Rattle.standby_engine.proofs.Returning.{stays_same}
use Rattle.standby_engine.proofs.opening.open_one.Goals as goal

pub returns-in_default-clause-refused : goal.returns-in_default-clause-refused
returns-in_default-clause-refused g c = λ told.
    stays_same g.F.D.Disk g.met.F.D.Disk.only_now (g.F.Shelf.disk c.args.shelf.now) (g.F.Shelf.disk c.args.shelf.now) (λ name. refl)

pub returns-in_default-from_str-clause-refused : goal.returns-in_default-from_str-clause-refused
returns-in_default-from_str-clause-refused g c = λ told.
    stays_same g.F.D.Disk g.met.F.D.Disk.only_now (g.F.Shelf.disk c.args.shelf.now) (g.F.Shelf.disk c.args.shelf.now) (λ name. refl)

pub returns-clause-opened : goal.returns-clause-opened
returns-clause-opened g c =
    let directory = c.args.directory.now in
    let journal = c.in-Ok.ensures ∙ ap (journal_name directory) c.as_str.ensures.value in
    let user = c.in-Ok-from_str.ensures.ok ∙ c.as_str-2.ensures.value in
    subst (λ n. IfOk c.open_named.result (IsPlaceUnder g.F.Shelf.tells g.F.D.Disk (header_bytes c.args.header.now) (g.F.Shelf.disk c.args.shelf.now)
    (g.F.Shelf.disk_faults c.args.shelf.now) (journal_name directory (string_bytes c.args.user.now.name)) n)) user
    (subst (λ n. IfOk c.open_named.result (IsPlaceUnder g.F.Shelf.tells g.F.D.Disk (header_bytes c.args.header.now) (g.F.Shelf.disk c.args.shelf.now)
    (g.F.Shelf.disk_faults c.args.shelf.now) n (string_bytes c.in-Ok-from_str.name))) journal c.open_named.ensures.opened)
