use Rattle.std.proofs.Common.{rules, ◌≡◌, refl, subst}
use Rattle.std.specs.Prelude.{IfErr}
use Rattle.outside.specs.Shelf.{bytes_on}
use Rattle.log_journal.specs.Names.{journal_name}
use Rattle.log_journal.specs.Opening.{header_bytes}
use Rattle.init_engine.proofs.Visiting.{untouched}
use Rattle.migrate_engine.specs.Stops.{HasReason, LeavesTarget, changed}
use Rattle.migrate_engine.proofs.visit.serve.Goals as goal

pub returns-in_err-source-clause-source : goal.returns-in_err-source-clause-source
returns-in_err-source-clause-source g c = λ told.
    let held = g.F.Shelf.disk c.args.shelf.now (journal_name c.args.from.now c.args.name.now) in
    untouched g.F.D.Disk g.met.F.D.Disk.only_now held held refl

pub returns-in_err-target-clause-source : goal.returns-in_err-target-clause-source
returns-in_err-target-clause-source g c = λ told.
    let held = g.F.Shelf.disk c.args.shelf.now (journal_name c.args.from.now c.args.name.now) in
    untouched g.F.D.Disk g.met.F.D.Disk.only_now held held refl

pub returns-clause-reason : goal.returns-clause-reason
returns-clause-reason g c =
    let first : c.as_str.result.now ≡ journal_name c.args.from.now c.args.name.now = search rules in
    let second : c.as_str-2.result.now ≡ journal_name c.args.to.now c.args.name.now = search rules in
    let header = header_bytes c.args.header.now in
    let change = changed g.F.Shelf c.args.shelf.now c.move_journal.new.shelf in
    let stopped = c.move_journal.result in
    subst (λ n. IfErr stopped (HasReason g.F.Shelf.tells g.F.D.Disk header n (journal_name c.args.to.now c.args.name.now) change)) first
    (subst (λ n. IfErr stopped (HasReason g.F.Shelf.tells g.F.D.Disk header c.as_str.result.now n change)) second c.move_journal.ensures.reason)

pub returns-clause-target : goal.returns-clause-target
returns-clause-target g c = λ told.
    let first : c.as_str.result.now ≡ journal_name c.args.from.now c.args.name.now = search rules in
    let second : c.as_str-2.result.now ≡ journal_name c.args.to.now c.args.name.now = search rules in
    let header = header_bytes c.args.header.now in
    let disk = g.F.Shelf.disk in
    let old = c.args.shelf.now in
    let new = c.move_journal.new.shelf in
    let stopped = c.move_journal.result in
    let to = journal_name c.args.to.now c.args.name.now in
    subst (λ n. IfErr stopped (LeavesTarget g.F.D.Disk header (bytes_on g.F.D.Disk.reads (disk old n)) (disk old to) (disk new to))) first
    (subst (λ n. IfErr stopped (LeavesTarget g.F.D.Disk header (bytes_on g.F.D.Disk.reads (disk old c.as_str.result.now)) (disk old n) (disk new n)))
    second (c.move_journal.ensures.target told))
