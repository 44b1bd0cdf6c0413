use Rattle.std.proofs.Common.{List, ℕ, map, take, subst}
use Rattle.std.proofs.lemmas.Result.{IfErr-weaker, IfOk-weaker, err_from_is_err_and}
use Rattle.log_journal.specs.Opening.{headed, recorded, IsJournalOf, IsRead}
use Rattle.log_journal.proofs.Windows.{cut_refused}
use Rattle.log_journal.proofs.opening.read_journal.Goals as goal

pub returns-in_err-read_header-clause-refused : goal.returns-in_err-read_header-clause-refused
returns-in_err-read_header-clause-refused g c =
    let p = err_from_is_err_and c.from_residual.result c.from_residual.ensures.1 in
    rw (p.1, p.2) (c.in_err-read_header.ensures.refused c.args.kinds)

pub returns-clause-opened : goal.returns-clause-opened
returns-clause-opened g c told =
    let R = g.D.Disk.reads c.args.disk.now in
    let R' = g.D.Disk.reads c.read_header.new.disk in
    IfOk-weaker c.read_records.result
    (λ r. IsRead c.args.kinds R' (map recorded r.0.items) r.1)
    (λ r. IsJournalOf c.args.kinds (headed c.args.first.now c.args.header.now) (map recorded r.0.items) R)
    (λ r is. subst (λ (h : List ℕ). IsJournalOf c.args.kinds h (map recorded r.0.items) R) (c.in_ok-read_header.ensures.begins told)
    (subst (λ (b : List ℕ). IsJournalOf c.args.kinds (take 72 b) (map recorded r.0.items) b) c.read_header.ensures.only.reads is.journal))
    (c.read_records.ensures.ok told)

pub returns-clause-refused : goal.returns-clause-refused
returns-clause-refused g c =
    IfErr-weaker c.read_records.result _ _
    (λ why. cut_refused c.args.kinds g.D.Disk.tells (headed c.args.first.now c.args.header.now) (g.D.Disk.reads c.args.disk.now)
    (g.D.Disk.reads c.read_header.new.disk) (g.D.Disk.faults c.args.disk.now) (g.D.Disk.faults c.read_header.new.disk)
    (g.D.Disk.faults c.read_records.new.disk) why c.read_header.ensures.only.count c.read_header.ensures.only.reads c.in_ok-read_header.ensures.long
    c.in_ok-read_header.ensures.begins) c.read_records.ensures.refused
