use Rattle.std.proofs.Common.{◌≡◌, List, ℕ, length, map, sym, ◌∙◌, ap}
use Rattle.std.proofs.lemmas.List.{length-map}
use Rattle.log_journal.specs.Opening.{header_bytes, recorded}
use Rattle.log_journal.specs.Walk.{records}
use Rattle.log_journal.specs.declared.header.Record.{Record}
use Rattle.log_journal.proofs.Fronts.{walked}
use Rattle.log_journal.proofs.Hearing.{there_still}
use Rattle.log_journal.proofs.opening.read_told.Goals as goal

pub tell_all-requires-clause-there : goal.tell_all-requires-clause-there
tell_all-requires-clause-there g c told =
    let all = map recorded c.in_ok-read.read.0.items in
    ap records c.in_ok-read.ensures.reads
    ∙ (walked (header_bytes c.args.header.now) all (g.D.Disk.reads c.args.disk.now) (c.in_ok-read.ensures.opened told).0).are
    ∙ ap (λ (of : List Record). map recorded of) (sym c.deref.ensures.value)

pub returns-clause-counted : goal.returns-clause-counted
returns-clause-counted g c told =
    let all = map recorded c.in_ok-read.read.0.items in
    let are : records (g.D.Disk.reads c.args.disk.now) ≡ all =
    (walked (header_bytes c.args.header.now) all (g.D.Disk.reads c.args.disk.now) (c.in_ok-read.ensures.opened told).0).are in
    sym (ap (λ (b : List ℕ). length (records b)) (c.tell_all.ensures.only.reads ∙ c.in_ok-read.ensures.reads) ∙ ap length are
    ∙ length-map c.in_ok-read.read.0.items recorded)

pub returns-clause-heard : goal.returns-clause-heard
returns-clause-heard g c told there =
    c.tell_all.ensures.heard told
    (there_still (g.D.Disk.heard c.args.disk.now) (g.D.Disk.heard c.read_synced.new.disk) (g.D.Disk.reads c.args.disk.now)
    (g.D.Disk.reads c.read_synced.new.disk) c.read_synced.ensures.reads there c.read_synced.ensures.heard)

pub returns-in_err-read-clause-heard : goal.returns-in_err-read-clause-heard
returns-in_err-read-clause-heard g c told there =
    there_still (g.D.Disk.heard c.args.disk.now) (g.D.Disk.heard c.read_synced.new.disk) (g.D.Disk.reads c.args.disk.now)
    (g.D.Disk.reads c.read_synced.new.disk) c.read_synced.ensures.reads there c.read_synced.ensures.heard

pub returns-in_err-tell_all-clause-heard : goal.returns-in_err-tell_all-clause-heard
returns-in_err-tell_all-clause-heard g c told there =
    c.tell_all.ensures.heard told
    (there_still (g.D.Disk.heard c.args.disk.now) (g.D.Disk.heard c.read_synced.new.disk) (g.D.Disk.reads c.args.disk.now)
    (g.D.Disk.reads c.read_synced.new.disk) c.read_synced.ensures.reads there c.read_synced.ensures.heard)
