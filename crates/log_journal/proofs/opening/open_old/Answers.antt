use Rattle.std.proofs.Common.{◌≡◌, List, ℕ, length, map, sym, ◌∙◌, ap, rules}
use Rattle.std.proofs.lemmas.List.{length-map}
use Rattle.log_journal.specs.Opening.{header_bytes, old_header, recorded}
use Rattle.log_journal.specs.Walk.{records}
use Rattle.log_journal.proofs.Fronts.{walked}
use Rattle.log_journal.proofs.Refusals.{unrefused, outside_only, none_older}
use Rattle.log_journal.proofs.opening.open_old.Goals as goal

pub at-requires-clause-counted : goal.at-requires-clause-counted
at-requires-clause-counted g c told =
    let all = map recorded c.in-Ok.records.items in
    let R = g.D.Disk.reads c.args.disk in
    let are : records R ≡ all = (walked (old_header (header_bytes c.args.header.now)) all R (c.in-Ok.ensures.opened told).0).are in
    let size : c.len-count.result ≡ length c.in-Ok.records.items = search rules in
    size ∙ sym (length-map c.in-Ok.records.items recorded) ∙ sym (ap length are)
    ∙ sym (ap (λ (b : List ℕ). length (records b)) c.read_synced.ensures.reads)

pub returns-in-Ok-clause-opened : goal.returns-in-Ok-clause-opened
returns-in-Ok-clause-opened g c told = c.in-Ok.ensures.opened told

pub returns-in-Ok-clause-sound : goal.returns-in-Ok-clause-sound
returns-in-Ok-clause-sound g c told why =
    unrefused 4 (old_header (header_bytes c.args.header.now)) (map recorded c.in-Ok.records.items) (g.D.Disk.reads c.args.disk)
    (c.in-Ok.ensures.opened told) why

pub returns-in-Err-clause-refused : goal.returns-in-Err-clause-refused
returns-in-Err-clause-refused g c = c.in-Err.ensures.refused

pub returns-in-Err-clause-good : goal.returns-in-Err-clause-good
returns-in-Err-clause-good g c told all journal =
    outside_only 4 (old_header (header_bytes c.args.header.now)) all (g.D.Disk.reads c.args.disk) journal g.D.Disk.tells
    (g.D.Disk.faults c.args.disk) (g.D.Disk.faults c.read_synced.new.disk) c.in-Err.why told c.in-Err.ensures.refused

pub returns-in-Err-clause-oldest : goal.returns-in-Err-clause-oldest
returns-in-Err-clause-oldest g c =
    none_older g.D.Disk.tells c.args.header.now (g.D.Disk.reads c.args.disk) (g.D.Disk.faults c.args.disk) (g.D.Disk.faults c.read_synced.new.disk)
    c.in-Err.why c.in-Err.ensures.refused
