use Rattle.std.proofs.Common.{◌+◌, ◌<◌, ◌^◌, ◌≡◌, List, ℕ, length, sym, ◌∙◌, ap, subst, arith}
use Rattle.std.proofs.lemmas.Result.{on_ok_weaker}
use Rattle.outside.proofs.Moments.{over_both}
use Rattle.log_journal.specs.Records.{Adds, KeepsOrAdds}
use Rattle.log_journal.specs.Walk.{records}
use Rattle.log_journal.specs.Bytes.{EndsAt}
use Rattle.log_journal.proofs.Counts.{few_records, grown, one_more_record, added_numbered}
use Rattle.log_journal.proofs.Hearing.{there_put, there_told}
use Rattle.log_journal.proofs.journal.put_told.Goals as goal

pub tell_record-requires-clause-there : goal.tell_record-requires-clause-there
tell_record-requires-clause-there g c told =
    added_numbered (g.D.Disk.reads c.args.disk.now) c.args.gate (c.requires.ends told) (c.args.kind, c.args.text.now)
    (g.D.Disk.reads c.put_record.new.disk) (c.in_ok-put_record.ensures.added told) c.args.number (c.requires.counted told)

pub returns-clause-added : goal.returns-clause-added
returns-clause-added g c told =
    on_ok_weaker c.tell_record.result
    (λ may. subst (λ b. Adds (g.D.Disk.reads c.args.disk.now) (c.args.kind, c.args.text.now) b) (sym c.tell_record.ensures.only.reads)
    (c.in_ok-put_record.ensures.added told))
    c.tell_record.ensures.may_be_told

pub returns-clause-ends : goal.returns-clause-ends
returns-clause-ends g c told =
    on_ok_weaker c.tell_record.result
    (λ may. subst (λ b. EndsAt b (c.args.gate + 4 + length c.args.text.now)) (sym c.tell_record.ensures.only.reads) (c.in_ok-put_record.ensures.ends told))
    c.tell_record.ensures.may_be_told

pub returns-clause-durable : goal.returns-clause-durable
returns-clause-durable g c =
    on_ok_weaker c.tell_record.result
    (λ may d is. c.in_ok-put_record.ensures.durable d (c.tell_record.ensures.only.images d is) ∙ sym c.tell_record.ensures.only.reads)
    c.tell_record.ensures.may_be_told

pub returns-clause-images : goal.returns-clause-images
returns-clause-images g c told d is = c.in_ok-put_record.ensures.images told d (c.tell_record.ensures.only.images d is)

pub returns-clause-moments : goal.returns-clause-moments
returns-clause-moments g c told =
    over_both (g.D.Disk.moment c.args.disk.now) (g.D.Disk.moment c.put_record.new.disk) (g.D.Disk.moment c.tell_record.new.disk)
    (g.D.Disk.image_since c.put_record.new.disk) (g.D.Disk.image_since c.tell_record.new.disk)
    (KeepsOrAdds (g.D.Disk.reads c.args.disk.now) (c.args.kind, c.args.text.now))
    c.in_ok-put_record.ensures.time.later c.tell_record.ensures.only.time
    (c.in_ok-put_record.ensures.moments told)
    (λ d is. c.in_ok-put_record.ensures.images told d (c.tell_record.ensures.only.moments d is))

pub returns-clause-next : goal.returns-clause-next
returns-clause-next g c told =
    let R = g.D.Disk.reads c.args.disk.now in
    let more : length (records (g.D.Disk.reads c.put_record.new.disk)) ≡ length (records R) + 1 =
    one_more_record R c.args.gate (c.requires.ends told) (c.args.kind, c.args.text.now) (g.D.Disk.reads c.put_record.new.disk)
    (c.in_ok-put_record.ensures.added told) in
    on_ok_weaker c.tell_record.result
    (λ may. ap (λ (b : List ℕ). length (records b)) c.tell_record.ensures.only.reads ∙ more ∙ ap (λ (n : ℕ). n + 1) (sym (c.requires.counted told)))
    c.tell_record.ensures.may_be_told

pub returns-clause-grown : goal.returns-clause-grown
returns-clause-grown g c told =
    on_ok_weaker c.tell_record.result
    (λ may. ap records c.tell_record.ensures.only.reads
    ∙ grown (g.D.Disk.reads c.args.disk.now) c.args.gate (c.requires.ends told) (c.args.kind, c.args.text.now) (g.D.Disk.reads c.put_record.new.disk)
    (c.in_ok-put_record.ensures.added told))
    c.tell_record.ensures.may_be_told

pub returns-clause-fits : goal.returns-clause-fits
returns-clause-fits g c told =
    let R = g.D.Disk.reads c.args.disk.now in
    let R' = g.D.Disk.reads c.put_record.new.disk in
    let more : length (records R') ≡ length (records R) + 1 =
    one_more_record R c.args.gate (c.requires.ends told) (c.args.kind, c.args.text.now) R' (c.in_ok-put_record.ensures.added told) in
    let few : length (records R') + 2 < 2 ^ 64 = few_records R' (c.args.gate + 4 + length c.args.text.now) (c.in_ok-put_record.ensures.ends told) in
    on_ok_weaker c.tell_record.result (λ may. omega (arith, more, few, c.requires.counted told)) c.tell_record.ensures.may_be_told

pub returns-in_err-put_record-clause-heard : goal.returns-in_err-put_record-clause-heard
returns-in_err-put_record-clause-heard g c told there =
    there_put (g.D.Disk.reads c.args.disk.now) c.args.gate (c.requires.ends told) (c.args.kind, c.args.text.now) (g.D.Disk.reads c.put_record.new.disk)
    (c.put_record.ensures.images told (g.D.Disk.reads c.put_record.new.disk) (g.met.D.Disk.read_is_image c.put_record.new.disk told))
    (g.D.Disk.heard c.args.disk.now) (g.D.Disk.heard c.put_record.new.disk) c.put_record.ensures.heard there

pub returns-clause-heard : goal.returns-clause-heard
returns-clause-heard g c told there =
    there_told (g.D.Disk.heard c.put_record.new.disk) (g.D.Disk.heard c.tell_record.new.disk) (g.D.Disk.reads c.put_record.new.disk)
    (g.D.Disk.reads c.tell_record.new.disk) c.tell_record.ensures.only.reads
    (there_put (g.D.Disk.reads c.args.disk.now) c.args.gate (c.requires.ends told) (c.args.kind, c.args.text.now) (g.D.Disk.reads c.put_record.new.disk)
    (c.put_record.ensures.images told (g.D.Disk.reads c.put_record.new.disk) (g.met.D.Disk.read_is_image c.put_record.new.disk told))
    (g.D.Disk.heard c.args.disk.now) (g.D.Disk.heard c.put_record.new.disk) c.put_record.ensures.heard there)
    c.args.number (c.args.kind, c.args.text.now) c.tell_record.ensures.heard
    (added_numbered (g.D.Disk.reads c.args.disk.now) c.args.gate (c.requires.ends told) (c.args.kind, c.args.text.now)
    (g.D.Disk.reads c.put_record.new.disk) (c.in_ok-put_record.ensures.added told) c.args.number (c.requires.counted told))
