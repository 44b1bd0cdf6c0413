use Rattle.std.proofs.Common.{◌∙◌, ◌++◌, List, ap, map, refl, sym, append-nil, arith}
use Rattle.std.proofs.lemmas.Bool.{false≢true}
use Rattle.std.proofs.lemmas.List.{take_all}
use Rattle.outside.proofs.Rises.{rose_wide}
use Rattle.log_journal.specs.Opening.{recorded}
use Rattle.log_journal.specs.Records.{written}
use Rattle.log_journal.specs.declared.header.Record.{Record}
use Rattle.migrate_engine.proofs.Making.{records_more, shut_none, shut_then}
use Rattle.migrate_engine.proofs.target.write_records.Goals as goal

pub loop-next-init : goal.loop-next-init
loop-next-init g c = record {
  more = λ told. sym (append-nil (g.D.Disk.reads c.args.disk.now));
  end = c.requires.end;
  behind = c.requires.behind;
  shut = λ told. shut_none g.D.Disk g.met.D.Disk.counts_now g.met.D.Disk.only_now c.args.disk.now (c.requires.shut told);
  origin = refl;
  count = omega arith;
}

pub write_record-requires-clause-shut : goal.write_record-requires-clause-shut
write_record-requires-clause-shut g c = λ told. (c.loop-next.invariant.shut told).images

pub loop-next-preserved : goal.loop-next-preserved
loop-next-preserved g c =
    let disk = g.D.Disk in
    let so_far = c.loop-next.invariant in
    let one = c.in_ok-end.ensures in
    record {
      more = λ told. records_more (disk.reads c.args.disk.now) (disk.reads c.loop-next.disk) (disk.reads c.write_record.new.disk) c.args.records.now
          c.loop-next.next-index c.next-item.result c.loop-next-test.true c.next-item.is (so_far.more told) (one.more told);
      end = one.end;
      behind = one.behind;
      shut = λ told. shut_then disk c.args.disk.now c.loop-next.disk c.write_record.new.disk (so_far.shut told) (c.write_record.ensures.shut told);
      origin = c.write_record.ensures.origin ∙ so_far.origin;
      count = omega (arith, so_far.count, c.write_record.ensures.cause.later);
    }

pub returns-in_err-end-clause-shut : goal.returns-in_err-end-clause-shut
returns-in_err-end-clause-shut g c = λ told.
    shut_then g.D.Disk c.args.disk.now c.loop-next.disk c.write_record.new.disk (c.loop-next.invariant.shut told) (c.write_record.ensures.shut told)

pub returns-clause-more : goal.returns-clause-more
returns-clause-more g c = λ told.
    c.loop-next.invariant.more told
    ∙ ap (λ (l : List Record). g.D.Disk.reads c.args.disk.now ++ written (map recorded l))
    (take_all c.loop-next.next-index c.args.records.now (omega (arith, c.loop-next-test.false)))

pub returns-in_err-end-clause-cause : goal.returns-in_err-end-clause-cause
returns-in_err-end-clause-cause g c =
    let faults = g.D.Disk.faults in
    let one = c.in_err-end.ensures.cause in
    record {
      later = omega (arith, c.loop-next.invariant.count, one.later);
      failed = λ is. rose_wide (faults c.args.disk.now) (faults c.loop-next.disk) (faults c.write_record.new.disk) (faults c.write_record.new.disk)
          c.loop-next.invariant.count (omega arith) (one.failed refl);
    }

pub returns-clause-cause : goal.returns-clause-cause
returns-clause-cause g c = record { later = c.loop-next.invariant.count; failed = λ is. absurd (false≢true is) }
