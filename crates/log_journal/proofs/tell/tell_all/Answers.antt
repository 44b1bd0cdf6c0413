use Rattle.std.proofs.Common.{◌≤◌, List, ℕ, length, refl, sym, subst, ◌∙◌, ap, arith}
use Rattle.log_journal.specs.Walk.{records, IsNumbered}
use Rattle.log_journal.proofs.Counts.{numbered, record_there}
use Rattle.log_journal.proofs.Hearing.{there_told}
use Rattle.log_journal.proofs.Windows.{only_none, only_then}
use Rattle.log_journal.proofs.tell.tell_all.Goals as goal

pub loop-number-init : goal.loop-number-init
loop-number-init g c = record {
  told = omega arith;
  still_told = omega arith;
  heard = λ told there. there;
  only = only_none (g.D.Disk.reads c.args.disk.now) (g.D.Disk.image c.args.disk.now) (g.D.Disk.moment c.args.disk.now)
      (g.D.Disk.image_since c.args.disk.now) (g.D.Disk.faults c.args.disk.now)
      (λ t d le is. g.met.D.Disk.counts_now c.args.disk.now t d le is) (λ d is. g.met.D.Disk.only_now c.args.disk.now d is);
  origin = refl;
}

pub tell_record-requires-clause-there : goal.tell_record-requires-clause-there
tell_record-requires-clause-there g c told =
    subst (λ (t : List ℕ). IsNumbered (g.D.Disk.reads c.loop-number.disk) c.loop-number.number (c.index-all-number.result.kind, t))
    (sym c.deref.ensures.value) (numbered (g.D.Disk.reads c.loop-number.disk) c.args.all.now c.loop-number.number c.index-all-number.result
    (ap records c.loop-number.invariant.only.reads ∙ c.requires.there told) c.index-all-number.is c.loop-number-test.true)

pub tell_record-requires-clause-durable : goal.tell_record-requires-clause-durable
tell_record-requires-clause-durable g c d is =
    c.requires.durable d (c.loop-number.invariant.only.images d is) ∙ sym c.loop-number.invariant.only.reads

pub tell_record-requires-clause-low : goal.tell_record-requires-clause-low
tell_record-requires-clause-low g c =
    (record_there c.args.all.now c.loop-number.number c.index-all-number.result c.requires.each c.index-all-number.is c.loop-number-test.true).kind_from

pub tell_record-requires-clause-high : goal.tell_record-requires-clause-high
tell_record-requires-clause-high g c =
    let is = record_there c.args.all.now c.loop-number.number c.index-all-number.result c.requires.each c.index-all-number.is c.loop-number-test.true in
    omega (arith, is.kind_to)

pub tell_record-requires-clause-short : goal.tell_record-requires-clause-short
tell_record-requires-clause-short g c =
    subst (λ (t : List ℕ). length t ≤ 4096) (sym c.deref.ensures.value)
    (record_there c.args.all.now c.loop-number.number c.index-all-number.result c.requires.each c.index-all-number.is c.loop-number-test.true).short

pub loop-number-preserved : goal.loop-number-preserved
loop-number-preserved g c = record {
  told = omega (arith, c.in_ok-tell_record.ensures.may_be_told);
  still_told = omega (arith, c.loop-number.invariant.still_told, c.tell_record.ensures.tellable);
  heard = λ told there.
      there_told (g.D.Disk.heard c.loop-number.disk) (g.D.Disk.heard c.tell_record.new.disk) (g.D.Disk.reads c.loop-number.disk)
      (g.D.Disk.reads c.tell_record.new.disk) c.tell_record.ensures.only.reads (c.loop-number.invariant.heard told there) c.loop-number.number
      (c.index-all-number.result.kind, c.deref.result.now) c.tell_record.ensures.heard
      (subst (λ (t : List ℕ). IsNumbered (g.D.Disk.reads c.loop-number.disk) c.loop-number.number (c.index-all-number.result.kind, t))
      (sym c.deref.ensures.value) (numbered (g.D.Disk.reads c.loop-number.disk) c.args.all.now c.loop-number.number c.index-all-number.result
      (ap records c.loop-number.invariant.only.reads ∙ c.requires.there told) c.index-all-number.is c.loop-number-test.true));
  only = only_then (g.D.Disk.reads c.args.disk.now) (g.D.Disk.reads c.loop-number.disk) (g.D.Disk.reads c.tell_record.new.disk)
      (g.D.Disk.image c.args.disk.now) (g.D.Disk.image c.loop-number.disk) (g.D.Disk.image c.tell_record.new.disk)
      (g.D.Disk.moment c.args.disk.now) (g.D.Disk.moment c.loop-number.disk) (g.D.Disk.moment c.tell_record.new.disk)
      (g.D.Disk.image_since c.args.disk.now) (g.D.Disk.image_since c.loop-number.disk) (g.D.Disk.image_since c.tell_record.new.disk)
      (g.D.Disk.faults c.args.disk.now) (g.D.Disk.faults c.loop-number.disk) (g.D.Disk.faults c.tell_record.new.disk)
      c.loop-number.invariant.only c.tell_record.ensures.only;
  origin = c.tell_record.ensures.origin ∙ c.loop-number.invariant.origin;
}

pub returns-in_err-tell_record-clause-only : goal.returns-in_err-tell_record-clause-only
returns-in_err-tell_record-clause-only g c =
    only_then (g.D.Disk.reads c.args.disk.now) (g.D.Disk.reads c.loop-number.disk) (g.D.Disk.reads c.tell_record.new.disk)
    (g.D.Disk.image c.args.disk.now) (g.D.Disk.image c.loop-number.disk) (g.D.Disk.image c.tell_record.new.disk)
    (g.D.Disk.moment c.args.disk.now) (g.D.Disk.moment c.loop-number.disk) (g.D.Disk.moment c.tell_record.new.disk)
    (g.D.Disk.image_since c.args.disk.now) (g.D.Disk.image_since c.loop-number.disk) (g.D.Disk.image_since c.tell_record.new.disk)
    (g.D.Disk.faults c.args.disk.now) (g.D.Disk.faults c.loop-number.disk) (g.D.Disk.faults c.tell_record.new.disk)
    c.loop-number.invariant.only c.tell_record.ensures.only

pub returns-in_err-tell_record-clause-heard : goal.returns-in_err-tell_record-clause-heard
returns-in_err-tell_record-clause-heard g c told there =
    there_told (g.D.Disk.heard c.loop-number.disk) (g.D.Disk.heard c.tell_record.new.disk) (g.D.Disk.reads c.loop-number.disk)
    (g.D.Disk.reads c.tell_record.new.disk) c.tell_record.ensures.only.reads (c.loop-number.invariant.heard told there) c.loop-number.number
    (c.index-all-number.result.kind, c.deref.result.now) c.tell_record.ensures.heard
    (subst (λ (t : List ℕ). IsNumbered (g.D.Disk.reads c.loop-number.disk) c.loop-number.number (c.index-all-number.result.kind, t))
    (sym c.deref.ensures.value) (numbered (g.D.Disk.reads c.loop-number.disk) c.args.all.now c.loop-number.number c.index-all-number.result
    (ap records c.loop-number.invariant.only.reads ∙ c.requires.there told) c.index-all-number.is c.loop-number-test.true))
