use Rattle.std.proofs.Common.{◌≡◌, ◌≢◌, IfSome, IfNone, slice_index_or, ◌+◌, ◌≤◌, ◌<◌, ◌^◌, ◌∷◌, ◌++◌, [], ℕ, List, length, drop}
use Rattle.std.proofs.Common.{map, refl, sym, ◌∙◌, ap, subst}
use Rattle.std.proofs.Common.{arith, rules}
use Rattle.std.proofs.lemmas.List.{map-append, length-map, take_rest}
use Rattle.std.proofs.lemmas.Result.{err_from_is_err_and}
use Rattle.std.proofs.lemmas.List.Elements.{All-nil, All-cons, All-append, All-same}
use Rattle.log_journal.specs.Opening.{recorded, IsRecord, HasRecord, IsRead}
use Rattle.log_journal.specs.declared.header.Record.{Record}
use Rattle.log_journal.proofs.Reading.{SoFar, at_header}
use Rattle.log_journal.proofs.Windows.{goes_on, is_read, next_fits, cut_at, only_none, only_then}
use Rattle.log_journal.proofs.opening.read_records.Goals as goal

pub loop-init : goal.loop-init
loop-init g c =
    let R = g.D.Disk.reads c.args.disk.now in
    record {
      so_far = λ told. at_header c.args.kinds R (drop 72 R) (map recorded c.new-records.result.items) (c.requires.long told)
          (ap (λ l. map recorded l) c.new-records.ensures.items) (sym (take_rest R 72));
      each = All-same (IsRecord c.args.kinds) c.new-records.result.items [] c.new-records.ensures.items (All-nil (IsRecord c.args.kinds));
      only = only_none R (g.D.Disk.image c.args.disk.now) (g.D.Disk.moment c.args.disk.now) (g.D.Disk.image_since c.args.disk.now)
          (g.D.Disk.faults c.args.disk.now)
          (λ t d le is. g.met.D.Disk.counts_now c.args.disk.now t d le is) (λ d is. g.met.D.Disk.only_now c.args.disk.now d is);
      origin = refl;
      still_told = omega arith;
      heard = λ number one is. is;
    }

pub returns-in_err-record-clause-refused : goal.returns-in_err-record-clause-refused
returns-in_err-record-clause-refused g c =
    let p = err_from_is_err_and c.from_residual.result c.from_residual.ensures.1 in
    let R' = g.D.Disk.reads c.loop.disk in
    let length_is : length c.loop.records.items ≡ c.len.result = search rules in
    let count : c.len.result ≡ length (map recorded c.loop.records.items) = sym (length-map c.loop.records.items recorded ∙ length_is) in
    rw (p.1, p.2) (cut_at c.args.kinds g.D.Disk.tells (g.D.Disk.reads c.args.disk.now) R' (map recorded c.loop.records.items) c.loop.gate c.len.result
    (g.D.Disk.faults c.args.disk.now) (g.D.Disk.faults c.loop.disk) (g.D.Disk.faults c.record_at.new.disk) c.in_err-record.field-0.0
    c.loop.invariant.only.count c.requires.long c.loop.invariant.only.reads c.loop.invariant.so_far count c.in_err-record.ensures.refused)

pub returns-in_default-clause-ok : goal.returns-in_default-clause-ok
returns-in_default-clause-ok g c told =
    let R' = g.D.Disk.reads c.loop.disk in
    let same = c.loop.invariant.only.reads in
    subst (λ (l : List ℕ). IsRead c.args.kinds l (map recorded c.loop.records.items) c.loop.gate) same
    (is_read c.args.kinds R' (map recorded c.loop.records.items) c.loop.gate c.requires.few
    (subst (λ (l : List ℕ). 73 ≤ length l) (sym same) (c.requires.long told)) (subst (λ (l : List ℕ). length l < 2 ^ 64) (sym same) (c.requires.fits told))
    (c.loop.invariant.so_far told)
    (subst (λ o. IfNone o (slice_index_or (drop c.loop.gate R') 0 0 ≢ 1)) c.in_default.is (c.in_ok-record.ensures.closed told)))

pub loop-preserved : goal.loop-preserved
loop-preserved g c =
    let R' = g.D.Disk.reads c.loop.disk in
    let old = c.loop.records.items in
    let added : Record = c.in-Some.record in
    let all' = map recorded c.push.new.self.items in
    let next = c.saturating_add-gate.result in
    let grown = ap (λ l. map recorded l) c.in_ok-push.ensures.items ∙ map-append recorded old (added ∷ []) in
    let is_record = subst (λ o. IfSome o (IsRecord c.args.kinds)) c.in-Some.is c.in_ok-record.ensures.each in
    let text_is : length added.text.items ≡ c.len-in-loop.result = search rules in
    record {
      so_far = λ told.
          let found = subst (λ o. IfSome o (HasRecord c.args.kinds (drop c.loop.gate R'))) c.in-Some.is (c.in_ok-record.ensures.found told) in
          let fits = subst (λ (l : List ℕ). length l < 2 ^ 64) (sym c.loop.invariant.only.reads) (c.requires.fits told) in
          let bound = next_fits c.args.kinds R' c.loop.gate added found fits in
          let place : next ≡ c.loop.gate + (length added.text.items + 4) = omega (arith, text_is, bound, c.saturating_add-gate.ensures) in
          subst (λ (l : List ℕ). SoFar c.args.kinds l all' (drop next l)) (sym c.record_at.ensures.only.reads)
          (goes_on c.args.kinds R' (map recorded old) all' c.loop.gate next added (c.loop.invariant.so_far told) found grown place);
      each = All-same (IsRecord c.args.kinds) c.push.new.self.items (old ++ added ∷ []) c.in_ok-push.ensures.items
          (All-append (IsRecord c.args.kinds) old (added ∷ []) c.loop.invariant.each
          (All-cons (IsRecord c.args.kinds) added [] is_record (All-nil (IsRecord c.args.kinds))));
      only = only_then (g.D.Disk.reads c.args.disk.now) R' (g.D.Disk.reads c.record_at.new.disk)
          (g.D.Disk.image c.args.disk.now) (g.D.Disk.image c.loop.disk) (g.D.Disk.image c.record_at.new.disk)
          (g.D.Disk.moment c.args.disk.now) (g.D.Disk.moment c.loop.disk) (g.D.Disk.moment c.record_at.new.disk)
          (g.D.Disk.image_since c.args.disk.now) (g.D.Disk.image_since c.loop.disk) (g.D.Disk.image_since c.record_at.new.disk)
          (g.D.Disk.faults c.args.disk.now) (g.D.Disk.faults c.loop.disk) (g.D.Disk.faults c.record_at.new.disk)
          c.loop.invariant.only c.record_at.ensures.only;
      origin = c.record_at.ensures.origin ∙ c.loop.invariant.origin;
      still_told = omega (arith, c.loop.invariant.still_told, c.record_at.ensures.still_told);
      heard = λ number one is. c.loop.invariant.heard number one (c.record_at.ensures.heard number one is);
    }
