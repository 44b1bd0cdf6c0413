use Rattle.std.proofs.Common.{◌≡◌, ◌+◌, ◌++◌, ◌∷◌, [], length, take, true, false, Err, refl, sym, ap, subst, ◌∙◌, arith}
use Rattle.std.specs.Result.{OnErr}
use Rattle.outside.proofs.Rises.{rose_since}
use Rattle.log_journal.specs.Journal.{disk_of, is_broken, count_of}
use Rattle.log_journal.proofs.Appends.{reads_journal}
use Rattle.log_journal.specs.Walk.{records}
use Rattle.log_journal.specs.declared.header.AppendError.TheVariants.{DiskFault, Broken}
use Rattle.standby_core.specs.Copies.{copy_in, held_name}
use Rattle.standby_core.specs.Lasting.{Lasts}
use Rattle.standby_core.proofs.Booking.{copy_kept, copy_grown}
use Rattle.standby_core.proofs.Lasting.{taken_all, taken_count, taken_grown, taken_either, lasts_same, lasts_grown, lasts_failed}
use Rattle.standby_core.proofs.book.Held.take.Given.{Over}
use Rattle.standby_core.proofs.book.Held.take.Goals as goal
use Rattle.standby_core.proofs.book.Held.take.Goals.{After-count-count, After-reserve, In-Ok-appended, In-Err-DiskFault}

-- the journal has the records that it counts
whole : (g : Over) (c : After-count-count g) → is_broken c.args.self.now.journal ≡ false
whole g c = sym c.has_failed.ensures ∙ c.if-has_failed.false

counted : (g : Over) (c : After-count-count g) → g.D.Disk.tells
    → c.args.self.now.count ≡ length (records (g.D.Disk.reads (disk_of c.args.self.now.journal)))
counted g c told = c.requires.counted ∙ sym c.count-count.ensures.same ∙ c.count-count.ensures.records told (whole g c)

-- ---- a record that isn't the next

pub returns-then-number-count-clause-taken : goal.returns-then-number-count-clause-taken
returns-then-number-count-clause-taken g c told =
    copy_kept _ _ _ _ _ _ _ (λ is. c.if-number-count.true (cc))
    (taken_count _ _ (counted g (goal.at.returns-then-number-count-clause-taken g c).After-count-count told))

pub returns-then-number-count-clause-count : goal.returns-then-number-count-clause-count
returns-then-number-count-clause-count g c = cc

-- ---- no memory for its room

pub returns-in_default-clause-counted : goal.returns-in_default-clause-counted
returns-in_default-clause-counted g c = cc

pub returns-in_default-clause-next : goal.returns-in_default-clause-next
returns-in_default-clause-next g c = λ is. cc

pub returns-in_default-clause-memory : goal.returns-in_default-clause-memory
returns-in_default-clause-memory g c why = rw (c.reserve.ensures.disk, c.reserve.ensures.broken)

pub returns-in_default-clause-lasts : goal.returns-in_default-clause-lasts
returns-in_default-clause-lasts g c told header opened lasts =
    lasts_same g.D.Disk header opened _ _ _ _ c.reserve.ensures.disk (returns-in_default-clause-memory g c refl) lasts

pub returns-in_default-clause-faults : goal.returns-in_default-clause-faults
returns-in_default-clause-faults g c count counts = record {
  later = rw c.reserve.ensures.disk counts.later;
  rose = λ broke. rw c.reserve.ensures.disk (counts.rose (sym c.reserve.ensures.broken ∙ broke));
}

-- ---- the next record

-- with that room the journal lasts as before
reserved : (g : Over) (c : After-reserve g) (header : _) (opened : _)
    → Lasts g.D.Disk header opened (disk_of c.args.self.now.journal) (copy_in g.D.Disk.reads c.args.self.now)
    → Lasts g.D.Disk header opened (disk_of c.reserve.new.self) (copy_in g.D.Disk.reads c.args.self.now)
reserved g c header opened lasts = lasts_same g.D.Disk header opened _ _ _ _ c.reserve.ensures.disk refl lasts

-- it joins those that the journal had
grown_there : (g : Over) (c : In-Ok-appended g) (told : g.D.Disk.tells)
    → c.args.self.now.count ≡ length (records (g.D.Disk.reads (disk_of c.args.self.now.journal)))
    → take c.count-self.result (records (g.D.Disk.reads (disk_of c.append-appended.new.self)))
    ≡ take c.args.self.now.count (records (g.D.Disk.reads (disk_of c.args.self.now.journal))) ++ (c.args.kind, c.args.text.now) ∷ []
grown_there g c told counts =
    taken_grown c.args.self.now.count c.count-self.result _ _ (c.args.kind, c.args.text.now) counts (cc (c.in-Ok-appended.ensures.next told))
    (cc (c.in-Ok-appended.ensures.grown told))

pub returns-in-Ok-appended-clause-taken : goal.returns-in-Ok-appended-clause-taken
returns-in-Ok-appended-clause-taken g c told =
    let at = goal.at.returns-in-Ok-appended-clause-taken g c in
    let counts = counted g at.After-count-count told in
    copy_grown _ c.args.self.now.count c.args.number (take c.args.self.now.count (records (g.D.Disk.reads (disk_of c.args.self.now.journal))))
    (is_broken c.args.self.now.journal) _ _ _ _ _ (cc) (taken_count _ _ counts) (cc (c.in-Ok-appended.ensures.next told))
    (grown_there g at.In-Ok-appended told counts) (cc (c.in-Ok-appended.ensures.whole))

pub returns-in-Ok-appended-clause-lasts : goal.returns-in-Ok-appended-clause-lasts
returns-in-Ok-appended-clause-lasts g c told header opened lasts =
    let at = goal.at.returns-in-Ok-appended-clause-lasts g c in
    let unbroken = whole g at.After-count-count in
    lasts_grown g.D.Disk header opened (disk_of c.reserve.new.self) (disk_of c.append-appended.new.self) (copy_in g.D.Disk.reads c.args.self.now) _
    (c.args.kind, c.args.text.now) unbroken c.append-appended.ensures.time
    (c.append-appended.ensures.moments told (c.reserve.ensures.broken ∙ unbroken)) (reserved g at.After-reserve header opened lasts)
    c.in-Ok-appended.ensures.whole (grown_there g at.In-Ok-appended told (counted g at.After-count-count told))
    (c.in-Ok-appended.ensures.added told) (c.in-Ok-appended.ensures.kept told)

pub returns-in-Ok-appended-clause-faults : goal.returns-in-Ok-appended-clause-faults
returns-in-Ok-appended-clause-faults g c count counts = record {
  later = omega (arith, counts.later, ap g.D.Disk.faults c.reserve.ensures.disk, c.append-appended.ensures.count);
  rose = λ broke. absurd (cc (c.in-Ok-appended.ensures.whole));
}

-- ---- a fault of the disk

is_fault : (g : Over) (c : In-Err-DiskFault g) → c.append-appended.result ≡ Err DiskFault
is_fault g c = c.in-Err-DiskFault.is ∙ ap Err (rw c.in-Err-DiskFault.is at c.in-Err-DiskFault.field-0-is)

pub returns-in-Err-DiskFault-clause-faults : goal.returns-in-Err-DiskFault-clause-faults
returns-in-Err-DiskFault-clause-faults g c count counts =
    let at = (goal.at.returns-in-Err-DiskFault-clause-faults g c).In-Err-DiskFault in
    let same = ap g.D.Disk.faults c.reserve.ensures.disk in
    record {
      later = omega (arith, counts.later, same, c.append-appended.ensures.count);
      rose = λ broke. rose_since count (g.D.Disk.faults (disk_of c.reserve.new.self)) (g.D.Disk.faults (disk_of c.append-appended.new.self))
          (omega (arith, counts.later, same)) (c.append-appended.ensures.fault (is_fault g at));
    }

pub returns-in-Err-DiskFault-clause-fault : goal.returns-in-Err-DiskFault-clause-fault
returns-in-Err-DiskFault-clause-fault g c = λ fault.
    rw c.reserve.ensures.disk at (c.append-appended.ensures.fault (is_fault g (goal.at.returns-in-Err-DiskFault-clause-fault g c).In-Err-DiskFault))

pub returns-in-Err-DiskFault-clause-next : goal.returns-in-Err-DiskFault-clause-next
returns-in-Err-DiskFault-clause-next g c = λ is. cc

-- the journal has the records that it had, whatever the disk reads behind them, and takes no more
failed_there : (g : Over) (c : In-Err-DiskFault g) → (is_broken c.append-appended.new.self ≡ true) × (c.count-self.result ≡ c.args.self.now.count)
failed_there g c =
    let kept = c.reserve.new.self in
    let new = c.append-appended.new.self in
    let same : count_of new ≡ count_of kept =
    subst (λ r. OnErr r (count_of new ≡ count_of kept)) (is_fault g c) c.append-appended.ensures.same_count in
    (subst (λ r. OnErr r (is_broken new ≡ true)) (is_fault g c) c.append-appended.ensures.broken, cc)

kept_there : (g : Over) (c : In-Err-DiskFault g) → g.D.Disk.tells → is_broken c.args.self.now.journal ≡ false
    → take c.count-self.result (records (g.D.Disk.reads (disk_of c.append-appended.new.self)))
    ≡ take c.args.self.now.count (records (g.D.Disk.reads (disk_of c.args.self.now.journal)))
kept_there g c told unbroken =
    let kept = c.reserve.new.self in
    let new = disk_of c.append-appended.new.self in
    let count = c.args.self.now.count in
    let before = g.D.Disk.reads (disk_of kept) in
    let still : is_broken kept ≡ false = c.reserve.ensures.broken ∙ unbroken in
    let counts : count ≡ length (records before) = c.requires.counted ∙ sym c.reserve.ensures.count ∙ c.append-appended.ensures.number told still in
    ap (λ n. take n (records (g.D.Disk.reads new))) (failed_there g c).1
    ∙ taken_either (take 72 before) (records before) (c.args.kind, c.args.text.now) count (g.D.Disk.reads new) counts
    (c.append-appended.ensures.either told (is_fault g c) (g.D.Disk.reads new) (g.met.D.Disk.read_is_image new told) (take 72 before) (records before)
    (reads_journal before _ (kept.ends still told)))
    ∙ sym (taken_all count (records before) counts) ∙ ap (λ d. take count (records (g.D.Disk.reads d))) c.reserve.ensures.disk

pub returns-in-Err-DiskFault-clause-failed : goal.returns-in-Err-DiskFault-clause-failed
returns-in-Err-DiskFault-clause-failed g c told = λ why.
    let at = goal.at.returns-in-Err-DiskFault-clause-failed g c in
    λ i. record {
      name = held_name c.args.self.now;
      count = (failed_there g at.In-Err-DiskFault).1 i;
      records = kept_there g at.In-Err-DiskFault told (whole g at.After-count-count) i;
      failed = (failed_there g at.In-Err-DiskFault).0 i;
    }

pub returns-in-Err-DiskFault-clause-lasts : goal.returns-in-Err-DiskFault-clause-lasts
returns-in-Err-DiskFault-clause-lasts g c told header opened lasts =
    let at = goal.at.returns-in-Err-DiskFault-clause-lasts g c in
    let unbroken = whole g at.After-count-count in
    lasts_failed g.D.Disk header opened (disk_of c.reserve.new.self) (disk_of c.append-appended.new.self) (copy_in g.D.Disk.reads c.args.self.now) _
    (c.args.kind, c.args.text.now) unbroken c.append-appended.ensures.time
    (c.append-appended.ensures.moments told (c.reserve.ensures.broken ∙ unbroken)) (reserved g at.After-reserve header opened lasts)
    (failed_there g at.In-Err-DiskFault).0 (kept_there g at.In-Err-DiskFault told unbroken)
    (c.append-appended.ensures.either told (is_fault g at.In-Err-DiskFault))

-- ---- never: an earlier append failed

pub returns-in-Err-Broken-clause-broken : goal.returns-in-Err-Broken-clause-broken
returns-in-Err-Broken-clause-broken g c =
    let why = rw c.in-Err-Broken.is at c.in-Err-Broken.field-0-is in
    let is : c.append-appended.result ≡ Err Broken = c.in-Err-Broken.is ∙ ap Err why in
    absurd (cc (c.append-appended.ensures.refused.0 is))
