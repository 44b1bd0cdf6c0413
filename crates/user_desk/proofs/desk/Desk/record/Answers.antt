use Rattle.std.proofs.Common.{◌≡◌, ◌++◌, ◌∷◌, [], List, ℕ, length, take, refl, ap, sym, ◌∙◌, subst, arith, length-append}
use Rattle.std.specs.Prelude.{Option, Some, is_some, ◌⊎◌}
use Rattle.std.proofs.lemmas.List.{take-append-le}
use Rattle.outside.specs.Faults.{Rose}
use Rattle.cqe_base.specs.Formula.{formula_of}
use Rattle.cqe_base.specs.History.{AnsweredQuery, History}
use Rattle.log_journal.specs.Records.{Recorded, KeepsOrAdds}
use Rattle.log_journal.specs.Walk.{records}
use Rattle.log_journal.specs.Opening.{header_bytes}
use Rattle.user_log.specs.Prepared.{prepared_entry}
use Rattle.user_log.specs.UserLogs.{kept_schema, kept_world, kept_user, kept_history}
use Rattle.user_desk.specs.Desks.{entry_in_flight, state_of}
use Rattle.user_desk.specs.Lives.{shown}
use Rattle.user_desk.specs.Standings.{is_sealed, standing_of}
use Rattle.user_desk.specs.Stored.{stored_disk, opened_disk}
use Rattle.user_desk.proofs.Asking.{failure_settles}
use Rattle.user_desk.proofs.Bytes.{as_many}
use Rattle.user_desk.proofs.Recording.{still_holds, record_of_answer, legal_back, sizes_back, IsGrowing, growing, kept_added, kept_flying, moment_holds}
use Rattle.user_desk.proofs.Sizes.{size_added}
use Rattle.user_desk.proofs.Since.{split_moments, since_added, since_flying, some_not_none}
use Rattle.user_desk.proofs.desk.Desk.record.Given.{Over}
use Rattle.user_desk.proofs.desk.Desk.record.Goals as goal
use Rattle.user_desk.proofs.desk.Desk.record.Goals.{After-append}

-- ---- what is appended

abbrev entry : (g : Over) → After-append g → AnsweredQuery
entry g c = record { query = formula_of c.args.query; mark = c.args.mark; length = length c.args.text.now }

abbrev next : (g : Over) → After-append g → Recorded
next g c = (c.kind_of.result, c.as_bytes.result.now)

grows : (g : Over) (c : After-append g)
    → IsGrowing g.D.Disk.tells (λ i. g.D.Disk.image (stored_disk c.args.self.now.store) i) (kept_schema c.args.self.now.log)
    (kept_world c.args.self.now.log) (kept_user c.args.self.now.log) (header_bytes c.args.self.now.header) c.args.self.now.standing
    (kept_history c.args.self.now.log) (entry_in_flight c.args.self.now) (entry g c) (next g c) (g.D.Disk.reads (stored_disk c.reserve.new.self))
grows g c =
    let desk = c.args.self.now in
    let store = c.reserve.new.self in
    let same = c.in-Ok.ensures.same in
    growing _ _ _ _ _ _ _ _ _ _ _ (entry g c) (next g c) (g.D.Disk.reads (stored_disk store)) desk.kept c.requires.opened c.requires.whole
    c.known.ensures.legal c.known.ensures.sizes
    (legal_back _ _ _ _ _ _ (kept_history desk.log) _ (entry g c) _ same.schema same.world same.user c.in-Ok.ensures.unchanged c.in-Ok.ensures.entry
    c.in-Ok.ensures.legal)
    (sizes_back _ _ _ _ (kept_history desk.log) _ (entry g c) _ same.schema same.user c.in-Ok.ensures.unchanged c.in-Ok.ensures.entry c.in-Ok.ensures.sizes)
    (λ told. subst (λ d. g.D.Disk.image d (g.D.Disk.reads (stored_disk store))) c.reserve.ensures.disk
    (g.met.D.Disk.read_is_image (stored_disk store) told))
    (record_of_answer (kept_schema desk.log) c.args.text.now c.as_bytes.result.now (formula_of c.args.query) c.args.mark c.kind_of.result
    c.as_bytes.ensures.value c.kind_of.ensures.back c.requires.answer.read)

-- each image since the opening was one before, or has the record or not
split : (g : Over) (c : After-append g) (told : g.D.Disk.tells) (i : List ℕ)
    → g.D.Disk.image_since (stored_disk c.append.new.self) (g.D.Disk.moment (opened_disk c.append.new.self)) i
    → g.D.Disk.image_since (stored_disk c.args.self.now.store) (g.D.Disk.moment (opened_disk c.args.self.now.store)) i
    ⊎ KeepsOrAdds (g.D.Disk.reads (stored_disk c.reserve.new.self)) (next g c) i
split g c told =
    let desk = c.args.self.now in
    let store = c.reserve.new.self in
    split_moments g.D.Disk.moment g.D.Disk.image_since (opened_disk desk.store) (opened_disk c.append.new.self) (stored_disk desk.store)
    (stored_disk store) (stored_disk c.append.new.self) (λ i. KeepsOrAdds (g.D.Disk.reads (stored_disk store)) (next g c) i)
    c.reserve.ensures.disk (c.append.ensures.opened ∙ c.reserve.ensures.opened) c.known-2.ensures.time.later c.append.ensures.time
    (c.append.ensures.moments told)

-- ---- where there was no room

pub prepare-requires-clause-answer : goal.prepare-requires-clause-answer
prepare-requires-clause-answer g c = (c.args.purpose, c.requires.answer)

pub returns-then-is_err-clause-moments : goal.returns-then-is_err-clause-moments
returns-then-is_err-clause-moments g c told c' here =
    let desk = c.args.self.now in
    still_holds _ _ _ _ _ _ _ _ _ _ _ desk.kept c.known.ensures.legal c.known.ensures.sizes c.args.purpose c.args.text.now
    (ap is_sealed c.requires.opened) c.requires.whole told c'
    (g.met.D.Disk.only_now (stored_disk desk.store) c'
    (subst (λ d. g.D.Disk.image_since d (g.D.Disk.moment (stored_disk desk.store)) c') c.reserve.ensures.disk here))

-- ---- where it was appended

-- the entries are those before, and the one that was added
added : (before mid after : History) (one prepared : AnsweredQuery) → after ≡ mid ++ prepared ∷ [] → mid ≡ before → prepared ≡ one
    → after ≡ before ++ one ∷ []
added before mid after one prepared on same is = on ∙ ap (λ (h : History). h ++ prepared ∷ []) same ∙ ap (λ e. before ++ e ∷ []) is

pub invariant_of-self-in-Ok-append : goal.invariant_of-self-in-Ok-append
invariant_of-self-in-Ok-append g c =
    let desk = c.args.self.now in
    let at = (goal.at.invariant_of-self-in-Ok-append g c).After-append in
    let grow = grows g at in
    let grown = added (kept_history desk.log) _ _ (entry g at) _ c.commit.ensures.added c.in-Ok.ensures.unchanged c.in-Ok.ensures.entry in
    let same = c.in-Ok.ensures.same in
    let again = c.commit.ensures.same in
    record {
      still = λ count none. absurd (omega (arith, count, desk.since.begins, ap length grown, length-append (kept_history desk.log) (entry g at ∷ [])));
      size = λ told whole.
          size_added (kept_schema desk.log) (header_bytes desk.header) (kept_history desk.log) _ (entry g at) (next g at)
          (g.D.Disk.reads (opened_disk desk.store)) _ (g.D.Disk.reads (stored_disk desk.store)) (g.D.Disk.reads (stored_disk c.reserve.new.self))
          (g.D.Disk.reads (stored_disk c.append.new.self)) grow.is (grow.stands told) grown
          (ap (λ d. g.D.Disk.reads d) (c.append.ensures.opened ∙ c.reserve.ensures.opened)) (ap (λ d. g.D.Disk.reads d) c.reserve.ensures.disk)
          (c.in-Ok-append.ensures.added told _ (g.met.D.Disk.read_is_image (stored_disk c.append.new.self) told))
          (desk.size told (ap (λ (o : Option AnsweredQuery). is_some o) c.requires.whole));
      told = λ tells.
          let many = as_many (kept_schema desk.log) (records (g.D.Disk.reads (stored_disk c.reserve.new.self))) (kept_history desk.log)
          (grow.stands tells).are in
          let below = c.in-Ok-append.ensures.told tells in
          let more = ap length grown ∙ length-append (kept_history desk.log) (entry g at ∷ []) in
          omega (arith, many, below, more);
      kept = kept_added grow _ _ _ _ _ _ _ (again.schema ∙ same.schema) (again.world ∙ same.world) (again.user ∙ same.user) grown
          c.append.ensures.journal c.in-Ok-append.ensures.whole c.in-Ok-append.ensures.added;
      since = since_added grow (λ i. g.D.Disk.image_since (stored_disk c.append.new.self) (g.D.Disk.moment (opened_disk c.append.new.self)) i) desk.since
          (split g at) _ _ _ (again.schema ∙ same.schema) grown;
    }

pub returns-in-Ok-append-clause-moments : goal.returns-in-Ok-append-clause-moments
returns-in-Ok-append-clause-moments g c told c' here =
    moment_holds (grows g (goal.at.returns-in-Ok-append-clause-moments g c).After-append) c.args.purpose c.args.text.now (formula_of c.args.query) c.args.mark
    c.requires.answer refl told c' (c.append.ensures.moments told c'
    (subst (λ d. g.D.Disk.image_since (stored_disk c.append.new.self) (g.D.Disk.moment d) c') (sym c.reserve.ensures.disk) here))

pub returns-in-Ok-append-clause-opening : goal.returns-in-Ok-append-clause-opening
returns-in-Ok-append-clause-opening g c =
    let desk = c.args.self.now in
    let one = entry g (goal.at.returns-in-Ok-append-clause-opening g c).After-append in
    let grown = added (kept_history desk.log) _ _ one _ c.commit.ensures.added c.in-Ok.ensures.unchanged c.in-Ok.ensures.entry in
    record {
      count = refl;
      entries = ap (λ (h : History). take desk.opened h) grown ∙ take-append-le desk.opened (kept_history desk.log) (one ∷ []) desk.since.begins;
      disk = c.append.ensures.opened ∙ c.reserve.ensures.opened;
    }

-- ---- where the append failed

pub invariant_of-self-in-Err : goal.invariant_of-self-in-Err
invariant_of-self-in-Err g c =
    let at = (goal.at.invariant_of-self-in-Err g c).After-append in
    let same = c.in-Ok.ensures.same in
    record {
      still = λ count none. absurd (some_not_none none);
      size = λ told whole. absurd cc;
      told = λ tells.
          let was = c.args.self.now.told tells in
          let same = ap length c.in-Ok.ensures.unchanged in
          let disk = ap g.D.Disk.tellable c.reserve.ensures.disk in
          omega (arith, was, same, disk, c.append.ensures.still_told);
      kept = kept_flying (grows g at) _ _ _ _ _ _ _ _ same.schema same.world same.user c.in-Ok.ensures.unchanged
          (c.into_entry.ensures ∙ c.in-Ok.ensures.entry)
          c.append.ensures.journal c.in-Err.ensures.failed c.in-Err.ensures.either;
      since = since_flying (grows g at) (λ i. g.D.Disk.image_since (stored_disk c.append.new.self) (g.D.Disk.moment (opened_disk c.append.new.self)) i)
          c.args.self.now.since (split g at) _ _ _ _ same.schema c.in-Ok.ensures.unchanged (c.into_entry.ensures ∙ c.in-Ok.ensures.entry);
    }

pub returns-in-Err-clause-settled : goal.returns-in-Err-clause-settled
returns-in-Err-clause-settled g c =
    let desk = c.args.self.now in
    let standing = standing_of desk.standing in
    let rose = subst (λ d. Rose (g.D.Disk.faults d) (g.D.Disk.faults (stored_disk c.append.new.self))) c.reserve.ensures.disk c.in-Err.ensures.cause in
    let flies = ap (λ (h : History). shown h standing (Some (prepared_entry c.in-Ok.prepared))) c.in-Ok.ensures.unchanged
    ∙ ap (λ (e : AnsweredQuery). shown (kept_history desk.log) standing (Some e)) c.in-Ok.ensures.entry in
    failure_settles (kept_schema desk.log) (kept_world desk.log) (kept_user desk.log) (state_of desk) _ c.args.purpose c.args.text.now
    (formula_of c.args.query) c.args.mark _ _
    (ap standing_of c.requires.opened) (ap (λ (o : Option AnsweredQuery). is_some o) c.requires.whole) c.requires.answer rose
    (ap (λ (e : AnsweredQuery). shown (kept_history c.prepare.new.self) standing (Some e)) c.into_entry.ensures ∙ flies)

pub returns-in-Err-clause-moments : goal.returns-in-Err-clause-moments
returns-in-Err-clause-moments g c told c' here =
    moment_holds (grows g (goal.at.returns-in-Err-clause-moments g c).After-append) c.args.purpose c.args.text.now (formula_of c.args.query) c.args.mark
    c.requires.answer refl told c' (c.append.ensures.moments told c'
    (subst (λ d. g.D.Disk.image_since (stored_disk c.append.new.self) (g.D.Disk.moment d) c') (sym c.reserve.ensures.disk) here))

pub returns-in-Err-clause-opening : goal.returns-in-Err-clause-opening
returns-in-Err-clause-opening g c = record {
  count = refl;
  entries = ap (λ (h : History). take c.args.self.now.opened h) c.in-Ok.ensures.unchanged;
  disk = c.append.ensures.opened ∙ c.reserve.ensures.opened;
}
