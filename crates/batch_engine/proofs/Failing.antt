-- A line that says that an append failed: the count of a disk rises by the end of the batch.
use Rattle.std.proofs.Common.{◌≡◌, ◌⊎◌, inl, inr, ℕ, ◌≤◌, Bool, true, false, List, [], ◌∷◌, length, refl, sym, ap, subst, ◌∙◌, arith}
use Rattle.std.specs.Prelude.{Option, Some, None, Result, Ok, Err, ◌||◌}
use Rattle.outside.proofs.Rises.{rose_wide}
use Rattle.outside.specs.Faults.{Rose}
use Rattle.outside.specs.declared.disk.Disk.{Ghosts as DiskGhosts}
use Rattle.outside.specs.Shelf.{SomeRose}
use Rattle.cqe_base.specs.declared.user.Purpose.{Purpose}
use Rattle.cqe_base.specs.declared.user.Purpose.TheVariants.{Asking, Protecting}
use Rattle.cqe_base.specs.Schema.{Text, DatabaseSchema}
use Rattle.cqe_base.specs.Facts.{FactSet}
use Rattle.cqe_base.specs.Formula.{Formula}
use Rattle.cqe_base.specs.Reading.{Refusal, reading}
use Rattle.cqe_base.specs.History.{UserProfile, AnsweredQuery, History, profile_of}
use Rattle.cqe_base.specs.Censor.{mark_after, safe_after}
use Rattle.cqe_base.specs.declared.user.Mark.{Mark}
use Rattle.cqe_base.specs.Run
use Rattle.cqe_base.specs.Run.{Reply, desk_sealed, no_memory, standing_open, standing_closed, standing_sealed, Ending, want}
use Rattle.cqe_base.specs.Run.{kept, failed, call, UserState, reply_by, is_full, is_too_large, reply_at, entry_at, entry_added, reply_to_call, reply_at_failure}
use Rattle.cqe_base.specs.Run.{after_event, after_failure, is_too_large_secret, has_all_secrets, answer_by, protection_by}
use Rattle.cqe_base.specs.Transcript.{purpose_of}
use Rattle.user_desk.specs.Lives.{IsState}
use Rattle.user_desk.specs.Standings.{is_sealed}
use Rattle.user_desk.specs.declared.standing.Standing.{Standing}
use Rattle.user_desk.specs.declared.standing.Standing.TheVariants.{Open, Closed, Sealed}
use Rattle.desk_counter.specs.declared.item.Fixed.{Fixed}
use Rattle.desk_counter.specs.Lives.{IsCallOf}
use Rattle.desk_crew.specs.Crew.{seat_user, seat_journal, seat_disk, seat_standing, seat_state, seat_broke, IsToldAt, IsReopened, AreReopened, Tells}
use Rattle.desk_crew.specs.Crew.{nobody, here, further}
use Rattle.desk_crew.specs.Shelved.{AreLater, AreBack}
use Rattle.desk_crew.specs.Seats.{DeskSeat}
use Rattle.desk_crew.proofs.Rising.{AtSome, HasFailed, some_weaker, some_rose}
use Rattle.batch_engine.specs.BatchLines.{BatchItem, asked, restarted}
use Rattle.batch_engine.specs.Answers.{is_broken_reply}
use Rattle.batch_engine.specs.Steps.{Carries, Runs, nothing, more, RunsAll}
use Rattle.batch_engine.proofs.Running.{stay_run}

-- no answer to a query says so, and none to a secret
answer_whole : (full large : Bool) (mark : Mark) → is_broken_reply (Some (answer_by full large mark)) ≡ true → false ≡ true
answer_whole true large mark is = is
answer_whole false true mark is = is
answer_whole false false mark is = is

protection_whole : (full large most safe : Bool) → is_broken_reply (Some (protection_by full large most safe)) ≡ true → false ≡ true
protection_whole true large most safe is = is
protection_whole false true most safe is = is
protection_whole false false true safe is = is
protection_whole false false false true is = is
protection_whole false false false false is = is

module _ (schema : DatabaseSchema) (world : FactSet) (user : UserProfile) where
  -- no rule gives the reply but where an append failed
  broken_by : (entries : History) (standing : Run.Standing) (broken : Bool) (purpose : Purpose) (text : Text) (read : Result Formula Refusal)
      → is_broken_reply (Some (reply_by schema world user entries standing broken purpose text read)) ≡ true → broken ≡ true
  broken_by entries standing_sealed broken purpose text read is = let clash : false ≡ true = is in absurd cc
  broken_by entries standing_closed broken purpose text read is = let clash : false ≡ true = is in absurd cc
  broken_by entries standing_open true purpose text read is = refl
  broken_by entries standing_open false purpose text (Err refusal) is = is
  broken_by entries standing_open false Asking text (Ok query) is =
      answer_whole (is_full entries (length text)) (is_too_large schema user entries query) (mark_after schema world user entries query) is
  broken_by entries standing_open false Protecting text (Ok secret) is =
      protection_whole (is_full entries (length text)) (is_too_large_secret schema user entries secret) (has_all_secrets user entries)
      (safe_after schema user entries secret) is

  -- a desk whose journal was refused doesn't say so
  sealed_by : (text : Text) (read : Result Formula Refusal)
      → is_broken_reply (Some (reply_at_failure schema world user desk_sealed (entry_added text read desk_sealed))) ≡ false
  sealed_by text (Ok query) = refl
  sealed_by text (Err refusal) = refl

  sealed_says : (state : UserState) (purpose : Purpose) (text : Text) (ending : Ending) → is_broken_reply (Some (reply_to_call schema world user (record state {
    standing =
        standing_sealed;
  }) purpose text ending)) ≡ false
  sealed_says state purpose text want = refl
  sealed_says state purpose text kept = refl
  sealed_says state purpose text failed = sealed_by text (reading schema text)

  module _ (standing : Standing) (old new : UserState) (purpose : Purpose) (text : Text) (told : Reply)
      (settles : (state : UserState) → IsState standing old state
      → IsCallOf schema world user (IsState standing new) state purpose text told) where
    sealed_asked : is_sealed standing ≡ true → is_broken_reply (Some told) ≡ false
    sealed_asked sealed =
        let one = settles (record old { standing = standing_sealed }) (in_sealed standing sealed) in
        ap (λ r. is_broken_reply (Some r)) one.reply ∙ sealed_says old purpose text one.ending
      where
        in_sealed : (s : Standing) → is_sealed s ≡ true → IsState s old (record old { standing = standing_sealed })
        in_sealed Open is = absurd cc
        in_sealed (Closed admission) is = absurd cc
        in_sealed (Sealed why) is = refl

    -- where an append had failed, or the reply says so, one has
    broken_asked : is_sealed standing ≡ false → (old.broken ≡ true) ⊎ (is_broken_reply (Some told) ≡ true) → new.broken ≡ true
    broken_asked served why =
        let one = settles old (itself standing served) in
        by one.ending (shown_is standing new (after_event schema world user old (call purpose text one.ending)) served one.after) one.reply
      where
        itself : (s : Standing) → is_sealed s ≡ false → IsState s old old
        itself Open is = refl
        itself (Closed admission) is = refl
        itself (Sealed reason) is = absurd cc

        shown_is : (s : Standing) (desk_state state : UserState) → is_sealed s ≡ false → IsState s desk_state state → state ≡ desk_state
        shown_is Open desk_state state is same = same
        shown_is (Closed admission) desk_state state is same = same
        shown_is (Sealed reason) desk_state state is same = absurd cc

        was : told ≡ reply_at schema world user old purpose text → old.broken ≡ true
        was reply = of why
          where
            of : (old.broken ≡ true) ⊎ (is_broken_reply (Some told) ≡ true) → old.broken ≡ true
            of (inl broken) = broken
            of (inr said) =
                broken_by old.entries old.standing old.broken purpose text (reading schema text) (ap (λ r. is_broken_reply (Some r)) (sym reply) ∙ said)

        wanted : told ≡ no_memory → (old.broken ≡ true) ⊎ (is_broken_reply (Some told) ≡ true) → old.broken ≡ true
        wanted reply (inl broken) = broken
        wanted reply (inr said) = let clash : false ≡ true = ap (λ r. is_broken_reply (Some r)) (sym reply) ∙ said in absurd cc

        by_entry : (entry : Option AnsweredQuery) → after_failure schema world user old entry ≡ new
            → told ≡ reply_at_failure schema world user (reply_at schema world user old purpose text) entry → new.broken ≡ true
        by_entry (Some entry) after reply = ap (λ (s : UserState). s.broken) (sym after)
        by_entry None after reply = ap (λ (s : UserState). s.broken) (sym after) ∙ was reply

        by : (ending : Ending) → after_event schema world user old (call purpose text ending) ≡ new
            → told ≡ reply_to_call schema world user old purpose text ending
            → new.broken ≡ true
        by want after reply = ap (λ (s : UserState). s.broken) (sym after) ∙ wanted reply why
        by kept after reply = ap (λ (s : UserState). s.broken) (sym after) ∙ was reply
        by failed after reply = by_entry (entry_at schema world user old purpose text) after reply

module _ (schema : DatabaseSchema) (world : FactSet) (header : List ℕ) {D : Type 0} {g h : _} (Disk : DiskGhosts D) (count : Text → ℕ) where
  -- an append failed at a desk whose journal wasn't refused, or the count of its disk had risen as it was opened
  abbrev pub HasBroken : DeskSeat D g h → Type 0
  HasBroken seat = ((is_sealed (seat_standing seat) ≡ false) × (seat_broke seat ≡ true)) ⊎ Rose (count (seat_journal seat)) (Disk.faults (seat_disk seat))

  -- an ask leaves it so, and one that says so makes it so
  seat_told : (old new : DeskSeat D g h) (purpose : Purpose) (text : Text) (reply : Reply) → IsToldAt schema world purpose text reply old new → HasBroken old
      ⊎ (is_broken_reply (Some reply) ≡ true) → HasBroken new
  seat_told old new purpose text reply answer = by (is_sealed (seat_standing old)) refl
    where
      settles : (state : UserState) → IsState (seat_standing old) (seat_state old) state
          → IsCallOf schema world (profile_of (seat_user old)) (IsState (seat_standing old) (seat_state new)) state purpose text reply
      settles state is =
          subst (λ (f : Fixed D). IsCallOf schema world (profile_of (seat_user old)) (IsState f.standing
          (seat_state new)) state purpose text reply) answer.kept_is
          (answer.settled state is)

      served_still : is_sealed (seat_standing old) ≡ false → is_sealed (seat_standing new) ≡ false
      served_still served = ap (λ (f : Fixed D). is_sealed f.standing) answer.kept_is ∙ served

      broke : is_sealed (seat_standing old) ≡ false → (seat_broke old ≡ true) ⊎ (is_broken_reply (Some reply) ≡ true) → HasBroken new
      broke served why =
          inl (
            served_still served,
            broken_asked schema world (profile_of (seat_user old)) (seat_standing old) (seat_state old) (seat_state new) purpose text reply settles served why,
          )

      rose : Rose (count (seat_journal old)) (Disk.faults (seat_disk old)) → HasBroken new
      rose is = inr (subst (λ n. Rose (count n) (Disk.faults (seat_disk new))) (sym answer.journal_is)
          (subst (λ (f : Fixed D). Rose (count (seat_journal old)) (Disk.faults f.disk)) (sym answer.kept_is) is))

      by : (b : Bool) → is_sealed (seat_standing old) ≡ b → HasBroken old ⊎ (is_broken_reply (Some reply) ≡ true) → HasBroken new
      by false served (inl (inl has)) = broke served (inl has.1)
      by false served (inr said) = broke served (inr said)
      by false served (inl (inr is)) = rose is
      by true sealed (inl (inl has)) = let clash : true ≡ false = sym sealed ∙ has.0 in absurd cc
      by true sealed (inl (inr is)) = rose is
      by true sealed (inr said) =
          let clash : false ≡ true =
          sym (sealed_asked schema world (profile_of (seat_user old)) (seat_standing old) (seat_state old) (seat_state new) purpose text reply settles sealed)
          ∙ said in absurd cc

  all_told : (name : Text) (purpose : Purpose) (text : Text) (old new : List (DeskSeat D g h)) (reply : Option Reply)
      → Tells schema world name purpose text old new reply → AtSome HasBroken old
      ⊎ (is_broken_reply reply ≡ true) → AtSome HasBroken new
  all_told name purpose text old new reply nobody (inl none) = absurd none
  all_told name purpose text old new reply nobody (inr said) = let clash : false ≡ true = said in absurd cc
  all_told name purpose text old new reply (here {old =
      first} {new = next} {told_reply} is answer) (inl (inl has)) = inl (seat_told first next purpose text told_reply answer (inl has))
  all_told name purpose text old new reply (here is answer) (inl (inr others)) = inr others
  all_told name purpose text old new reply (here {old =
      first} {new = next} {told_reply} is answer) (inr said) = inl (seat_told first next purpose text told_reply answer (inr said))
  all_told name purpose text old new reply (further other rest) (inl (inl has)) = inl has
  all_told name purpose text old new reply (further {others} {after} {told_reply} other rest) (inl (inr deep)) =
      inr (all_told name purpose text others after told_reply rest (inl deep))
  all_told name purpose text old new reply (further {others} {after} {told_reply} other rest) (inr said) =
      inr (all_told name purpose text others after told_reply rest (inr said))

  -- a restart leaves it so
  seat_reopened : (old new : DeskSeat D g h) → IsReopened schema world header Disk old new
      → count (seat_journal old) ≤ Disk.faults (seat_disk old) → HasBroken old → HasBroken new
  seat_reopened old new is first has = inr (subst (λ n. Rose (count n) (Disk.faults (seat_disk new))) (sym is.journal_is) (by has))
    where
      by : HasBroken old → Rose (count (seat_journal old)) (Disk.faults (seat_disk new))
      by (inl broke) =
          rose_wide (count (seat_journal old)) (Disk.faults (seat_disk old)) (Disk.faults is.closed) (Disk.faults (seat_disk new)) first is.left.later
          (is.is_closed.cause broke.1)
      by (inr rose) =
          let closed = is.is_closed.later in
          let opened = is.left.later in
          rose_wide (count (seat_journal old)) (count (seat_journal old)) (Disk.faults (seat_disk old)) (Disk.faults (seat_disk new)) (omega arith)
          (omega (arith, closed, opened)) rose

  all_reopened : (old new : List (DeskSeat D g h)) → AreReopened schema world header Disk old new → AreLater Disk.faults count old
      → AtSome HasBroken old → AtSome HasBroken new
  all_reopened [] [] are first none = absurd none
  all_reopened [] (n ∷ new) are first none = absurd are
  all_reopened (o ∷ old) [] are first has = absurd are
  all_reopened (o ∷ old) (n ∷ new) are first (inl has) = inl (seat_reopened o n are.0 first.0 has)
  all_reopened (o ∷ old) (n ∷ new) are first (inr others) = inr (all_reopened old new are.1 first.1 others)

  all_carried : (item : BatchItem) (old new : List (DeskSeat D g h)) (line : List ℕ) (says_broken : Bool)
      → Carries schema world header Disk item old new line says_broken → AreLater Disk.faults count old
      → AtSome HasBroken old ⊎ (says_broken ≡ true) → AtSome HasBroken new
  all_carried (asked it) old new line says_broken carried first (inl has) =
      all_told it.name (purpose_of it.caller) it.text old new carried.0 carried.1 (inl has)
  all_carried (asked it) old new line says_broken carried first (inr said) =
      all_told it.name (purpose_of it.caller) it.text old new carried.0 carried.1 (inr (sym carried.3 ∙ said))
  all_carried restarted old new line says_broken carried first (inl has) = all_reopened old new carried.0 first has
  all_carried restarted old new line says_broken carried first (inr said) = let clash : false ≡ true = sym carried.2 ∙ said in absurd cc

  -- behind items of which a line says so, it is so
  run_broken : (items : List BatchItem) (old new : List (DeskSeat D g h)) (output : List ℕ) (is_broken : Bool)
      → Runs schema world header Disk items old output new is_broken → AreLater Disk.faults count old
      → is_broken ≡ true → AtSome HasBroken new
  run_broken items old new output is_broken (nothing seats) first said = absurd cc
  run_broken items old new output is_broken (more earlier old' mid new' before line was says_broken item runs carried) first said =
      by was refl (run_broken earlier old' mid before was runs first)
    where
      later : AreLater Disk.faults count mid
      later = (stay_run schema world header Disk earlier old' mid before was runs).later count first

      by : (b : Bool) → was ≡ b → (was ≡ true → AtSome HasBroken mid) → AtSome HasBroken new'
      by true broken so_far = all_carried item mid new' line says_broken carried later (inl (so_far broken))
      by false whole so_far = all_carried item mid new' line says_broken carried later (inr (ap (λ b. b || says_broken) (sym whole) ∙ said))

  -- and the count of its name rises as it is given back
  all_weaker : (told' : Type 0) (count' : Text → ℕ) (disk' : Text → Option D) (seats : List (DeskSeat D g h)) → AtSome HasBroken seats
      → AtSome (HasFailed told' Disk count count' disk') seats
  all_weaker told' count' disk' seats some = some_weaker HasBroken (HasFailed told' Disk count count' disk') seats one some
    where
      one : (seat : DeskSeat D g h) → HasBroken seat → HasFailed told' Disk count count' disk' seat
      one seat (inl broke) = inl broke.1
      one seat (inr rose) = inr rose

  -- so a count rises where a line of items says so whose disks were given back
  pub broken_rose : (told' : Type 0) (count' : Text → ℕ) (disk' : Text → Option D) (wrote : Type 0) (items : List BatchItem) (old new : List (DeskSeat D g h))
      (is_broken : Bool) (before after : List ℕ) → RunsAll schema world header Disk wrote items old new is_broken before after
      → AreLater Disk.faults count old → AreBack told' Disk disk' count' new → is_broken ≡ true → SomeRose count count'
  broken_rose told' count' disk' wrote items old new is_broken before after all first back said =
      some_rose told' Disk count count' disk' new ((stay_run schema world header Disk items old new all.output is_broken all.runs).later count first) back
      (all_weaker told' count' disk' new (run_broken items old new all.output is_broken all.runs first said))
