-- What events make of a user's run: counts, entries and causes; and the ending of one call.
use Rattle.std.proofs.Common.{◌≡◌, inl, inr, ℕ, ◌+◌, ◌≤◌, Bool, true, false, List, [], ◌∷◌, ◌++◌, refl, sym, ap, subst, ◌∙◌, append-nil, arith}
use Rattle.std.specs.Prelude.{Option, Some, None, is_some, ◌||◌, option_to_list, Result, Ok, Err}
use Rattle.std.specs.List.{list_any}
use Rattle.std.proofs.Math.Bool.{or-false}
use Rattle.std.proofs.lemmas.List.Sums.{sum_by-append}
use Rattle.outside.specs.Faults.{Rose}
use Rattle.cqe_base.specs.declared.user.Purpose.{Purpose}
use Rattle.cqe_base.specs.Schema.{DatabaseSchema, Text}
use Rattle.cqe_base.specs.Facts.{FactSet}
use Rattle.cqe_base.specs.Formula.{Formula}
use Rattle.cqe_base.specs.Reading.{Refusal, reading}
use Rattle.cqe_base.specs.History.{UserProfile, AnsweredQuery, History}
use Rattle.cqe_base.specs.Run
use Rattle.cqe_base.specs.Run.{Reply, Ending, want, kept, failed, Event, call, stop, restart, UserState, after_event, after_events, reply_to_call}
use Rattle.cqe_base.specs.Run.{entry_at}
use Rattle.cqe_base.proofs.Lists.{or_assoc}
use Rattle.cqe_base.proofs.Truths.{or_first, or_second}
use Rattle.user_desk.specs.Entries.{IsNoLonger}
use Rattle.desk_counter.specs.Lives.{IsCallOf}
use Rattle.batch_engine.specs.Lives.{RoseBy, is_failed_append, failures_in, failures, IsCaused, AreCaused}

-- ---- counts and lists

pub rose_more : (n before now later : ℕ) → RoseBy n before now → now ≤ later → RoseBy n before later
rose_more n before now later (inl some) on = inl (omega (arith, some, on))
rose_more n before now later (inr full) on = inr (omega (arith, full, on))

pub rose_again : (n before now later : ℕ) → RoseBy n before now → now ≤ later → Rose now later → RoseBy (n + 1) before later
rose_again n before now later (inl some) on (inl once) = inl (omega (arith, some, once))
rose_again n before now later (inl some) on (inr full) = inr full
rose_again n before now later (inr full) on rose = inr (omega (arith, full, on))

pub failures-push : (events : List Event) (event : Event) → failures (events ++ event ∷ []) ≡ failures events + failures_in event
failures-push [] event = let turned : failures_in event + 0 ≡ 0 + failures_in event = omega arith in turned
failures-push (e ∷ events) event =
    let again : failures_in e + (failures events + failures_in event) ≡ (failures_in e + failures events) + failures_in event = omega arith in
    ap (λ n. failures_in e + n) (failures-push events event) ∙ again

pub any-push : {X : Type 0} (test : X → Bool) (xs : List X) (x : X) → list_any test (xs ++ x ∷ []) ≡ (list_any test xs || test x)
any-push test [] x = or-false (test x)
any-push test (y ∷ xs) x = ap (λ b. test y || b) (any-push test xs x) ∙ sym (or_assoc (test y) (list_any test xs) (test x))

-- what is behind an event that failed not, among those before
pub unfailed-push : (events : List Event) (event : Event) → list_any is_failed_append (events ++ event ∷ []) ≡ false → list_any is_failed_append events ≡ false
unfailed-push events event whole = or_first (list_any is_failed_append events) (is_failed_append event) (sym (any-push is_failed_append events event) ∙ whole)

-- more entries need more bytes
no_longer_more : (before : List ℕ) (entries more : History) (reads : List ℕ) → IsNoLonger before entries reads → IsNoLonger before (entries ++ more) reads
no_longer_more before entries more reads is = omega (arith, is, sum_by-append (λ (e : AnsweredQuery). 4 + e.length) entries more)

module _ (schema : DatabaseSchema) (world : FactSet) (user : UserProfile) where
  -- where no append failed, none has failed
  pub never_broken : (state : UserState) (events : List Event) → state.broken ≡ false → list_any is_failed_append events ≡ false
      → (after_events schema world user state events).broken ≡ false
  never_broken state [] whole none = whole
  never_broken state (event ∷ events) whole none =
      never_broken (after_event schema world user state event) events (one event (or_first (is_failed_append event) (list_any is_failed_append events) none))
      (or_second (is_failed_append event) (list_any is_failed_append events) none)
    where
      one : (e : Event) → is_failed_append e ≡ false → (after_event schema world user state e).broken ≡ false
      one (call purpose text want) unfailed = whole
      one (call purpose text kept) unfailed = whole
      one (call purpose text failed) unfailed = absurd cc
      one (stop purpose text) unfailed = absurd cc
      one (restart found true) unfailed = refl
      one (restart found false) unfailed = whole

  -- no event takes entries away
  pub no_longer_on : (state : UserState) (event : Event) (before reads : List ℕ) → IsNoLonger before state.entries reads
      → IsNoLonger before (after_event schema world user state event).entries reads
  no_longer_on state event before reads is = by event
    where
      flown : (entry : Option AnsweredQuery) → IsNoLonger before (Run.after_failure schema world user state entry).entries reads
      flown None = is
      flown (Some entry) = is

      by : (e : Event) → IsNoLonger before (after_event schema world user state e).entries reads
      by (call purpose text want) = is
      by (call purpose text kept) = no_longer_more before state.entries (option_to_list (entry_at schema world user state purpose text)) reads is
      by (call purpose text failed) = flown (entry_at schema world user state purpose text)
      by (stop purpose text) = flown (entry_at schema world user state purpose text)
      by (restart true true) = no_longer_more before state.entries (option_to_list state.pending) reads is
      by (restart false true) = is
      by (restart found false) = is

  pub caused-push : (state : UserState) (events : List Event) (event : Event) → AreCaused schema world user state events
      → IsCaused schema world user (after_events schema world user state events) event
      → AreCaused schema world user state (events ++ event ∷ [])
  caused-push state [] event all last = (last, tt)
  caused-push state (e ∷ events) event all last = (all.0, caused-push (after_event schema world user state e) events event all.1 last)

  -- ---- one call

  -- a call with an ending that has its cause
  pub record Once (is_now : UserState → Type 0) (state : UserState) (purpose : Purpose) (text : Text) (told : Reply) : Type 0 where
    pub ending : Ending
    pub caused : IsCaused schema world user state (call purpose text ending)
    pub after : is_now (after_event schema world user state (call purpose text ending))
    pub reply : told ≡ reply_to_call schema world user state purpose text ending

  pub once : (is_now : UserState → Type 0) (state : UserState) (purpose : Purpose) (text : Text) (told : Reply)
      → IsCallOf schema world user is_now state purpose text told
      → Once is_now state purpose text told
  once is_now state purpose text told asked = by asked.ending asked.after asked.reply
    where
      unadded : (entry : Option AnsweredQuery) → entry ≡ None → record state { entries = state.entries ++ option_to_list entry } ≡ state
      unadded entry none =
          ap (λ e. record state { entries = state.entries ++ option_to_list e }) none ∙ ap (λ es. record state { entries = es }) (append-nil state.entries)

      by_entry : (entry : Option AnsweredQuery) → entry_at schema world user state purpose text ≡ entry
          → is_now (after_event schema world user state (call purpose text failed))
          → told ≡ reply_to_call schema world user state purpose text failed → Once is_now state purpose text told
      by_entry (Some entry) is after reply = record { ending = failed; caused = ap is_some is; after = after; reply = reply }
      by_entry None is after reply = record {
        ending = kept;
        caused = tt;
        after = subst is_now (ap (λ e. Run.after_failure schema world user state e) is
            ∙ sym (unadded (entry_at schema world user state purpose text) is)) after;
        reply = reply ∙ ap (λ e. Run.reply_at_failure schema world user (Run.reply_at schema world user state purpose text) e) is;
      }

      by : (ending : Ending) → is_now (after_event schema world user state (call purpose text ending))
          → told ≡ reply_to_call schema world user state purpose text ending
          → Once is_now state purpose text told
      by want after reply = record { ending = want; caused = tt; after = after; reply = reply }
      by kept after reply = record { ending = kept; caused = tt; after = after; reply = reply }
      by failed after reply = by_entry (entry_at schema world user state purpose text) refl after reply

  -- a state in which an append failed adds nothing
  pub broken_adds : (state : UserState) (purpose : Purpose) (text : Text) → state.broken ≡ true → entry_at schema world user state purpose text ≡ None
  broken_adds state purpose text broken =
      ap (λ b. Run.entry_added text (reading schema text) (Run.reply schema world user state.entries state.standing b purpose text)) broken ∙
      by state.standing (reading schema text)
    where
      by : (standing : Run.Standing) (read : Result Formula Refusal)
          → Run.entry_added text read (Run.reply_by schema world user state.entries standing true purpose text read) ≡ None
      by Run.standing_open (Ok query) = refl
      by Run.standing_open (Err why) = refl
      by Run.standing_closed (Ok query) = refl
      by Run.standing_closed (Err why) = refl
      by Run.standing_sealed (Ok query) = refl
      by Run.standing_sealed (Err why) = refl
