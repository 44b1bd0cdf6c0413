-- What a call makes of a user's state, and what its moments stand for.
use Rattle.std.proofs.Common.{◌≡◌, ◌⊎◌, ℕ, Bool, true, false, List, [], ◌∷◌, ◌++◌, length, refl, sym, ap, ◌∙◌, subst, inl, inr}
use Rattle.std.specs.Prelude.{Option, Some, None, Result, Ok, Err, option_to_list}
use Rattle.std.proofs.lemmas.List.{append-nil}
use Rattle.cqe_base.specs.declared.user.Mark.{Mark}
use Rattle.cqe_base.specs.declared.user.Purpose.{Purpose}
use Rattle.cqe_base.specs.Schema.{DatabaseSchema, Text}
use Rattle.cqe_base.specs.Facts.{FactSet}
use Rattle.cqe_base.specs.Formula.{Formula}
use Rattle.cqe_base.specs.Reading.{Refusal, reading}
use Rattle.cqe_base.specs.History.{UserProfile, AnsweredQuery, History}
use Rattle.cqe_base.specs.Run
use Rattle.cqe_base.specs.Run.{UserState, standing_open, standing_closed, standing_sealed, want, kept, failed, call, stop, after_event, after_failure, reply_at}
use Rattle.cqe_base.specs.Run.{entry_at, entry_added, marked, reply_by, user_closed, desk_sealed, desk_broken, no_memory, entries_found}
use Rattle.outside.specs.Faults.{Rose}
use Rattle.user_log.specs.Asked.{IsAnswer}
use Rattle.user_desk.specs.Causes.{Opens}
use Rattle.user_desk.specs.Lives.{Holds, Settles, AddsNone}

-- only a mark adds an entry
adds_none : (text : Text) (read : Result Formula Refusal) → (entry_added text read user_closed ≡ None) × (entry_added text read desk_sealed ≡ None)
    × (entry_added text read desk_broken ≡ None)
adds_none text (Ok query) = (refl, refl, refl)
adds_none text (Err why) = (refl, refl, refl)

module _ (schema : DatabaseSchema) (world : FactSet) (user : UserProfile) where
  -- a code leaves the state
  code_leaves : (state : UserState) (purpose : Purpose) (text : Text) → entry_at schema world user state purpose text ≡ None
      → after_event schema world user state (call purpose text kept) ≡ state
  code_leaves state purpose text none =
      ap (λ (h : History). record state { entries = h }) (ap (λ o. state.entries ++ option_to_list o) none ∙ append-nil state.entries)

  entry_of_code : (state : UserState) (purpose : Purpose) (text : Text) (code : Run.Reply) → reply_at schema world user state purpose text ≡ code
      → entry_added text (reading schema text) code ≡ None → entry_at schema world user state purpose text ≡ None
  entry_of_code state purpose text code is none = ap (λ r. entry_added text (reading schema text) r) is ∙ none

  -- a code answers
  pub code_settles : (state : UserState) (purpose : Purpose) (text : Text) (code : Run.Reply) (before now : ℕ)
      → reply_at schema world user state purpose text ≡ code
      → entry_added text (reading schema text) code ≡ None
      → Settles schema world user (λ s. s ≡ state) state purpose text code before now
  code_settles state purpose text code before now is none = record {
    ending = kept;
    after = code_leaves state purpose text (entry_of_code state purpose text code is none);
    reply = sym is;
    cause = λ e. absurd cc;
  }

  -- want of memory answers
  pub want_settles : (state : UserState) (purpose : Purpose) (text : Text) (before now : ℕ)
      → Settles schema world user (λ s. s ≡ state) state purpose text no_memory before now
  want_settles state purpose text before now = record { ending = want; after = refl; reply = refl; cause = λ e. absurd cc }

  -- the entry of a mark
  pub entry_of_answer : (state : UserState) (purpose : Purpose) (text : Text) (query : Formula) (mark : Mark) → state.standing ≡ standing_open
      → state.broken ≡ false
      → IsAnswer schema world user state.entries purpose text query mark
      → (reply_at schema world user state purpose text ≡ marked mark) × (entry_at schema world user state purpose text ≡ Some (record {
        query =
            query;
        mark = mark;
        length = length text;
      }))
  entry_of_answer state purpose text query mark is_open whole answer =
      let told : reply_at schema world user state purpose text ≡ marked mark =
      ap (λ s. reply_by schema world user state.entries s state.broken purpose text (reading schema text)) is_open
      ∙ ap (λ b. reply_by schema world user state.entries standing_open b purpose text (reading schema text)) whole ∙ answer.answer in
      (told, ap (λ r. entry_added text (reading schema text) r) told ∙ ap (λ r. entry_added text r (marked mark)) answer.read)

  -- a mark answers, and adds its entry
  pub mark_settles : (old new : UserState) (purpose : Purpose) (text : Text) (query : Formula) (mark : Mark) (before now : ℕ) → old.standing ≡ standing_open
      → old.broken ≡ false
      → IsAnswer schema world user old.entries purpose text query mark
      → new ≡ record old { entries = old.entries ++ record { query = query; mark = mark; length = length text } ∷ [] }
      → Settles schema world user (λ s. s ≡ new) old purpose text (marked mark) before now
  mark_settles old new purpose text query mark before now is_open whole answer added =
      let found = entry_of_answer old purpose text query mark is_open whole answer in
      record {
        ending = kept;
        after = ap (λ (o : Option AnsweredQuery). record old { entries = old.entries ++ option_to_list o }) found.1 ∙ sym added;
        reply = sym found.0;
        cause = λ e. absurd cc;
      }

  -- an append fails, and its entry is in flight
  pub failure_settles : (old new : UserState) (purpose : Purpose) (text : Text) (query : Formula) (mark : Mark) (before now : ℕ) → old.standing ≡ standing_open
      → old.broken ≡ false
      → IsAnswer schema world user old.entries purpose text query mark
      → Rose before now → new ≡ record old { broken = true; pending = Some (record { query = query; mark = mark; length = length text }) }
      → Settles schema world user (λ s. s ≡ new) old purpose text desk_broken before now
  failure_settles old new purpose text query mark before now is_open whole answer rose flies =
      let found = entry_of_answer old purpose text query mark is_open whole answer in
      record {
        ending = failed;
        after = ap (λ o. after_failure schema world user old o) found.1 ∙ sym flies;
        reply = sym (ap (λ o. Run.reply_at_failure schema world user (reply_at schema world user old purpose text) o) found.1);
        cause = λ e. rose;
      }

  -- where the journal was refused each text has that code
  pub sealed_settles : (state : UserState) (purpose : Purpose) (text : Text) (before now : ℕ) → state.standing ≡ standing_sealed
      → Settles schema world user (λ s. s.standing ≡ standing_sealed) state purpose text desk_sealed before now
  sealed_settles state purpose text before now is = record {
    ending = kept;
    after = is;
    reply = sym (ap (λ s. reply_by schema world user state.entries s state.broken purpose text (reading schema text)) is);
    cause = λ e. absurd cc;
  }

  -- a user who isn't admitted gets that code
  pub closed_settles : (state : UserState) (purpose : Purpose) (text : Text) (before now : ℕ) → state.standing ≡ standing_closed
      → Settles schema world user (λ s. s ≡ state) state purpose text user_closed before now
  closed_settles state purpose text before now is =
      code_settles state purpose text user_closed before now
      (ap (λ s. reply_by schema world user state.entries s state.broken purpose text (reading schema text)) is)
      (adds_none text (reading schema text)).0

  broken_reply : (state : UserState) (purpose : Purpose) (text : Text) → state.standing ≡ standing_open → state.broken ≡ true
      → reply_at schema world user state purpose text ≡ desk_broken
  broken_reply state purpose text is_open broken =
      ap (λ s. reply_by schema world user state.entries s state.broken purpose text (reading schema text)) is_open
      ∙ ap (λ b. reply_by schema world user state.entries standing_open b purpose text (reading schema text)) broken

  -- after an append that failed each text has that code
  pub broken_settles : (state : UserState) (purpose : Purpose) (text : Text) (before now : ℕ) → state.standing ≡ standing_open → state.broken ≡ true
      → Settles schema world user (λ s. s ≡ state) state purpose text desk_broken before now
  broken_settles state purpose text before now is_open broken =
      code_settles state purpose text desk_broken before now (broken_reply state purpose text is_open broken) (adds_none text (reading schema text)).2

  -- ---- what a crash of an ask leaves

  -- of an ask that is answered by a code
  pub stop_leaves : (header : List ℕ) (state : UserState) (purpose : Purpose) (text : Text) (c : List ℕ) → entry_at schema world user state purpose text ≡ None
      → Holds schema world user header state c → Holds schema world user header (after_event schema world user state (stop purpose text)) c
  stop_leaves header state purpose text c none holds = subst (λ o. Holds schema world user header (after_failure schema world user state o) c) (sym none) holds

  -- of an ask whose record is or isn't on the disk
  pub stop_holds : (header : List ℕ) (state : UserState) (purpose : Purpose) (text : Text) (entry : AnsweredQuery) (c : List ℕ)
      → entry_at schema world user state purpose text ≡ Some entry
      → Opens schema world user header state.entries c ⊎ Opens schema world user header (state.entries ++ entry ∷ []) c
      → Holds schema world user header (after_event schema world user state (stop purpose text)) c
  stop_holds header state purpose text entry c is (inl without) =
      subst (λ o. Holds schema world user header (after_failure schema world user state o) c) (sym is)
      (record { found = false; sought = λ e. absurd cc; opens = without })
  stop_holds header state purpose text entry c is (inr with_it) =
      subst (λ o. Holds schema world user header (after_failure schema world user state o) c) (sym is)
      (record { found = true; sought = λ e. refl; opens = with_it })

  -- of any ask, where the disk is as it was
  pub stop_keeps : (header : List ℕ) (state : UserState) (purpose : Purpose) (text : Text) (c : List ℕ) → state.pending ≡ None
      → Holds schema world user header state c
      → Holds schema world user header (after_event schema world user state (stop purpose text)) c
  stop_keeps header state purpose text c idle holds = by_entry (entry_at schema world user state purpose text)
    where
      found_is : (found : Bool) → entries_found schema world user state found ≡ state.entries
      found_is true = ap (λ o. state.entries ++ option_to_list o) idle ∙ append-nil state.entries
      found_is false = refl

      opens : Opens schema world user header state.entries c
      opens = subst (λ h. Opens schema world user header h c) (found_is holds.found) holds.opens

      by_entry : (o : Option AnsweredQuery) → Holds schema world user header (after_failure schema world user state o) c
      by_entry None = holds
      by_entry (Some entry) = record { found = false; sought = λ e. absurd cc; opens = opens }

  -- ---- where no text adds an entry

  pub sealed_adds : (state : UserState) → state.standing ≡ standing_sealed → AddsNone schema world user state
  sealed_adds state is purpose text =
      entry_of_code state purpose text desk_sealed (ap (λ s. reply_by schema world user state.entries s state.broken purpose text (reading schema text)) is)
      (adds_none text (reading schema text)).1

  pub closed_adds : (state : UserState) → state.standing ≡ standing_closed → AddsNone schema world user state
  closed_adds state is purpose text =
      entry_of_code state purpose text user_closed (ap (λ s. reply_by schema world user state.entries s state.broken purpose text (reading schema text)) is)
      (adds_none text (reading schema text)).0

  pub broken_adds : (state : UserState) → state.standing ≡ standing_open → state.broken ≡ true → AddsNone schema world user state
  broken_adds state is_open broken purpose text = entry_of_code state purpose text desk_broken (broken_reply state purpose text is_open broken)
      (adds_none text (reading schema text)).2
