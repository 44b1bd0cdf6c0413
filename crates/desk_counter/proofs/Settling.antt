-- What settling a text makes of a desk's entries.
use Rattle.std.proofs.Common.{◌≡◌, ◌⊎◌, ℕ, Bool, true, false, [], ◌∷◌, ◌++◌, length, refl, sym, ap, ◌∙◌, subst, inl, inr, ⊎_elim}
use Rattle.std.specs.Prelude.{Option, Some, None, is_some, option_to_list, Result, Ok, Err}
use Rattle.std.proofs.lemmas.List.{append-nil}
use Rattle.cqe_base.specs.declared.user.Mark as base
use Rattle.cqe_base.specs.declared.user.Purpose.{Purpose}
use Rattle.cqe_base.specs.Schema.{DatabaseSchema, Text}
use Rattle.cqe_base.specs.Facts.{FactSet}
use Rattle.cqe_base.specs.Formula.{Formula}
use Rattle.cqe_base.specs.Reading.{Refusal, reading}
use Rattle.cqe_base.specs.History.{UserProfile, AnsweredQuery, History}
use Rattle.cqe_base.specs.Run as run
use Rattle.cqe_base.specs.Run.{UserState, Ending, want, kept, failed, call, after_event, after_failure, reply_at, entry_at, reply_to_call, reply_at_failure}
use Rattle.cqe_base.specs.Run.{reply_by, reply_to, entry_added, standing_open, standing_closed, standing_sealed, marked, no_sentence, history_full, too_large}
use Rattle.cqe_base.specs.Run.{user_closed, desk_sealed, desk_broken, no_memory, secrets_full, unsafe_secret}
use Rattle.user_log.specs.Asked.{IsAnswer}
use Rattle.user_log.specs.Replies.{reply_of}
use Rattle.user_log.specs.declared.reply.Reply.{Reply}
use Rattle.user_log.specs.declared.reply.Reply.TheVariants.{Mark, Syntax, Full, Size, Closed, Sealed, Broken, Memory, Secrets, Unsafe}
use Rattle.user_desk.specs.Standings.{standing_of, is_open}
use Rattle.user_desk.specs.Lives.{shown, IsState, Settles}
use Rattle.user_desk.specs.declared.standing.Standing.{Standing}
use Rattle.user_desk.specs.declared.standing.Standing.TheVariants as standings
use Rattle.desk_counter.specs.Asks.{entry_for, NoMark}

-- ---- replies in memory

pub mark_back : (told : Reply) (mark : base.Mark) → reply_of told ≡ marked mark → told ≡ Mark mark
mark_back (Mark other) mark e = let same : other ≡ mark = cc in ap (λ m. Mark m) same
mark_back (Syntax refusal) mark e = absurd cc
mark_back Full mark e = absurd cc
mark_back Size mark e = absurd cc
mark_back Closed mark e = absurd cc
mark_back Sealed mark e = absurd cc
mark_back Broken mark e = absurd cc
mark_back Memory mark e = absurd cc
mark_back Secrets mark e = absurd cc
mark_back Unsafe mark e = absurd cc

pub broken_back : (told : Reply) → reply_of told ≡ desk_broken → told ≡ Broken
broken_back (Mark other) e = absurd cc
broken_back (Syntax refusal) e = absurd cc
broken_back Full e = absurd cc
broken_back Size e = absurd cc
broken_back Closed e = absurd cc
broken_back Sealed e = absurd cc
broken_back Broken e = refl
broken_back Memory e = absurd cc
broken_back Secrets e = absurd cc
broken_back Unsafe e = absurd cc

pub memory_back : (told : Reply) → reply_of told ≡ no_memory → told ≡ Memory
memory_back (Mark other) e = absurd cc
memory_back (Syntax refusal) e = absurd cc
memory_back Full e = absurd cc
memory_back Size e = absurd cc
memory_back Closed e = absurd cc
memory_back Sealed e = absurd cc
memory_back Broken e = absurd cc
memory_back Memory e = refl
memory_back Secrets e = absurd cc
memory_back Unsafe e = absurd cc

pub no_mark : (told : Reply) → ((mark : base.Mark) → reply_of told ≡ marked mark → ⊥) → NoMark told
no_mark (Mark mark) never = never mark refl
no_mark (Syntax refusal) never = tt
no_mark Full never = tt
no_mark Size never = tt
no_mark Closed never = tt
no_mark Sealed never = tt
no_mark Broken never = tt
no_mark Memory never = tt
no_mark Secrets never = tt
no_mark Unsafe never = tt

pub none_flies : (in_flight : Option AnsweredQuery) → is_some in_flight ≡ false → in_flight ≡ None
none_flies None e = refl
none_flies (Some entry) e = absurd cc

module _ (schema : DatabaseSchema) (world : FactSet) (user : UserProfile) where
  -- ---- how a text is weighed

  -- a reply to a sentence is a mark, or adds nothing
  either : (sentence : Formula) (text : Text) (told : run.Reply) → ((mark : base.Mark) × (told ≡ marked mark))
      ⊎ ((entry_added text (Ok sentence) told ≡ None) × ((mark : base.Mark) → told ≡ marked mark → ⊥))
  either sentence text (marked mark) = inl (mark, refl)
  either sentence text (no_sentence kind place) = inr (refl, λ mark e. cc)
  either sentence text history_full = inr (refl, λ mark e. cc)
  either sentence text too_large = inr (refl, λ mark e. cc)
  either sentence text user_closed = inr (refl, λ mark e. cc)
  either sentence text desk_sealed = inr (refl, λ mark e. cc)
  either sentence text desk_broken = inr (refl, λ mark e. cc)
  either sentence text no_memory = inr (refl, λ mark e. cc)
  either sentence text secrets_full = inr (refl, λ mark e. cc)
  either sentence text unsafe_secret = inr (refl, λ mark e. cc)

  -- a mark answers the text, which is a query
  record IsMarked (entries : History) (standing : run.Standing) (broken : Bool) (purpose : Purpose) (text : Text) (read : Result Formula Refusal) : Type 0 where
    query : Formula
    mark : base.Mark
    opened : standing ≡ standing_open
    whole : broken ≡ false
    reads : read ≡ Ok query
    told : reply_by schema world user entries standing broken purpose text read ≡ marked mark

  -- a code answers it, which adds no entry
  record IsCoded (entries : History) (standing : run.Standing) (broken : Bool) (purpose : Purpose) (text : Text) (read : Result Formula Refusal) : Type 0 where
    none : entry_added text read (reply_by schema world user entries standing broken purpose text read) ≡ None
    never : (mark : base.Mark) → reply_by schema world user entries standing broken purpose text read ≡ marked mark → ⊥

  weighed : (entries : History) (standing : run.Standing) (broken : Bool) (purpose : Purpose) (text : Text) (read : Result Formula Refusal)
      → IsMarked entries standing broken purpose text read ⊎ IsCoded entries standing broken purpose text read
  weighed entries standing_sealed broken purpose text (Ok query) = inr (record { none = refl; never = λ mark e. cc })
  weighed entries standing_sealed broken purpose text (Err why) = inr (record { none = refl; never = λ mark e. cc })
  weighed entries standing_closed broken purpose text (Ok query) = inr (record { none = refl; never = λ mark e. cc })
  weighed entries standing_closed broken purpose text (Err why) = inr (record { none = refl; never = λ mark e. cc })
  weighed entries standing_open true purpose text (Ok query) = inr (record { none = refl; never = λ mark e. cc })
  weighed entries standing_open true purpose text (Err why) = inr (record { none = refl; never = λ mark e. cc })
  weighed entries standing_open false purpose text (Err why) = inr (record { none = refl; never = λ mark e. cc })
  weighed entries standing_open false purpose text (Ok query) = ⊎_elim
      (λ is. inl (record { query = query; mark = is.0; opened = refl; whole = refl; reads = refl; told = is.1 }))
      (λ coded. inr (record { none = coded.0; never = coded.1 }))
      (either query text (reply_to schema world user entries purpose (length text) query))

  -- ---- what is made of the entries

  -- The entries and the one in flight after a text was settled: a mark adds its entry; an append that fails leaves that
  -- entry in flight; and else nothing changes.
  pub data Changes (standing : run.Standing) (purpose : Purpose) (text : Text) (old : History) (old_flying : Option AnsweredQuery) (new : History)
      (new_flying : Option AnsweredQuery) : Reply → Type 0 where
    added : {query : Formula} {mark : base.Mark} → standing ≡ standing_open → old_flying ≡ None → IsAnswer schema world user old purpose text query mark
        → new ≡ old ++ entry_for query mark text ∷ [] → new_flying ≡ None
        → Changes standing purpose text old old_flying new new_flying (Mark mark)
    flew : {query : Formula} {mark : base.Mark} → standing ≡ standing_open → old_flying ≡ None → IsAnswer schema world user old purpose text query mark
        → new ≡ old
        → new_flying ≡ Some (entry_for query mark text)
        → Changes standing purpose text old old_flying new new_flying Broken
    coded : {code : Reply} → NoMark code → reply_at schema world user (shown old standing old_flying) purpose text ≡ reply_of code → new ≡ old
        → new_flying ≡ old_flying
        → Changes standing purpose text old old_flying new new_flying code
    wanted : new ≡ old → new_flying ≡ old_flying → Changes standing purpose text old old_flying new new_flying Memory

  -- what a desk shows is the state that it is in
  now_is : (standing : Standing) (desk_state state : UserState) → IsState standing desk_state state
      → (is_open standing ≡ false → (desk_state.entries ≡ state.entries) × (desk_state.pending ≡ state.pending))
      → (desk_state.entries ≡ state.entries) × (desk_state.pending ≡ state.pending)
  now_is standings.Open desk_state state is idle = (ap (λ (s : UserState). s.entries) (sym is), ap (λ (s : UserState). s.pending) (sym is))
  now_is (standings.Closed admission) desk_state state is idle = (ap (λ (s : UserState). s.entries) (sym is), ap (λ (s : UserState). s.pending) (sym is))
  now_is (standings.Sealed why) desk_state state is idle = idle refl

  not_closed : (standing : Standing) → standing_of standing ≡ standing_open → is_open standing ≡ false → ⊥
  not_closed standings.Open is closed = cc
  not_closed (standings.Closed admission) is closed = cc
  not_closed (standings.Sealed why) is closed = cc

  module _ (standing : Standing) (purpose : Purpose) (text : Text) (old : History) (old_flying : Option AnsweredQuery) (new : History)
      (new_flying : Option AnsweredQuery)
      (told : Reply)
      (idle : is_open standing ≡ false → (old ≡ []) × (new ≡ []) × (old_flying ≡ None) × (new_flying ≡ None)) where
    abbrev before : UserState
    before = shown old (standing_of standing) old_flying

    abbrev Is : UserState → Type 0
    Is state = IsState standing (shown new (standing_of standing) new_flying) state

    unchanged : (state : UserState) → Is state → state.entries ≡ old → state.pending ≡ old_flying → (new ≡ old) × (new_flying ≡ old_flying)
    unchanged state is same still =
        let n = now_is standing (shown new (standing_of standing) new_flying) state is (λ closed. let i = idle closed in
        (i.1 ∙ sym i.0 ∙ sym same, i.3 ∙ sym i.2 ∙ sym still)) in
        (n.0 ∙ same, n.1 ∙ still)

    opened : (state : UserState) → Is state → standing_of standing ≡ standing_open → (new ≡ state.entries) × (new_flying ≡ state.pending)
    opened state is served = now_is standing (shown new (standing_of standing) new_flying) state is (λ closed. absurd (not_closed standing served closed))

    abbrev Changed : Reply → Type 0
    Changed = Changes (standing_of standing) purpose text old old_flying new new_flying

    answer : (m : IsMarked old (standing_of standing) (is_some old_flying) purpose text (reading schema text))
        → IsAnswer schema world user old purpose text m.query m.mark
    answer m = record {
      read = m.reads;
      answer = ap (λ s. reply_by schema world user old s false purpose text (reading schema text)) (sym m.opened)
          ∙ ap (λ b. reply_by schema world user old (standing_of standing) b purpose text (reading schema text)) (sym m.whole) ∙ m.told;
    }

    entry : (m : IsMarked old (standing_of standing) (is_some old_flying) purpose text (reading schema text))
        → entry_at schema world user before purpose text ≡ Some (entry_for m.query m.mark text)
    entry m = ap (λ r. entry_added text (reading schema text) r) m.told ∙ ap (λ r. entry_added text r (marked m.mark)) m.reads

    after_kept : Is (after_event schema world user before (call purpose text kept)) → reply_of told ≡ reply_at schema world user before purpose text
        → IsMarked old (standing_of standing) (is_some old_flying) purpose text (reading schema text)
        ⊎ IsCoded old (standing_of standing) (is_some old_flying) purpose text (reading schema text) → Changed told
    after_kept is replied (inl m) =
        let n = opened (after_event schema world user before (call purpose text kept)) is m.opened in
        subst Changed (sym (mark_back told m.mark (replied ∙ m.told)))
        (added m.opened (none_flies old_flying m.whole) (answer m) (n.0 ∙ ap (λ o. old ++ option_to_list o) (entry m)) (n.1 ∙ none_flies old_flying m.whole))
    after_kept is replied (inr c) =
        let n = unchanged (after_event schema world user before (call purpose text kept)) is (ap (λ o. old ++ option_to_list o) c.none ∙ append-nil old) refl in
        coded (no_mark told (λ mark e. c.never mark (sym replied ∙ e))) (sym replied) n.0 n.1

    after_failed : Is (after_event schema world user before (call purpose text failed))
        → reply_of told ≡ reply_to_call schema world user before purpose text failed
        → IsMarked old (standing_of standing) (is_some old_flying) purpose text (reading schema text)
        ⊎ IsCoded old (standing_of standing) (is_some old_flying) purpose text (reading schema text) → Changed told
    after_failed is replied (inl m) =
        let flies = subst (λ o. Is (after_failure schema world user before o)) (entry m) is in
        let n = opened (after_failure schema world user before (Some (entry_for m.query m.mark text))) flies m.opened in
        subst Changed (sym (broken_back told (replied ∙ ap (λ o. reply_at_failure schema world user (reply_at schema world user before purpose text) o)
        (entry m))))
        (flew m.opened (none_flies old_flying m.whole) (answer m) n.0 n.1)
    after_failed is replied (inr c) =
        let stays = subst (λ o. Is (after_failure schema world user before o)) c.none is in
        let n = unchanged before stays refl refl in
        let same = replied ∙ ap (λ o. reply_at_failure schema world user (reply_at schema world user before purpose text) o) c.none in
        coded (no_mark told (λ mark e. c.never mark (sym same ∙ e))) (sym same) n.0 n.1

    by_ending : (ending : Ending) → Is (after_event schema world user before (call purpose text ending))
        → reply_of told ≡ reply_to_call schema world user before purpose text ending → Changed told
    by_ending want is replied =
        let n = unchanged before is refl refl in
        subst Changed (sym (memory_back told replied)) (wanted n.0 n.1)
    by_ending kept is replied = after_kept is replied (weighed old (standing_of standing) (is_some old_flying) purpose text (reading schema text))
    by_ending failed is replied = after_failed is replied (weighed old (standing_of standing) (is_some old_flying) purpose text (reading schema text))

    -- a text that was settled changes the entries so
    pub settled_changes : (earlier now : ℕ)
        → Settles schema world user (IsState standing (shown new (standing_of standing) new_flying)) before purpose text (reply_of told) earlier now
        → Changed told
    settled_changes earlier now settled = by_ending settled.ending settled.after settled.reply

-- a reply that isn't a mark is none
pub not_mark : (told : Reply) → ((mark : base.Mark) → told ≡ Mark mark → ⊥) → NoMark told
not_mark (Mark mark) never = never mark refl
not_mark (Syntax refusal) never = tt
not_mark Full never = tt
not_mark Size never = tt
not_mark Closed never = tt
not_mark Sealed never = tt
not_mark Broken never = tt
not_mark Memory never = tt
not_mark Secrets never = tt
not_mark Unsafe never = tt
