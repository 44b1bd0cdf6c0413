-- What a call adds is an event of the run of the desk's user.
use Rattle.std.proofs.Common.{◌≡◌, ℕ, true, [], ◌∷◌, ◌++◌, map, refl, sym, ap, ◌∙◌, subst}
use Rattle.std.specs.Prelude.{Option, Some, None, option_to_list, Result, Ok, Err}
use Rattle.std.proofs.lemmas.List.{append-nil, map-append}
use Rattle.cqe_base.specs.declared.user.Mark as base
use Rattle.cqe_base.specs.declared.user.Purpose.{Purpose}
use Rattle.cqe_base.specs.Schema.{Text}
use Rattle.cqe_base.specs.Formula.{Formula}
use Rattle.cqe_base.specs.Reading.{Refusal, reading}
use Rattle.cqe_base.specs.History.{AnsweredQuery, History}
use Rattle.cqe_base.specs.Run as run
use Rattle.cqe_base.specs.Run.{UserState, want, kept, failed, call, after_event, after_failure, reply_at, reply_at_failure, entry_at, entry_added}
use Rattle.cqe_base.specs.Run.{standing_open}
use Rattle.cqe_base.specs.Run.{marked}
use Rattle.turnstile.specs.History.{Entries}
use Rattle.user_log.specs.Replies.{reply_of}
use Rattle.user_log.specs.declared.reply.Reply.{Reply}
use Rattle.user_log.specs.declared.reply.Reply.TheVariants.{Mark, Syntax, Full, Size, Closed, Sealed, Broken, Memory, Secrets, Unsafe}
use Rattle.user_desk.specs.Standings.{standing_of}
use Rattle.user_desk.specs.Lives.{shown, IsState}
use Rattle.user_desk.specs.declared.standing.Standing.{Standing}
use Rattle.user_desk.specs.declared.standing.Standing.TheVariants as standings
use Rattle.desk_counter.specs.declared.item.TurnItem.{TurnItem}
use Rattle.desk_counter.specs.declared.item.TurnItem.TheVariants.{Kept, Broke}
use Rattle.desk_counter.specs.declared.item.Fixed.{Fixed}
use Rattle.desk_counter.specs.Items.{history_of, kept_pairs, flying}
use Rattle.desk_counter.specs.Desks.{state_shown}
use Rattle.desk_counter.specs.Lives.{IsCallOf}
use Rattle.desk_counter.specs.Asks.{entry_for, NoMark, Adds, answered, broke, coded, wanted, IsServing, AnswersWith}
use Rattle.desk_counter.proofs.Asking.{kept_more, kept_broke, flying_broke, served_replies}

-- one entry more
history_more : (pairs : Entries TurnItem) (ticket : ℕ) (entry : AnsweredQuery) → history_of (pairs ++ (ticket, Kept entry) ∷ [])
    ≡ history_of pairs ++ entry ∷ []
history_more pairs ticket entry =
    ap (map (λ (p : ℕ × AnsweredQuery). p.1)) (kept_more pairs (ticket, Kept entry))
    ∙ map-append (λ (p : ℕ × AnsweredQuery). p.1) (kept_pairs pairs) ((ticket, entry) ∷ [])

flying_kept : (pairs : Entries TurnItem) (ticket : ℕ) (entry : AnsweredQuery) → flying (pairs ++ (ticket, Kept entry) ∷ []) ≡ flying pairs
flying_kept [] ticket entry = refl
flying_kept ((t, Kept x) ∷ pairs) ticket entry = flying_kept pairs ticket entry
flying_kept ((t, Broke x) ∷ pairs) ticket entry = refl

-- a code adds no entry
code_adds_none : (text : Text) (read : Result Formula Refusal) (code : Reply) → NoMark code → entry_added text read (reply_of code) ≡ None
code_adds_none text (Err why) code none = refl
code_adds_none text (Ok query) (Mark mark) none = absurd none
code_adds_none text (Ok query) (Syntax refusal) none = refl
code_adds_none text (Ok query) Full none = refl
code_adds_none text (Ok query) Size none = refl
code_adds_none text (Ok query) Closed none = refl
code_adds_none text (Ok query) Sealed none = refl
code_adds_none text (Ok query) Broken none = refl
code_adds_none text (Ok query) Memory none = refl
code_adds_none text (Ok query) Secrets none = refl
code_adds_none text (Ok query) Unsafe none = refl

-- a desk that serves its user is in the state that it shows, and in no other
from_open : (standing : Standing) (desk_state state : UserState) → standing_of standing ≡ standing_open → IsState standing desk_state state → state ≡ desk_state
from_open standings.Open desk_state state opened is = is
from_open (standings.Closed admission) desk_state state opened is = is
from_open (standings.Sealed why) desk_state state opened is = absurd cc

to_open : (standing : Standing) (desk_state state : UserState) → standing_of standing ≡ standing_open → state ≡ desk_state → IsState standing desk_state state
to_open standings.Open desk_state state opened is = is
to_open (standings.Closed admission) desk_state state opened is = is
to_open (standings.Sealed why) desk_state state opened is = absurd cc

module _ {D : Type 0} (fixed : Fixed D) (purpose : Purpose) (text : Text) where
  -- a desk's reply is that in each state in which it is
  same_reply : (standing : Standing) (entries : History) (in_flight : Option AnsweredQuery) (state : UserState)
      → IsState standing (shown entries (standing_of standing) in_flight) state
      → reply_at fixed.schema fixed.world fixed.user state purpose text
      ≡ reply_at fixed.schema fixed.world fixed.user (shown entries (standing_of standing) in_flight) purpose text
  same_reply standings.Open entries in_flight state is = ap (λ s. reply_at fixed.schema fixed.world fixed.user s purpose text) is
  same_reply (standings.Closed admission) entries in_flight state is = ap (λ s. reply_at fixed.schema fixed.world fixed.user s purpose text) is
  same_reply (standings.Sealed why) entries in_flight state is = ap
      (λ s. run.reply fixed.schema fixed.world fixed.user state.entries s state.broken purpose text) is

  module _ (found after : Entries TurnItem) (state : UserState) (is : IsState fixed.standing (state_shown fixed found) state) where
    abbrev IsNow : UserState → Type 0
    IsNow = IsState fixed.standing (state_shown fixed after)

    abbrev IsTold : Reply → Type 0
    IsTold reply = IsCallOf fixed.schema fixed.world fixed.user IsNow state purpose text (reply_of reply)

    -- where nothing was added the state is still one of the desk's
    still : after ≡ found → IsNow state
    still same = subst (λ ps. IsState fixed.standing (state_shown fixed ps) state) (sym same) is

    module _ (query : Formula) (mark : base.Mark) (served : IsServing fixed found) (answer : AnswersWith fixed found purpose text query mark) where
      shows : state ≡ state_shown fixed found
      shows = from_open fixed.standing (state_shown fixed found) state served.0 is

      replied : reply_at fixed.schema fixed.world fixed.user state purpose text ≡ marked mark
      replied = ap (λ s. reply_at fixed.schema fixed.world fixed.user s purpose text) shows ∙ served_replies fixed found purpose text query mark served answer

      adds : entry_at fixed.schema fixed.world fixed.user state purpose text ≡ Some (entry_for query mark text)
      adds = ap (λ r. entry_added text (reading fixed.schema text) r) replied ∙ ap (λ r. entry_added text r (marked mark)) answer.read

      told_mark : (ticket : ℕ) → after ≡ found ++ (ticket, Kept (entry_for query mark text)) ∷ [] → IsTold (Mark mark)
      told_mark ticket added =
          let entry = entry_for query mark text in
          record {
            ending = kept;
            after = to_open fixed.standing (state_shown fixed after) (after_event fixed.schema fixed.world fixed.user state (call purpose text kept)) served.0
                (ap (λ o. record state { entries = state.entries ++ option_to_list o }) adds
                ∙ ap (λ (s : UserState). record s { entries = s.entries ++ entry ∷ [] }) shows
                ∙ ap (λ (h : History). shown h (standing_of fixed.standing) (flying found)) (sym (history_more found ticket entry))
                ∙ ap (λ (o : Option AnsweredQuery). shown (history_of (found ++ (ticket, Kept entry) ∷ [])) (standing_of fixed.standing) o)
                (sym (flying_kept found ticket entry))
                ∙ ap (state_shown fixed) (sym added));
            reply = sym replied;
          }

      told_broke : (ticket : ℕ) → after ≡ found ++ (ticket, Broke (entry_for query mark text)) ∷ [] → IsTold Broken
      told_broke ticket added =
          let entry = entry_for query mark text in
          record {
            ending = failed;
            after = to_open fixed.standing (state_shown fixed after) (after_event fixed.schema fixed.world fixed.user state (call purpose text failed)) served.0
                (ap (after_failure fixed.schema fixed.world fixed.user state) adds
                ∙ ap (λ (s : UserState). record s { broken = true; pending = Some entry }) shows
                ∙ ap (λ (ps : Entries AnsweredQuery). shown (map (λ p. p.1) ps) (standing_of fixed.standing) (Some entry)) (sym (kept_broke found ticket entry))
                ∙ ap (λ (o : Option AnsweredQuery). shown (history_of (found ++ (ticket, Broke entry) ∷ [])) (standing_of fixed.standing) o)
                (sym (flying_broke found ticket entry served.1))
                ∙ ap (state_shown fixed) (sym added));
            reply = sym (ap (reply_at_failure fixed.schema fixed.world fixed.user (reply_at fixed.schema fixed.world fixed.user state purpose text)) adds);
          }

    told_code : (code : Reply) → NoMark code → reply_at fixed.schema fixed.world fixed.user (state_shown fixed found) purpose text ≡ reply_of code
        → after ≡ found
        → IsTold code
    told_code code none replied same =
        let same_told : reply_at fixed.schema fixed.world fixed.user state purpose text ≡ reply_of code =
        same_reply fixed.standing (history_of found) (flying found) state is ∙ replied in
        let nothing : entry_at fixed.schema fixed.world fixed.user state purpose text ≡ None =
        ap (λ r. entry_added text (reading fixed.schema text) r) same_told ∙ code_adds_none text (reading fixed.schema text) code none in
        record {
          ending = kept;
          after = subst IsNow
              (sym (ap (λ o. record state { entries = state.entries ++ option_to_list o }) nothing
              ∙ ap (λ (h : History). record state { entries = h }) (append-nil state.entries))) (still same);
          reply = sym same_told;
        }

    -- what a call adds is an event
    pub adds_call : {ticket : ℕ} (reply : Reply) → Adds fixed ticket purpose text found after reply → IsTold reply
    adds_call {ticket = ticket} reply (answered {query = query} {mark = mark} served answer added) = told_mark query mark served answer ticket added
    adds_call {ticket = ticket} reply (broke {query = query} {mark = mark} served answer added) = told_broke query mark served answer ticket added
    adds_call reply (coded none replied same) = told_code reply none replied same
    adds_call reply (wanted same) = record { ending = want; after = still same; reply = refl }
