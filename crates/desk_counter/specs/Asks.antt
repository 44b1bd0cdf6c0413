-- What a call answers, and what it adds.
use Rattle.std.specs.Prelude.{◌≡◌, ◌⊎◌, ℕ, ◌≤◌, [], ◌∷◌, ◌++◌, length, Option, None, Ok}
use Rattle.std.specs.Prelude.{option_to_list}
use Rattle.cqe_base.specs.declared.user.Mark as base
use Rattle.cqe_base.specs.declared.user.Purpose.{Purpose}
use Rattle.cqe_base.specs.Schema.{Text}
use Rattle.cqe_base.specs.Formula.{Formula}
use Rattle.cqe_base.specs.Reading.{reading}
use Rattle.cqe_base.specs.History.{AnsweredQuery}
use Rattle.cqe_base.specs.Run.{standing_open, reply_at}
use Rattle.turnstile.specs.declared.pass.Pass.{Pass}
use Rattle.turnstile.specs.History.{Entries, IsPrefix, AddsAlike, count_of}
use Rattle.turnstile.specs.Passes.{seen, mine, shares, tickets}
use Rattle.user_log.specs.Asked.{IsAnswer}
use Rattle.user_log.specs.Examining.{IsExamined}
use Rattle.user_log.specs.declared.examiner.Examined.{Examined}
use Rattle.user_log.specs.Replies.{reply_of}
use Rattle.user_log.specs.declared.reply.Reply.{Reply}
use Rattle.user_log.specs.declared.reply.Reply.TheVariants.{Mark, Broken, Memory}
use Rattle.user_desk.specs.Standings.{standing_of}
use Rattle.desk_counter.specs.declared.item.TurnItem.{TurnItem}
use Rattle.desk_counter.specs.declared.item.TurnItem.TheVariants.{Kept, Broke}
use Rattle.desk_counter.specs.declared.item.Fixed.{Fixed}
use Rattle.desk_counter.specs.Items.{history_of, kept_pairs, flying}
use Rattle.desk_counter.specs.Desks.{state_shown}

-- the item of the sentence that this text is
abbrev pub entry_for : Formula → base.Mark → Text → AnsweredQuery
entry_for query mark text = record { query = query; mark = mark; length = length text }

-- a reply that is no mark
abbrev pub NoMark : Reply → Type 0
NoMark (Mark mark) = ⊥
NoMark _ = Unit {0}

-- What a first turn, if one is made, does with a pass: it may have seen more, with none of its own
-- among that, and adds nothing.
pub record Looked {D : Type 0} (old new : Pass TurnItem (Fixed D)) : Type 0 where
  pub looked : Option ℕ
  pub drew : tickets new ≡ tickets old ++ option_to_list looked
  pub later : IsPrefix (seen old) (seen new)
  pub whole : shares old ≡ 65 → seen new ≡ seen old
  pub own : mine new ≡ mine old
  pub same_shares : shares new ≡ shares old

module _ {D : Type 0} (fixed : Fixed D) where
  -- a text was examined behind a beginning of these pairs, and so it was for all that begin with
  -- them
  abbrev pub IsExaminedBehind : Entries TurnItem → Text → Examined → Type 0
  IsExaminedBehind pairs text examined = (later : Entries TurnItem) → IsPrefix pairs later
      → IsExamined fixed.schema fixed.user (history_of later) text examined

  -- the desk that has these pairs serves its user, and no append failed
  abbrev pub IsServing : Entries TurnItem → Type 0
  IsServing pairs = (standing_of fixed.standing ≡ standing_open) × (flying pairs ≡ None)

  -- this sentence and this mark answer the call behind these pairs
  abbrev pub AnswersWith : Entries TurnItem → Purpose → Text → Formula → base.Mark → Type 0
  AnswersWith pairs purpose text query mark =
      IsAnswer fixed.schema fixed.world fixed.user (history_of pairs) purpose text query mark

  -- What a call adds to the pairs that it found: a mark adds its item, once; an append that fails
  -- adds that item as one in flight; a code and want of memory add nothing.
  pub data Adds (ticket : ℕ) (purpose : Purpose) (text : Text) (found after : Entries TurnItem) :
      Reply → Type 0 where
    answered : {query : Formula} {mark : base.Mark} → IsServing found
        → AnswersWith found purpose text query mark
        → after ≡ found ++ (ticket, Kept (entry_for query mark text)) ∷ []
        → Adds ticket purpose text found after (Mark mark)
    broke : {query : Formula} {mark : base.Mark} → IsServing found
        → AnswersWith found purpose text query mark
        → after ≡ found ++ (ticket, Broke (entry_for query mark text)) ∷ []
        → Adds ticket purpose text found after Broken
    coded : {code : Reply} → NoMark code
        → reply_at fixed.schema fixed.world fixed.user (state_shown fixed found) purpose text
        ≡ reply_of code → after ≡ found → Adds ticket purpose text found after code
    wanted : after ≡ found → Adds ticket purpose text found after Memory

  -- What a call does with a pass: it found pairs that begin with all that the pass had seen, and
  -- are all of that where the pass has all shares; what it added, with a ticket that is new to the
  -- pass, was then seen, and is the pass's own. It may have drawn a ticket more before, for a turn
  -- that added nothing.
  pub record Asked (old new : Pass TurnItem (Fixed D)) (purpose : Purpose) (text : Text)
      (reply : Reply) : Type 0 where
    pub ticket : ℕ
    pub looked : Option ℕ
    pub found : Entries TurnItem
    pub later : IsPrefix (seen old) found
    pub whole : shares old ≡ 65 → found ≡ seen old
    pub fresh : (x : ℕ) → ticket ≤ x → count_of x (tickets old) ≡ 0
    pub adds : Adds ticket purpose text found (seen new) reply
    pub own : AddsAlike found (seen new) (mine old) (mine new)
    pub drew : tickets new ≡ tickets old ++ option_to_list looked ++ ticket ∷ []

  -- What a call does with a pass in the turn that settles it: whatever it did with the pass before,
  -- if it only looked, the whole is what a call does.
  abbrev pub AskedBehind : Pass TurnItem (Fixed D) → Pass TurnItem (Fixed D) → Purpose → Text
      → Reply → Type 0
  AskedBehind mid new purpose text reply = (old : Pass TurnItem (Fixed D)) → Looked old mid
      → Asked old new purpose text reply

  -- the pairs without the last one
  abbrev pub all_but_last : Entries TurnItem → Entries TurnItem
  all_but_last [] = []
  all_but_last (p ∷ []) = []
  all_but_last (p ∷ q ∷ pairs) = p ∷ all_but_last (q ∷ pairs)

  -- the pairs that a reply is by: where it is a mark, those without the last one
  abbrev pub pairs_behind : Reply → Entries TurnItem → Entries TurnItem
  pairs_behind (Mark mark) pairs = all_but_last pairs
  pairs_behind _ pairs = pairs

  -- the reply is that to a call behind these pairs, or want of memory
  abbrev pub IsReply : Purpose → Text → Entries TurnItem → Reply → Type 0
  IsReply purpose text pairs reply = (reply ≡ Memory)
      ⊎ (reply_of reply
      ≡ reply_at fixed.schema fixed.world fixed.user
      (state_shown fixed (pairs_behind reply pairs)) purpose text)

  -- A mark was told: its item, with its text's sentence and length, is the last pair that was seen
  -- and the one that the pass has more of its own.
  pub record TellsEntry (old new : Pass TurnItem (Fixed D)) (text : Text) (mark : base.Mark) :
      Type 0 where
    pub ticket : ℕ
    pub entry : AnsweredQuery
    pub earlier : Entries TurnItem
    pub reads : reading fixed.schema text ≡ Ok entry.query
    pub marked : entry.mark ≡ mark
    pub size : entry.length ≡ length text
    pub last : seen new ≡ earlier ++ (ticket, Kept entry) ∷ []
    pub own : mine new ≡ mine old ++ (ticket, Kept entry) ∷ []
    pub later : IsPrefix (seen old) earlier
    pub whole : shares old ≡ 65 → earlier ≡ seen old

  -- a reply that is a mark tells it
  abbrev pub TellsMark : Pass TurnItem (Fixed D) → Pass TurnItem (Fixed D) → Text → Reply → Type 0
  TellsMark old new text (Mark mark) = TellsEntry old new text mark
  TellsMark old new text _ = Unit {0}

  -- No entry of the journal was added: the pass has no more of its own, and where it has all shares
  -- it has seen no more.
  pub record AddsNoEntry (old new : Pass TurnItem (Fixed D)) : Type 0 where
    pub own : kept_pairs (mine new) ≡ kept_pairs (mine old)
    pub whole : shares old ≡ 65 → kept_pairs (seen new) ≡ kept_pairs (seen old)
