-- What a call answers, and what it adds.
use Rattle.std.specs.Prelude.{◌≡◌, ◌++◌, false, Ok, None, option_to_list}
use Rattle.cqe_base.specs.declared.user.Mark.{Mark}
use Rattle.cqe_base.specs.declared.user.Purpose.{Purpose}
use Rattle.cqe_base.specs.Schema.{DatabaseSchema, Text}
use Rattle.cqe_base.specs.Facts.{FactSet}
use Rattle.cqe_base.specs.Formula.{Formula, formula_of}
use Rattle.cqe_base.specs.Reading.{reading}
use Rattle.cqe_base.specs.History.{UserProfile, History}
use Rattle.cqe_base.specs.Run
use Rattle.cqe_base.specs.Run.{reply, standing_open, marked, entry_added, no_memory}
use Rattle.user_log.specs.declared.reply.Weighed.{Weighed}
use Rattle.user_log.specs.declared.reply.Weighed.TheVariants.{Code, Answer}
use Rattle.user_log.specs.Replies.{reply_of}

-- the reply of an open desk whose journal is whole
abbrev pub open_reply : DatabaseSchema → FactSet → UserProfile → History → Purpose → Text
    → Run.Reply
open_reply schema world user entries purpose text =
    reply schema world user entries standing_open false purpose text

-- a text is this sentence, and this mark answers the call
pub record IsAnswer (schema : DatabaseSchema) (world : FactSet) (user : UserProfile)
    (entries : History) (purpose : Purpose) (text : Text) (query : Formula) (mark : Mark) :
    Type 0 where
  pub read : reading schema text ≡ Ok query
  pub answer : open_reply schema world user entries purpose text ≡ marked mark

-- a mark answers a call of some purpose
abbrev pub IsSomeAnswer : DatabaseSchema → FactSet → UserProfile → History → Text → Formula → Mark
    → Type 0
IsSomeAnswer schema world user entries text query mark =
    (purpose : Purpose) × IsAnswer schema world user entries purpose text query mark

-- a text was weighed: a code answers the call, or the text is a sentence and a mark does
abbrev pub IsWeighed : DatabaseSchema → FactSet → UserProfile → History → Purpose → Text → Weighed
    → Type 0
IsWeighed schema world user entries purpose text (Code code) =
    (reply_of code ≡ open_reply schema world user entries purpose text)
    × (entry_added text (reading schema text) (reply_of code) ≡ None)
IsWeighed schema world user entries purpose text (Answer query mark) =
    IsAnswer schema world user entries purpose text (formula_of query) mark

-- a call was answered: by want of memory, which changes nothing, or by its reply, and a mark has
-- added its item
pub data IsAsked (schema : DatabaseSchema) (world : FactSet) (user : UserProfile)
    (old new : History) (purpose : Purpose) (text : Text) : Run.Reply → Type 0 where
  wanted : new ≡ old → IsAsked schema world user old new purpose text no_memory
  answered : {told : Run.Reply} → told ≡ open_reply schema world user old purpose text
      → new ≡ old ++ option_to_list (entry_added text (reading schema text) told)
      → IsAsked schema world user old new purpose text told
