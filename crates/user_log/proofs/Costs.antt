-- A mark of the rule, and the reply to a text, are undecided by cost alone.
use Rattle.std.proofs.Common.{◌≡◌, false, sym, ◌∙◌}
use Rattle.std.specs.Prelude.{Result, Ok, Err, None, IfOk}
use Rattle.cqe_base.specs.declared.user.Mark.{Mark}
use Rattle.cqe_base.specs.declared.user.Purpose.TheVariants.{Asking, Protecting}
use Rattle.cqe_base.specs.Schema.{DatabaseSchema, Text}
use Rattle.cqe_base.specs.Facts.{FactSet}
use Rattle.cqe_base.specs.Formula.{Formula}
use Rattle.cqe_base.specs.Reading.{Refusal, reading}
use Rattle.cqe_base.specs.History.{UserProfile, History, user_at, log}
use Rattle.cqe_base.specs.Run.{marked, entry_added, reply_by, standing_open}
use Rattle.cqe_base.specs.Censor.{mark_after}
use Rattle.censors.specs.Costs.{UndecidedIsCost}
use Rattle.user_log.specs.declared.reply.Reply.{Reply}
use Rattle.user_log.specs.declared.reply.Reply.TheVariants as reply
use Rattle.user_log.specs.declared.reply.Weighed.{Weighed}
use Rattle.user_log.specs.Asked.{IsAnswer, open_reply}
use Rattle.user_log.specs.Replies.{reply_of}
use Rattle.user_log.specs.Undecided.{IsMarkByCost, IsUndecidedByCost, IsReplyByCost}

pub mark_by_cost : UndecidedIsCost → (schema : DatabaseSchema) (world : FactSet) (user : UserProfile) (entries : History) (query : Formula) (mark : Mark)
    → mark ≡ mark_after schema world user entries query → IsMarkByCost schema user entries query mark
mark_by_cost law schema world user entries query mark is =
    let both = law schema world (user_at user entries) (log user entries) query in
    (λ h. both.0 (sym is ∙ h), λ h. is ∙ both.1 h)

-- nothing is said of one that is added
pub added_by_cost : {E : Type 0} (schema : DatabaseSchema) (user : UserProfile) (entries : History) (weighed : Result Weighed E)
    → IfOk weighed (IsUndecidedByCost schema user entries Protecting)
added_by_cost schema user entries (Ok weighed) = tt
added_by_cost schema user entries (Err failed) = tt

module _
    (schema : DatabaseSchema) (world : FactSet) (user : UserProfile) (entries : History) (text : Text)
  where
    -- a mark that replies adds an entry
    adds : (mark : Mark) (read : Result Formula Refusal)
        → marked mark ≡ reply_by schema world user entries standing_open false Asking text read
        → entry_added text read (marked mark) ≡ None → ⊥
    adds mark (Ok query) told none = cc
    adds mark (Err refusal) told none = cc

    -- so a code that adds none is no mark
    pub code_by_cost : (code : Reply)
        → (reply_of code ≡ open_reply schema world user entries Asking text)
        × (entry_added text (reading schema text) (reply_of code) ≡ None)
        → IsReplyByCost schema user entries text code
    code_by_cost (reply.Mark mark) is = absurd (adds mark (reading schema text) is.0 is.1)
    code_by_cost (reply.Syntax refusal) is = tt
    code_by_cost reply.Full is = tt
    code_by_cost reply.Size is = tt
    code_by_cost reply.Closed is = tt
    code_by_cost reply.Sealed is = tt
    code_by_cost reply.Broken is = tt
    code_by_cost reply.Memory is = tt
    code_by_cost reply.Secrets is = tt
    code_by_cost reply.Unsafe is = tt

    -- and a mark that answers a query is undecided by the cost of that
    pub answer_by_cost : (query : Formula) (mark : Mark)
        → IsAnswer schema world user entries Asking text query mark
        → IsMarkByCost schema user entries query mark
        → IsReplyByCost schema user entries text (reply.Mark mark)
    answer_by_cost query mark is cost = (query, is.read, cost)
