-- What was examined in between two turns.
use Rattle.std.proofs.Common.{◌≡◌, sym, ap, ◌∙◌, subst}
use Rattle.std.specs.Prelude.{Option, Some, None, IfSome}
use Rattle.cqe_base.specs.Schema.{DatabaseSchema, Text}
use Rattle.cqe_base.specs.History.{UserProfile}
use Rattle.turnstile.specs.History.{Entries, IsPrefix}
use Rattle.user_log.specs.Examining.{IsFirstPart, IsExamined}
use Rattle.user_log.specs.declared.examiner.Examined.{Examined}
use Rattle.desk_counter.specs.declared.item.TurnItem.{TurnItem}
use Rattle.desk_counter.specs.declared.item.Fixed.{Fixed}
use Rattle.desk_counter.specs.Items.{history_of}
use Rattle.desk_counter.specs.Asks.{IsExaminedBehind}
use Rattle.desk_counter.proofs.Pairs.{history_all}

-- the history of pairs is a first part of that of pairs that begin with them
pub first_behind : (pairs later : Entries TurnItem) → IsPrefix pairs later → IsFirstPart (history_of pairs) (history_of later)
first_behind pairs later prefix = (history_of prefix.0, ap history_of prefix.1 ∙ history_all pairs prefix.0)

-- what was examined for each later history was so behind these pairs
pub examined_behind : {D : Type 0} (kept : Fixed D) (pairs : Entries TurnItem) (text : Text) (examined : Option Examined) (schema : DatabaseSchema)
    (user : UserProfile) → schema ≡ kept.schema → user ≡ kept.user
    → ((later : Entries TurnItem) → IsPrefix pairs later → IfSome examined (IsExamined schema user (history_of later) text))
    → IfSome examined (IsExaminedBehind kept pairs text)
examined_behind kept pairs text None schema user same_schema same_user found = tt
examined_behind kept pairs text (Some examined) schema user same_schema same_user found =
    λ later prefix. subst (λ s. IsExamined s kept.user (history_of later) text examined) same_schema
    (subst (λ u. IsExamined schema u (history_of later) text examined) same_user (found later prefix))

-- what was examined behind some pairs was so for the pairs of a later turn
pub examined_later : {D : Type 0} (kept fixed : Fixed D) (pairs later : Entries TurnItem) (text : Text) (examined : Option Examined) → fixed ≡ kept
    → IsPrefix pairs later → IfSome examined (IsExaminedBehind kept pairs text)
    → IfSome examined (IsExamined fixed.schema fixed.user (history_of later) text)
examined_later kept fixed pairs later text None same prefix found = tt
examined_later {D = D} kept fixed pairs later text (Some examined) same prefix found =
    subst (λ (f : Fixed D). IsExamined f.schema f.user (history_of later) text examined) (sym same) (found later prefix)
