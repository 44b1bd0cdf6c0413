-- What a call answers, from what weighing its text found.
use Rattle.std.proofs.Common.{◌≡◌, Bool, true, false, [], ◌∷◌, ◌++◌, length, refl, sym, ap, ◌∙◌}
use Rattle.std.specs.Prelude.{Option, None, option_to_list, Ok}
use Rattle.std.proofs.lemmas.Grind.{common_steps}
use Rattle.std.proofs.Common.{arith}
use Rattle.cqe_base.specs.declared.user.Mark.{Mark}
use Rattle.cqe_base.specs.declared.user.Mark.TheVariants.{Protected}
use Rattle.cqe_base.specs.declared.user.Purpose.{Purpose}
use Rattle.cqe_base.specs.declared.user.Purpose.TheVariants.{Asking, Protecting}
use Rattle.cqe_base.specs.Schema.{DatabaseSchema, Text}
use Rattle.cqe_base.specs.Facts.{FactSet}
use Rattle.cqe_base.specs.Formula.{Formula}
use Rattle.cqe_base.specs.Reading.{reading}
use Rattle.cqe_base.specs.History.{UserProfile, AnsweredQuery, History}
use Rattle.cqe_base.specs.Censor.{mark_after, safe_after}
use Rattle.cqe_base.specs.Run.{marked, history_full, too_large, secrets_full, unsafe_secret, entry_added, reply_by, standing_open, is_full}
use Rattle.cqe_base.specs.Run.{is_too_large, is_too_large_secret, has_all_secrets, answer_by, protection_by}
use Rattle.user_log.specs.declared.reply.Reply.{Reply}
use Rattle.user_log.specs.declared.reply.Reply.TheVariants.{Full, Size, Secrets, Unsafe}
use Rattle.user_log.specs.declared.reply.Weighed.TheVariants.{Code}
use Rattle.user_log.specs.Replies.{reply_of}
use Rattle.user_log.specs.Asked.{IsAnswer, IsWeighed, IsAsked, answered, open_reply}

append_none : (entries : History) (added : Option AnsweredQuery) → added ≡ None → entries ≡ entries ++ option_to_list added
append_none entries added none = grind (arith, common_steps)

pub code_asked : (schema : DatabaseSchema) (world : FactSet) (user : UserProfile) (entries : History) (purpose : Purpose) (text : Text)
    (code : Reply) → (reply_of code ≡ open_reply schema world user entries purpose text) × (entry_added text (reading schema text) (reply_of code) ≡ None)
    → IsAsked schema world user entries entries purpose text (reply_of code)
code_asked schema world user entries purpose text code is =
    answered is.0 (append_none entries (entry_added text (reading schema text) (reply_of code)) is.1)

pub mark_asked : (schema : DatabaseSchema) (world : FactSet) (user : UserProfile) (old new : History) (purpose : Purpose) (text : Text)
    (query : Formula) (mark : Mark) → IsAnswer schema world user old purpose text query mark
    → new ≡ old ++ record { query = query; mark = mark; length = length text } ∷ []
    → IsAsked schema world user old new purpose text (marked mark)
mark_asked schema world user old new purpose text query mark is added =
    answered (sym is.answer) (added ∙ ap (λ read. old ++ option_to_list (entry_added text read (marked mark))) (sym is.read))

-- ---- a text that reads as a sentence

module _
    (schema : DatabaseSchema) (world : FactSet) (user : UserProfile) (entries : History) (text : Text) (query : Formula)
    (read : reading schema text ≡ Ok query)
  where
    -- the reply to it as a query, by the sizes
    replied : (full large : Bool) → is_full entries (length text) ≡ full → is_too_large schema user entries query ≡ large
        → open_reply schema world user entries Asking text ≡ answer_by full large (mark_after schema world user entries query)
    replied full large f l =
        let mark = mark_after schema world user entries query in
        ap (reply_by schema world user entries standing_open false Asking text) read
        ∙ ap (λ b. answer_by b (is_too_large schema user entries query) mark) f
        ∙ ap (λ b. answer_by full b mark) l

    pub full_weighed : is_full entries (length text) ≡ true → IsWeighed schema world user entries Asking text (Code Full)
    full_weighed full = (
      sym (replied true (is_too_large schema user entries query) full refl),
      ap (λ r. entry_added text r history_full) read,
    )

    pub large_weighed : is_full entries (length text) ≡ false → is_too_large schema user entries query ≡ true
        → IsWeighed schema world user entries Asking text (Code Size)
    large_weighed full large = (sym (replied false true full large), ap (λ r. entry_added text r too_large) read)

    pub answer_weighed : (mark : Mark) → is_full entries (length text) ≡ false → is_too_large schema user entries query ≡ false
        → mark ≡ mark_after schema world user entries query → IsAnswer schema world user entries Asking text query mark
    answer_weighed mark full large is = record { read = read; answer = replied false false full large ∙ ap marked (sym is) }

    -- the reply to it as a sentence that is to be added, by the sizes and the probe
    guarded_reply : (full large many safe : Bool) → is_full entries (length text) ≡ full → is_too_large_secret schema user entries query ≡ large
        → has_all_secrets user entries ≡ many → safe_after schema user entries query ≡ safe
        → open_reply schema world user entries Protecting text ≡ protection_by full large many safe
    guarded_reply full large many safe f l m s =
        ap (reply_by schema world user entries standing_open false Protecting text) read
        ∙ ap (λ b. protection_by b (is_too_large_secret schema user entries query) (has_all_secrets user entries) (safe_after schema user entries query)) f
        ∙ ap (λ b. protection_by full b (has_all_secrets user entries) (safe_after schema user entries query)) l
        ∙ ap (λ b. protection_by full large b (safe_after schema user entries query)) m
        ∙ ap (λ b. protection_by full large many b) s

    pub full_guarded : is_full entries (length text) ≡ true → IsWeighed schema world user entries Protecting text (Code Full)
    full_guarded full = (
      sym (guarded_reply true (is_too_large_secret schema user entries query) (has_all_secrets user entries) (safe_after schema user entries query) full refl
          refl refl),
      ap (λ r. entry_added text r history_full) read,
    )

    pub large_guarded : is_full entries (length text) ≡ false → is_too_large_secret schema user entries query ≡ true
        → IsWeighed schema world user entries Protecting text (Code Size)
    large_guarded full large = (
      sym (guarded_reply false true (has_all_secrets user entries) (safe_after schema user entries query) full large refl refl),
      ap (λ r. entry_added text r too_large) read,
    )

    pub many_guarded : is_full entries (length text) ≡ false → is_too_large_secret schema user entries query ≡ false → has_all_secrets user entries ≡ true
        → IsWeighed schema world user entries Protecting text (Code Secrets)
    many_guarded full large many = (
      sym (guarded_reply false false true (safe_after schema user entries query) full large many refl),
      ap (λ r. entry_added text r secrets_full) read,
    )

    pub unsafe_guarded : is_full entries (length text) ≡ false → is_too_large_secret schema user entries query ≡ false → has_all_secrets user entries ≡ false
        → safe_after schema user entries query ≡ false → IsWeighed schema world user entries Protecting text (Code Unsafe)
    unsafe_guarded full large many safe = (
      sym (guarded_reply false false false false full large many safe),
      ap (λ r. entry_added text r unsafe_secret) read,
    )

    pub safe_guarded : is_full entries (length text) ≡ false → is_too_large_secret schema user entries query ≡ false → has_all_secrets user entries ≡ false
        → safe_after schema user entries query ≡ true → IsAnswer schema world user entries Protecting text query Protected
    safe_guarded full large many safe = record { read = read; answer = guarded_reply false false false true full large many safe }
