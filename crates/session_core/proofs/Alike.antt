-- The same replies come in each world in which the history is legal.
use Rattle.std.proofs.Common.{◌≡◌, ℕ, Bool, true, false, List, ◌∷◌, ◌++◌, length, refl, sym, ap, subst, ◌∙◌}
use Rattle.std.specs.Prelude.{Option, Result, Ok, Err}
use Rattle.cqe_base.specs.declared.user.Mark.{Mark}
use Rattle.cqe_base.specs.declared.user.Purpose.TheVariants.{Asking}
use Rattle.cqe_base.specs.Schema.{DatabaseSchema, Text}
use Rattle.cqe_base.specs.Facts.{FactSet}
use Rattle.cqe_base.specs.Formula.{Formula}
use Rattle.cqe_base.specs.Reading.{Refusal, reading}
use Rattle.cqe_base.specs.History.{UserProfile, AnsweredQuery, History, is_added, user_at, log}
use Rattle.cqe_base.specs.Censor.{mark_after, RulesAddNone, IsLegal}
use Rattle.cqe_base.specs.Run.{Standing, standing_open, standing_closed, standing_sealed, Reply, marked, answer_by, is_full, is_too_large, reply_by, reply}
use Rattle.session_core.specs.Replied.{IsUnmarked, Replied, nothing, answered, coded, append_failed, wanted}
use Rattle.session_core.specs.Alike.{flight_in}

-- replies that are the same mark have it
same_mark : {a b : Mark} → marked a ≡ marked b → a ≡ b
same_mark is = cc

module _ (schema : DatabaseSchema) (world other : FactSet) (user : UserProfile) where
  -- the mark is the one of the rule, and in the other world the reply is the mark of the rule there
  abbrev Marks : History → Mark → Formula → Reply → Type 0
  Marks entries mark query told =
      (mark ≡ mark_after schema world user entries query) × (told ≡ marked (mark_after schema other user entries query))

  -- a reply to an ask that is a mark
  marks : (entries : History) (standing : Standing) (broke : Bool) (text : Text) (read : Result Formula Refusal) (query : Formula) (mark : Mark)
      → read ≡ Ok query → reply_by schema world user entries standing broke Asking text read ≡ marked mark
      → Marks entries mark query (reply_by schema other user entries standing broke Asking text read)
  marks entries standing_sealed broke text read query mark is said = absurd cc
  marks entries standing_closed broke text read query mark is said = absurd cc
  marks entries standing_open true text read query mark is said = absurd cc
  marks entries standing_open false text (Err refusal) query mark is said = absurd cc
  marks entries standing_open false text (Ok found) query mark is said =
      let same : found ≡ query = cc in
      subst (λ (q : Formula). Marks entries mark q (reply_by schema other user entries standing_open false Asking text (Ok found))) same
      (by (is_full entries (length text)) (is_too_large schema user entries found) said)
    where
      by : (full large : Bool) → answer_by full large (mark_after schema world user entries found) ≡ marked mark
          → Marks entries mark found (answer_by full large (mark_after schema other user entries found))
      by true large said = absurd cc
      by false true said = absurd cc
      by false false said = (sym (same_mark said), refl)

  -- a reply that is no mark looks at no world
  coded_there : (entries : History) (standing : Standing) (broke : Bool) (text : Text) (read : Result Formula Refusal) (code : Reply) → IsUnmarked code
      → reply_by schema world user entries standing broke Asking text read ≡ code
      → reply_by schema other user entries standing broke Asking text read ≡ code
  coded_there entries standing_sealed broke text read code none said = said
  coded_there entries standing_closed broke text read code none said = said
  coded_there entries standing_open true text read code none said = said
  coded_there entries standing_open false text (Err refusal) code none said = said
  coded_there entries standing_open false text (Ok query) code none said = by (is_full entries (length text)) (is_too_large schema user entries query) said
    where
      by : (full large : Bool) → answer_by full large (mark_after schema world user entries query) ≡ code
          → answer_by full large (mark_after schema other user entries query) ≡ code
      by true large said = said
      by false true said = said
      by false false said = absurd (subst IsUnmarked (sym said) none)

  module _ (adds_none : RulesAddNone) (standing : Standing) (history : History) (legal : IsLegal schema other user history) where
    -- an entry of the history has the same mark there
    marked_there : (before after : History) (entry : AnsweredQuery) (text : Text) → history ≡ before ++ entry ∷ after
        → reading schema text ≡ Ok entry.query → reply schema world user before standing false Asking text ≡ marked entry.mark
        → reply schema other user before standing false Asking text ≡ marked entry.mark
    marked_there before after entry text is read said =
        let both = marks before standing false text (reading schema text) entry.query entry.mark read said in
        let asked : is_added entry.mark ≡ false = ap (λ m. is_added m) both.0 ∙ adds_none schema world (user_at user before) (log user before) entry.query in
        both.1 ∙ ap (λ m. marked m) (sym ((legal before entry after is).has_mark asked))

    pub replied_alike : {broke : Bool} {least : ℕ} {failed : Bool} {asks : List (Text × Reply)} {entries : History} {in_flight : Option AnsweredQuery}
        → Replied schema world user standing history broke least failed asks entries in_flight
        → Replied schema other user standing history broke least failed asks entries (flight_in schema other user history in_flight)
    replied_alike (nothing within fails) = nothing within fails
    replied_alike (answered {text = text} before after entry least is read size answer rest) =
        answered before after entry least is read size (marked_there before after entry text is read answer) (replied_alike rest)
    replied_alike (coded {text = text} {code = code} before after now least is on whole none answer rest) =
        coded before after now least is on whole none (coded_there before standing now text (reading schema text) code none answer) (replied_alike rest)
    replied_alike (append_failed {text = text} entry least read size answer broken rest) =
        append_failed (record entry { mark = mark_after schema other user history entry.query }) least read size
        (marks history standing false text (reading schema text) entry.query entry.mark read answer).1 broken (replied_alike rest)
    replied_alike (wanted rest) = wanted (replied_alike rest)
