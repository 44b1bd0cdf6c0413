-- The lines of a list.
use Rattle.std.specs.Prelude.{◌≡◌, ℕ, suc, ◌<◌, Bool, true, false, List, [], ◌∷◌, ◌++◌}
use Rattle.std.specs.List.{flat_map}
use Rattle.cqe_base.specs.Schema.{DatabaseSchema, Text}
use Rattle.cqe_base.specs.declared.sentence.Constant.{Constant}
use Rattle.cqe_base.specs.Run.{Reply}
use Rattle.cqe_base.specs.Transcript.{reply_text}
use Rattle.cqe_base.specs.Canonical.{constant_name}
use Rattle.open_queries.specs.declared.error.OpenQueryError.{OpenQueryError}
use Rattle.open_queries.specs.declared.error.OpenQueryError.TheVariants as errors
use Rattle.open_queries.specs.Instances.{OpenQuery, instances, constants_of_instance, instance_text}
use Rattle.open_queries.specs.Opening.{IsOpened, IsRefused}
use Rattle.line_protocol.specs.Replies.{text_of, spaced}
use Rattle.line_protocol.specs.declared.reply.Reply as lines
use Rattle.line_protocol.specs.declared.reply.Reply.TheVariants.{Syntax, Code, Shape, Done}

-- the reply to a list that isn't opened
abbrev pub refusal_reply : OpenQueryError → lines.Reply
refusal_reply (errors.Text refusal) = Syntax refusal.kind refusal.place
refusal_reply (errors.Shape number) = Shape number
refusal_reply errors.Memory = Code 50

module _ (schema : DatabaseSchema) where
  -- the names of constants, each with one blank behind it
  abbrev pub names_of : List Constant → Text
  names_of constants = flat_map (λ c. spaced (constant_name schema c)) constants

  -- those of an instance's constants
  abbrev pub instance_names : OpenQuery → ℕ → Text
  instance_names query number = names_of (constants_of_instance schema query number)

  -- The line of an instance: its names, and the reply to the ask of its text. Where memory is
  -- wanting for the text, nothing is asked, and the line is `error 50`.
  pub data SaysInstance (query : OpenQuery) (number : ℕ) : List (Text × Reply) → Text
      → Type 0 where
    answered : {reply : Reply}
        → SaysInstance query number ((instance_text schema query number, reply) ∷ [])
        (instance_names query number ++ reply_text reply)
    no_text : SaysInstance query number [] (text_of (Code 50))

  -- The lines from this instance on, and what they ask: one for each instance, and then how many
  -- there are. The last part says whether they are all; else it was broken off behind an instance.
  pub data SaysInstances (query : OpenQuery) : ℕ → List (Text × Reply) → List Text → Bool
      → Type 0 where
    done : SaysInstances query (instances schema query) []
        (text_of (Done (instances schema query)) ∷ []) true
    broken_off : {number : ℕ} {asked : List (Text × Reply)} {text : Text}
        → number < instances schema query → SaysInstance query number asked text
        → SaysInstances query number asked (text ∷ []) false
    next : {number : ℕ} {asked asks : List (Text × Reply)} {text : Text} {texts : List Text}
        {to_end : Bool}
        → SaysInstance query number asked text → SaysInstances query (suc number) asks texts to_end
        → SaysInstances query number (asked ++ asks) (text ∷ texts) to_end

  -- The lines of a list: those of its instances from the first on, or the one that refuses it.
  pub data Lists (count : ℕ) (text : Text) : List (Text × Reply) → List Text → Bool
      → Type 0 where
    refused : {error : OpenQueryError} → IsRefused schema count text error
        → Lists count text [] (text_of (refusal_reply error) ∷ []) true
    opened : {query : OpenQuery} {asks : List (Text × Reply)} {texts : List Text} {to_end : Bool}
        → IsOpened schema count text query → SaysInstances query 0 asks texts to_end
        → Lists count text asks texts to_end
