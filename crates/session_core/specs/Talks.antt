-- What is said to the lines of a session.
use Rattle.std.specs.Prelude.{◌≡◌, ℕ, suc, Bool, true, false, List, [], ◌∷◌, ◌++◌, codes, bytes_eq}
use Rattle.std.specs.Prelude.{string_bytes, Option, Some, None, slice_get}
use Rattle.std.specs.List.{flat_map}
use Rattle.outside.specs.Streams.{AppendsPart}
use Rattle.cqe_base.specs.Schema.{DatabaseSchema, Text}
use Rattle.cqe_base.specs.Run.{Reply}
use Rattle.cqe_base.specs.Transcript.{reply_text}
use Rattle.cqe_base.specs.declared.user.User.{User}
use Rattle.line_protocol.specs.Logins.{MayLogIn}
use Rattle.line_protocol.specs.Replies.{text_of}
use Rattle.line_protocol.specs.declared.reply.Reply.TheVariants.{Code, Welcome, Bye}
use Rattle.line_protocol.specs.Requests.{LineRequest, login_as, ask_for, list_for, quit_session}
use Rattle.line_protocol.specs.Requests.{other_line}
use Rattle.session_core.specs.Heard.{HeardLine, request_in}
use Rattle.session_core.specs.Lists.{Lists}

-- whether a user has this name
abbrev pub is_named : Text → User → Bool
is_named name user = bytes_eq (string_bytes user.name) name

-- The first user of this name, at his place, may log in with the phrase.
pub data LogsIn (name phrase : Text) : List User → ℕ → Type 0 where
  here : {user : User} {others : List User} → is_named name user ≡ true → MayLogIn user phrase
      → LogsIn name phrase (user ∷ others) 0
  further : {user : User} {others : List User} {place : ℕ} → is_named name user ≡ false
      → LogsIn name phrase others place → LogsIn name phrase (user ∷ others) (suc place)

module _ (users : List User) where
  -- nobody logs in with this name and this phrase
  abbrev pub NobodyLogsIn : Text → Text → Type 0
  NobodyLogsIn name phrase = (place : ℕ) → LogsIn name phrase users place → ⊥

  -- What is said to a request in one line, who is logged in before and after, by his place, and
  -- what he asked with its reply. The reply to an ask is free here.
  pub data Says : Option ℕ → LineRequest → Option ℕ → List (Text × Reply) → Text → Type 0 where
    welcome : {name phrase : Text} {place : ℕ} → LogsIn name phrase users place
        → Says None (login_as name phrase) (Some place) [] (text_of Welcome)
    no_login : {name phrase : Text} → NobodyLogsIn name phrase
        → Says None (login_as name phrase) None [] (text_of (Code 25))
    logged_in : {name phrase : Text} {place : ℕ}
        → Says (Some place) (login_as name phrase) (Some place) [] (text_of (Code 26))
    not_yet : {text : Text} → Says None (ask_for text) None [] (text_of (Code 25))
    replied : {text : Text} {place : ℕ} {reply : Reply}
        → Says (Some place) (ask_for text) (Some place) ((text, reply) ∷ []) (reply_text reply)
    not_listed : {count : ℕ} {text : Text}
        → Says None (list_for count text) None [] (text_of (Code 25))
    bye : {who : Option ℕ} → Says who quit_session who [] (text_of Bye)
    unknown : {who : Option ℕ} → Says who other_line who [] (text_of (Code 26))

  -- The schema of each user's desk, in order.
  module _ (schemas : List DatabaseSchema) where
    -- What is said to a request: one line, or to a list of who is logged in its lines, which may be
    -- broken off.
    pub data Answers : Option ℕ → LineRequest → Option ℕ → List (Text × Reply) → List Text → Bool
        → Type 0 where
      one_line : {who next : Option ℕ} {request : LineRequest} {asked : List (Text × Reply)}
          {text : Text} → Says who request next asked text
          → Answers who request next asked (text ∷ []) true
      listed : {place count : ℕ} {schema : DatabaseSchema} {text : Text}
          {asked : List (Text × Reply)} {texts : List Text} {to_end : Bool}
          → slice_get schemas place ≡ Some schema → Lists schema count text asked texts to_end
          → Answers (Some place) (list_for count text) (Some place) asked texts to_end

    -- What is said to lines, one after the other, and whether the last of them was answered to its
    -- end.
    pub data Talks : Option ℕ → List HeardLine → Option ℕ → List (Text × Reply) → List Text → Bool
        → Type 0 where
      silent : {who : Option ℕ} → Talks who [] who [] [] true
      line : {who next last : Option ℕ} {heard : HeardLine} {lines : List HeardLine}
          {asked asks : List (Text × Reply)} {said texts : List Text} {to_end : Bool}
          → Answers who (request_in heard) next asked said true
          → Talks next lines last asks texts to_end
          → Talks who (heard ∷ lines) last (asked ++ asks) (said ++ texts) to_end
      broken_off : {who last : Option ℕ} {heard : HeardLine} {asked : List (Text × Reply)}
          {said : List Text} → Answers who (request_in heard) last asked said false
          → Talks who (heard ∷ []) last asked said false

-- the lines that were written: each text with a line feed
abbrev pub written_lines : List Text → List ℕ
written_lines texts = flat_map (λ text. text ++ codes "\n") texts

-- What was written where the sink failed: the lines of all texts but the last, and of that one a
-- part. So nothing was answered behind a line that wasn't written.
pub record IsCut (texts : List Text) (written : List ℕ) : Type 0 where
  pub front : List Text
  pub last : Text
  pub split : texts ≡ front ++ last ∷ []
  pub part : AppendsPart (written_lines front) written (last ++ codes "\n")
