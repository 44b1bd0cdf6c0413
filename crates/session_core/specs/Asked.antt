-- One request of a session.
use Rattle.std.specs.Prelude.{◌≡◌, ℕ, ◌≤◌, List, ◌++◌, length, Option, Some, OnOk, OnErr}
use Rattle.std.specs.Prelude.{Result, codes}
use Rattle.outside.specs.Streams.{AppendsPart}
use Rattle.cqe_base.specs.Schema.{DatabaseSchema, Text}
use Rattle.cqe_base.specs.Run.{Reply}
use Rattle.cqe_base.specs.declared.user.User.{User}
use Rattle.turnstile.specs.declared.pass.Pass.{Pass}
use Rattle.desk_counter.specs.declared.item.TurnItem.{TurnItem}
use Rattle.desk_counter.specs.declared.item.Fixed.{Fixed}
use Rattle.open_queries.specs.Instances.{OpenQuery}
use Rattle.line_protocol.specs.Replies.{text_of}
use Rattle.line_protocol.specs.Requests.{LineRequest, login_as, ask_for, list_for, quit_session}
use Rattle.line_protocol.specs.Requests.{other_line}
use Rattle.session_core.specs.declared.session.Answer.{Answer}
use Rattle.session_core.specs.declared.session.Answer.TheVariants.{Line, Lines}
use Rattle.session_core.specs.Lists.{SaysInstance}
use Rattle.session_core.specs.Talks.{Says}
use Rattle.session_core.specs.Desks.{AsksAt, AsksOf}

-- what is asked has at most 4,096 bytes, and one to four quantifiers are opened
abbrev pub IsWithin : LineRequest → Type 0
IsWithin (login_as user phrase) = Unit {0}
IsWithin (ask_for text) = length text ≤ 4096
IsWithin (list_for count text) = (1 ≤ count) × (count ≤ 4) × (length text ≤ 4096)
IsWithin quit_session = Unit {0}
IsWithin other_line = Unit {0}

module _ {D : Type 0} where
  -- a request was replied to by this text, and the pass of who was logged in was used for what he
  -- asked
  pub record Replies (users : List User) (fixeds : List (Fixed D)) (who : Option ℕ)
      (request : LineRequest) (next : Option ℕ) (text : Text)
      (old new : List (Pass TurnItem (Fixed D))) : Type 0 where
    pub asked : List (Text × Reply)
    pub says : Says users who request next asked text
    pub used : AsksOf who fixeds old new asked

  -- the request is a list of who is logged in, of which nothing was asked yet
  pub record IsListBy (who : Option ℕ) (request : LineRequest) (next : Option ℕ)
      (place count : ℕ) (text : Text) (old new : List (Pass TurnItem (Fixed D))) : Type 0 where
    pub who_is : who ≡ Some place
    pub next_is : next ≡ Some place
    pub request_is : request ≡ list_for count text
    pub same : new ≡ old

  -- what an Answer in memory says of its request
  abbrev pub RepliesBy : List User → List (Fixed D) → Option ℕ → LineRequest → Option ℕ → Answer
      → List (Pass TurnItem (Fixed D)) → List (Pass TurnItem (Fixed D)) → Type 0
  RepliesBy users fixeds who request next (Line reply) old new =
      Replies users fixeds who request next (text_of reply) old new
  RepliesBy users fixeds who request next (Lines place count text) old new =
      IsListBy who request next place count text.now old new

  -- an instance was asked at a place, and its line was written, or a part of that
  pub record IsInstanceSaid {T E : Type 0} (sink_tells : Type 0) (schema : DatabaseSchema)
      (query : OpenQuery) (number place : ℕ) (fixeds : List (Fixed D)) (wrote : Result T E)
      (old new : List (Pass TurnItem (Fixed D))) (before after : List ℕ) : Type 0 where
    pub asked : List (Text × Reply)
    pub text : Text
    pub said : SaysInstance schema query number asked text
    pub used : AsksAt place fixeds old new asked
    pub all : sink_tells → OnOk wrote (after ≡ before ++ (text ++ codes "\n"))
    pub part : sink_tells → OnErr wrote (AppendsPart before after (text ++ codes "\n"))
