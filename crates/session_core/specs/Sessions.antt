-- A session: the lines that were read, the lines that were written, and the passes before and
-- after.
use Rattle.std.specs.Prelude.{◌≡◌, ◌≢◌, ℕ, ◌≤◌, ◌<◌, Bool, true, List, [], ◌∷◌, ◌++◌, length}
use Rattle.std.specs.Prelude.{Option, None, Result, OnOk, OnErr}
use Rattle.std.specs.List.{list_all}
use Rattle.cqe_base.specs.Schema.{Text}
use Rattle.cqe_base.specs.Lines.{text_lines}
use Rattle.cqe_base.specs.Run.{Reply}
use Rattle.cqe_base.specs.declared.user.User.{User}
use Rattle.turnstile.specs.declared.pass.Pass.{Pass}
use Rattle.line_protocol.specs.Requests.{quit_session, request_of}
use Rattle.desk_counter.specs.declared.item.TurnItem.{TurnItem}
use Rattle.desk_counter.specs.declared.item.Fixed.{Fixed}
use Rattle.session_core.specs.Heard.{HeardLine, heard, overlong, goes_on, session_lines}
use Rattle.session_core.specs.Talks.{Talks, written_lines, IsCut}
use Rattle.session_core.specs.Desks.{AsksOf, schemas_of}
use Rattle.session_core.specs.Members.{AreDesksOf}
use Rattle.session_core.specs.declared.session.Ended.{Ended}
use Rattle.session_core.specs.declared.session.Ended.TheVariants.{Quit, InputEnd, TooLong, TooMany}
use Rattle.session_core.specs.declared.session.Ended.TheVariants.{ReadFault, WriteFault}

-- What each end says of the lines that were answered: they are all that a session hears of the
-- bytes, up to the word that ends it, the longer line, the end of the input or the greatest number;
-- where a stream failed, the first of these.
abbrev pub Hears : Ended → List ℕ → List HeardLine → Type 0
Hears Quit bytes lines = (lines ≡ session_lines bytes) × (front : List HeardLine) × (line : Text)
    × (lines ≡ front ++ heard line ∷ []) × (request_of line ≡ quit_session)
Hears InputEnd bytes lines = (lines ≡ session_lines bytes) × (list_all goes_on lines ≡ true)
    × (length lines ≡ length (text_lines bytes))
Hears TooLong bytes lines =
    (lines ≡ session_lines bytes) × (front : List HeardLine) × (lines ≡ front ++ overlong ∷ [])
Hears TooMany bytes lines = (lines ≡ session_lines bytes) × (list_all goes_on lines ≡ true)
Hears ReadFault bytes lines = (rest : List HeardLine) × (session_lines bytes ≡ lines ++ rest)
Hears WriteFault bytes lines = (rest : List HeardLine) × (session_lines bytes ≡ lines ++ rest)

-- How many lines were answered, whatever the source tells: the greatest number, behind which the
-- session ends; fewer where the input ends or the source fails; and never more.
abbrev pub Counts : Ended → ℕ → Type 0
Counts Quit count = count ≤ 100000
Counts InputEnd count = count < 100000
Counts TooLong count = count ≤ 100000
Counts TooMany count = count ≡ 100000
Counts ReadFault count = count < 100000
Counts WriteFault count = count ≤ 100000

-- What was written: a line for each text; where the sink failed, of the last one only a part.
abbrev pub Writes : Ended → List ℕ → List ℕ → List Text → Type 0
Writes WriteFault old new texts = (written : List ℕ) × IsCut texts written × (new ≡ old ++ written)
Writes Quit old new texts = new ≡ old ++ written_lines texts
Writes InputEnd old new texts = new ≡ old ++ written_lines texts
Writes TooLong old new texts = new ≡ old ++ written_lines texts
Writes TooMany old new texts = new ≡ old ++ written_lines texts
Writes ReadFault old new texts = new ≡ old ++ written_lines texts

-- What a call wrote, where it may stop at each line that the sink refuses: all lines of these asks,
-- or the first of them, of the last one only a part.
pub record Spoken {T E : Type 0} (sink_tells : Type 0)
    (Says : List (Text × Reply) → List Text → Bool → Type 0) (Uses : List (Text × Reply) → Type 0)
    (wrote : Result T E) (before after : List ℕ) : Type 0 where
  pub asked : List (Text × Reply)
  pub texts : List Text
  pub to_end : Bool
  pub said : Says asked texts to_end
  pub used : Uses asked
  pub whole : OnOk wrote (to_end ≡ true)
  pub all : sink_tells → OnOk wrote (after ≡ before ++ written_lines texts)
  pub part : sink_tells → OnErr wrote (Writes WriteFault before after texts)

-- A session of these users, each at the desk that is his, where the source tells its bytes and the
-- sink what was written. Where the sink failed, the last line may be a list that was broken off.
pub record Session {D : Type 0} (source_tells sink_tells : Type 0) (users : List User)
    (fixeds : List (Fixed D)) (ended : Ended) (bytes : List ℕ)
    (old new : List (Pass TurnItem (Fixed D))) (before after : List ℕ) : Type 0 where
  pub own : AreDesksOf users fixeds
  pub lines : List HeardLine
  pub who : Option ℕ
  pub asks : List (Text × Reply)
  pub texts : List Text
  pub to_end : Bool
  pub talks : Talks users (schemas_of fixeds) None lines who asks texts to_end
  pub desks : AsksOf who fixeds old new asks
  pub whole : ended ≢ WriteFault → to_end ≡ true
  pub counted : Counts ended (length lines)
  pub hears : source_tells → Hears ended bytes lines
  pub writes : sink_tells → Writes ended before after texts
