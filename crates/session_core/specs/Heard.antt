-- The lines that a session hears.
use Rattle.std.specs.Prelude.{ℕ, Bool, true, false, not, List, [], ◌∷◌, take, if◌then◌else◌}
use Rattle.cqe_base.specs.Schema.{Text}
use Rattle.cqe_base.specs.Lines.{TextLine, text_lines, content, is_too_long}
use Rattle.line_protocol.specs.Requests.{LineRequest, login_as, ask_for, list_for, quit_session}
use Rattle.line_protocol.specs.Requests.{other_line, request_of}

-- a line: of at most 4,096 bytes, with its content, or longer
pub data HeardLine : Type 0 where
  heard : (line : Text) → HeardLine
  overlong : HeardLine

-- its request; that of a longer one is no word of the protocol
abbrev pub request_in : HeardLine → LineRequest
request_in (heard line) = request_of line
request_in overlong = other_line

-- whether a request ends the session
abbrev pub is_quit : LineRequest → Bool
is_quit (login_as user phrase) = false
is_quit (ask_for text) = false
is_quit (list_for count text) = false
is_quit quit_session = true
is_quit other_line = false

-- whether the session goes on behind a line
abbrev pub goes_on : HeardLine → Bool
goes_on (heard line) = not (is_quit (request_of line))
goes_on overlong = false

-- a line of the bytes, as it is heard
abbrev pub heard_as : TextLine → HeardLine
heard_as line = if is_too_long line then overlong else heard (content line)

-- the lines up to the first behind which the session doesn't go on
abbrev pub heard_lines : List TextLine → List HeardLine
heard_lines [] = []
heard_lines (line ∷ lines) =
    heard_as line ∷ (if goes_on (heard_as line) then heard_lines lines else [])

-- the lines that a session hears of these bytes: at most 100,000
abbrev pub session_lines : List ℕ → List HeardLine
session_lines bytes = take 100000 (heard_lines (text_lines bytes))
