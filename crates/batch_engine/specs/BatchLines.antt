-- What one line of a batch says, and what its lines add up to.
use Rattle.std.specs.Prelude.{◌==◌, ℕ, ◌+◌, ◌-◌, ◌*◌, not, ◌&&◌, nat_le, List, [], ◌∷◌, ◌++◌}
use Rattle.std.specs.Prelude.{Option, Some, None, Result, Ok, Err, if◌then◌else◌, codes, bytes_eq}
use Rattle.std.specs.Prelude.{option_map}
use Rattle.std.specs.List.{list_all, list_any, before_first, after_first}
use Rattle.std.specs.Char.{is_ascii_digit}
use Rattle.cqe_base.specs.declared.text.ScriptKind.{ScriptKind}
use Rattle.cqe_base.specs.declared.text.ScriptKind.TheVariants.{NotALine}
use Rattle.cqe_base.specs.declared.text.ScriptError.{ScriptError}
use Rattle.cqe_base.specs.Schema.{Text, is_schema_name}
use Rattle.cqe_base.specs.Tokens.{is_blank}
use Rattle.cqe_base.specs.Transcript.{Caller, by_session, by_operator}
use Rattle.line_protocol.specs.Words.{is_printable}
use Rattle.script_lines.specs.Scripts.{script_from}
use Rattle.script_lines.specs.Silence.{is_silent}

-- an ask of a named user in one of his sessions, or a text that an operator adds to his secrets
pub record NamedAsk : Type 0 where
  pub name : Text
  pub caller : Caller
  pub text : Text

-- what a line says
pub data BatchLine : Type 0 where
  -- nothing: a line of blanks, or a comment
  silence : BatchLine
  restarts : BatchLine
  asks : (ask : NamedAsk) → BatchLine

-- what is to be done in a batch
pub data BatchItem : Type 0 where
  -- a call is to be answered
  asked : (ask : NamedAsk) → BatchItem
  -- every desk is to be closed and opened again
  restarted : BatchItem

-- the number that one or two digits write, from 1 to 64 and without a leading zero
abbrev pub session_number : Text → Option ℕ
session_number (a ∷ []) = if is_ascii_digit a && not (a == 48) then Some (a - 48) else None
session_number (a ∷ b ∷ []) =
    if (is_ascii_digit a && not (a == 48))
    && (is_ascii_digit b && nat_le (10 * (a - 48) + (b - 48)) 64)
    then Some (10 * (a - 48) + (b - 48)) else None
session_number _ = None

-- who makes a call, by one word: `op`, or the number of a session
abbrev pub caller_named : Text → Option Caller
caller_named word =
    if bytes_eq word (codes "op") then Some by_operator
    else option_map by_session (session_number word)

-- the text of an ask: `ask`, one blank, and the text, or `ask` alone, which asks the empty text
abbrev pub ask_text : Text → Option Text
ask_text request =
    if list_any is_blank request
    then (if bytes_eq (before_first is_blank request) (codes "ask")
    then Some (after_first is_blank request) else None)
    else (if bytes_eq request (codes "ask") then Some [] else None)

-- the text of an addition: `protect`, one blank, and the text
abbrev pub secret_text : Text → Option Text
secret_text request =
    if list_any is_blank request
    then (if bytes_eq (before_first is_blank request) (codes "protect")
    then Some (after_first is_blank request) else None)
    else None

-- the text of a request, by who makes it
abbrev pub request_text : Caller → Text → Option Text
request_text (by_session number) request = ask_text request
request_text by_operator request = secret_text request

-- the call for a name with a text, if that is there
abbrev pub ask_of : Text → Caller → Option Text → Option BatchLine
ask_of name caller (Some text) =
    Some (asks (record { name = name; caller = caller; text = text }))
ask_of name caller None = None

-- the call for a name that is a request of a caller, if there is one
abbrev pub ask_by : Text → Option Caller → Text → Option BatchLine
ask_by name (Some caller) request = ask_of name caller (request_text caller request)
ask_by name None request = None

-- a name of the form of a constant's, one blank, a caller, one blank, and his request: `ask TEXT`
-- or `ask` of a session, `protect TEXT` of an operator
abbrev pub named_ask : Text → Text → Option BatchLine
named_ask name rest =
    if is_schema_name name && list_any is_blank rest
    then ask_by name (caller_named (before_first is_blank rest)) (after_first is_blank rest)
    else None

-- the line of a first word, and the text behind the blank that ends it: `* restart`, or a call for
-- a name
abbrev pub worded : Text → Text → Option BatchLine
worded word rest =
    if bytes_eq word (codes "*")
    then (if bytes_eq rest (codes "restart") then Some restarts else None)
    else named_ask word rest

-- what printable bytes say
abbrev pub spoken : Text → Option BatchLine
spoken line = if list_any is_blank line
    then worded (before_first is_blank line) (after_first is_blank line) else None

-- what a line says, if it has one of the shapes
unfoldable pub batch_line : Text → Option BatchLine
batch_line line =
    if is_silent line then Some silence
    else if list_all is_printable line then spoken line
    else None

-- the items with what one more line says
abbrev pub with_said : List BatchItem → Option BatchLine → Result (List BatchItem) ScriptKind
with_said before None = Err NotALine
with_said before (Some silence) = Ok before
with_said before (Some restarts) = Ok (before ++ restarted ∷ [])
with_said before (Some (asks ask)) = Ok (before ++ asked ask ∷ [])

-- the items with one more line
abbrev pub with_line : List BatchItem → Text → Result (List BatchItem) ScriptKind
with_line before line = with_said before (batch_line line)

-- the items of a batch that bytes are, or the first line that is refused, with its kind
unfoldable pub batch_of : List ℕ → Result (List BatchItem) ScriptError
batch_of bytes = script_from with_line [] bytes
