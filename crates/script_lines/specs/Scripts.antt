-- A script: its lines one after the other, each a step from what was said before, up to the first
-- that is refused.
use Rattle.std.specs.Prelude.{ℕ, ◌+◌, nat_lt, List, [], ◌∷◌, Bool, false, ◌||◌, Option, Some, None}
use Rattle.std.specs.Prelude.{is_some, Result, Ok, Err, if◌then◌else◌}
use Rattle.cqe_base.specs.declared.text.ScriptKind.{ScriptKind}
use Rattle.cqe_base.specs.declared.text.ScriptKind.TheVariants.{TooLong, TooMany}
use Rattle.cqe_base.specs.declared.text.ScriptError.{ScriptError}
use Rattle.cqe_base.specs.Schema.{Text}
use Rattle.cqe_base.specs.Lines.{TextLine, text_lines, content, is_too_long}

-- what a line that isn't too long makes of what was said before, or the kind of its refusal
abbrev pub Step : Type 0 → Type 0
Step A = A → Text → Result A ScriptKind

-- why a line of this number is refused whatever it says: it is too long, or one too many
abbrev pub line_refusal : ℕ → TextLine → Option ScriptKind
line_refusal number line =
    if is_too_long line then Some TooLong else if nat_lt 100000 number then Some TooMany else None

-- one of these lines, of which the first has this number, is refused whatever it says
abbrev pub is_cut_short : ℕ → List TextLine → Bool
is_cut_short number [] = false
is_cut_short number (line ∷ lines) =
    is_some (line_refusal number line) || is_cut_short (number + 1) lines

-- a refusal, or else what follows
abbrev pub unless : {A : Type 0} → Option ScriptKind → Result A ScriptKind → Result A ScriptKind
unless (Some kind) next = Err kind
unless None next = next

module _ {A : Type 0} (step : Step A) where
  -- what is said with one more line, which has this number
  abbrev pub with_line : ℕ → A → TextLine → Result A ScriptKind
  with_line number said line = unless (line_refusal number line) (step said (content line))

  -- what follows a line, unless it is refused
  abbrev pub then_lines : ℕ → Result A ScriptKind → (A → Result A ScriptError)
      → Result A ScriptError
  then_lines number (Err kind) rest = Err (record { kind = kind; line = number })
  then_lines number (Ok said) rest = rest said

  -- the lines from this number on, up to the first that is refused
  abbrev pub script_after : ℕ → A → List TextLine → Result A ScriptError
  script_after number said [] = Ok said
  script_after number said (line ∷ lines) =
      then_lines number (with_line number said line) (λ next. script_after (number + 1) next lines)

  -- what bytes say from a beginning on, or the first line that is refused, with its kind
  abbrev pub script_from : A → List ℕ → Result A ScriptError
  script_from start bytes = script_after 1 start (text_lines bytes)
