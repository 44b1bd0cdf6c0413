-- What reading one line does.
use Rattle.std.specs.Prelude.{◌≡◌, ℕ, true, false, List, [], ◌∷◌, ◌++◌, if◌then◌else◌}
use Rattle.cqe_base.specs.Lines.{TextLine, text_lines, content, is_too_long}
use Rattle.line_protocol.specs.declared.lines.LineOutcome.{LineOutcome}
use Rattle.line_protocol.specs.declared.lines.LineOutcome.TheVariants.{Line, End, TooLong}
use Rattle.line_protocol.specs.declared.lines.LineOutcome.TheVariants.{ReadFault}

-- the bytes of a line, its end among them
abbrev pub whole_line : TextLine → List ℕ
whole_line line = line.bytes ++ (if line.ended then 10 ∷ [] else [])

-- The first line of the bytes to come is taken off them: it isn't too long, and this is its
-- content.
pub record TakesLine (before after line : List ℕ) : Type 0 where
  pub first : TextLine
  pub lines : text_lines before ≡ first ∷ text_lines after
  pub bytes : before ≡ whole_line first ++ after
  pub fits : is_too_long first ≡ false
  pub says : line ≡ content first

-- The first line of the bytes is too long.
pub record BeginsTooLong (bytes : List ℕ) : Type 0 where
  pub first : TextLine
  pub rest : List TextLine
  pub lines : text_lines bytes ≡ first ∷ rest
  pub too_long : is_too_long first ≡ true

-- What each outcome says of the bytes to come, before and after, and of the line that the buffer
-- shows then.
abbrev pub Reads : LineOutcome → List ℕ → List ℕ → List ℕ → Type 0
Reads Line before after line = TakesLine before after line
Reads End before after line = (before ≡ []) × (after ≡ []) × (line ≡ [])
Reads TooLong before after line = BeginsTooLong before × (after ≡ before) × (line ≡ [])
Reads ReadFault before after line = (after ≡ before) × (line ≡ [])
