-- The lines of a dossier, and the first word of each.
use Rattle.std.specs.Prelude.{ℕ, ◌+◌, ◌==◌, Bool, ◌&&◌, List, [], ◌∷◌, bytes_eq}
use Rattle.std.specs.List.{slice_split, before_first, after_first}
use Rattle.cqe_base.specs.Schema.{Text}

-- without an empty part at the end
abbrev pub without_empty_end : List Text → List Text
without_empty_end [] = []
without_empty_end ([] ∷ []) = []
without_empty_end (part ∷ parts) = part ∷ without_empty_end parts

-- the parts of a text that end with this byte, each without it; what stands behind the last of them
-- is a part too, unless it is empty
abbrev pub ended_parts : ℕ → Text → List Text
ended_parts end text = without_empty_end (slice_split (λ b. b == end) text)

-- the lines of a text: the parts that end with a line feed
abbrev pub lines_in : Text → List Text
lines_in text = ended_parts 10 text

-- a word, and what follows it behind one blank, which is a space
abbrev pub WordAndRest : Type 0
WordAndRest = Text × Text

-- a word and the rest of its line; where nothing stands behind the word, the whole line is the word
abbrev pub by_rest : Text → WordAndRest → WordAndRest
by_rest line (word, []) = (line, [])
by_rest line (word, b ∷ rest) = (word, b ∷ rest)

-- the first word of a line, and what stands behind the blank that follows it
abbrev pub first_word : Text → WordAndRest
first_word line =
    by_rest line (before_first (λ b. b == 32) line, after_first (λ b. b == 32) line)

-- a line: its number, counted from 1, its first word, and the rest
pub record FieldSaid : Type 0 where
  pub line : ℕ
  pub word : Text
  pub rest : Text

-- whether a line is this word alone
abbrev pub is_alone : FieldSaid → Text → Bool
is_alone field word = bytes_eq field.word word && bytes_eq field.rest []

-- the line of this number that says this
abbrev pub field_of : ℕ → Text → FieldSaid
field_of number line =
    record { line = number; word = (first_word line).0; rest = (first_word line).1 }

-- lines, numbered on from this number
abbrev pub fields_from : ℕ → List Text → List FieldSaid
fields_from number [] = []
fields_from number (line ∷ lines) = field_of number line ∷ fields_from (number + 1) lines

-- the lines of a text
abbrev pub fields_of : Text → List FieldSaid
fields_of text = fields_from 1 (lines_in text)
