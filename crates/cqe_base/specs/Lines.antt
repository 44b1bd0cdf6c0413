-- The lines of bytes. A line ends with a line feed, and a carriage return just before that is
-- dropped; a rest without a line feed is a line too, unless it is empty.
use Rattle.std.specs.Prelude.{◌==◌, ℕ, Bool, true, false, nat_lt, List, [], ◌∷◌, ◌++◌, length}
use Rattle.std.specs.Prelude.{if◌then◌else◌}

-- a line as it stands in the bytes: without its line feed, and whether it had one
pub record TextLine : Type 0 where
  pub bytes : List ℕ
  pub ended : Bool

-- the lines of the bytes to come, after these bytes of the first line
abbrev pub lines_begun : List ℕ → List ℕ → List TextLine
lines_begun [] [] = []
lines_begun (b ∷ line) [] = record { bytes = b ∷ line; ended = false } ∷ []
lines_begun line (b ∷ rest) =
    if b == 10 then record { bytes = line; ended = true } ∷ lines_begun [] rest
    else lines_begun (line ++ b ∷ []) rest

-- the lines of bytes
unfoldable pub text_lines : List ℕ → List TextLine
text_lines bytes = lines_begun [] bytes

-- the bytes without a carriage return at their end
abbrev pub without_return : List ℕ → List ℕ
without_return [] = []
without_return (b ∷ []) = if b == 13 then [] else b ∷ []
without_return (b ∷ c ∷ rest) = b ∷ without_return (c ∷ rest)

-- what a line says
abbrev pub content : TextLine → List ℕ
content line = if line.ended then without_return line.bytes else line.bytes

-- a line has at most 4,096 bytes, a dropped carriage return among them
abbrev pub is_too_long : TextLine → Bool
is_too_long line = nat_lt 4096 (length line.bytes)
