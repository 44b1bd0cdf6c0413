-- The tokens of a text as slices of it.
use Rattle.std.specs.Prelude.{◌≡◌, ℕ, ◌+◌, ◌<◌, ◌≤◌, false, true, List, [], ◌∷◌, length, take, drop}
use Rattle.std.specs.Prelude.{slice_index}
use Rattle.cqe_base.specs.Schema.{Text}
use Rattle.cqe_base.specs.Tokens.{Token, is_blank, IsLongestToken}

-- the bytes from one place up to another are blanks
abbrev pub AreBlanks : Text → ℕ → ℕ → Type 0
AreBlanks text from to = (k : ℕ) → from ≤ k → k < to → is_blank (slice_index text k) ≡ true

-- a token of the text, behind blanks alone from a place on: the slice of the text at its start, and
-- the longest token that begins there
pub record IsTokenAfter (text : Text) (from : ℕ) (t : Token) : Type 0 where
  pub behind : from ≤ t.start
  pub blanks : AreBlanks text from t.start
  pub some : 0 < length t.text
  pub slice : t.text ≡ take (length t.text) (drop t.start text)
  pub longest : IsLongestToken (drop t.start text) (length t.text)

-- the text ends there, or a byte that begins no token and isn't a blank stands there
pub data TokensEndAt (text : Text) (place : ℕ) : Type 0 where
  at_end : place ≡ length text → TokensEndAt text place
  at_byte : place < length text → is_blank (slice_index text place) ≡ false
      → IsLongestToken (drop place text) 0 → TokensEndAt text place

-- from a place on the text has these tokens, one behind the other, and they end there
abbrev pub HasTokens : Text → ℕ → List Token → ℕ → Type 0
HasTokens text from [] end = (from ≤ end) × AreBlanks text from end × TokensEndAt text end
HasTokens text from (t ∷ ts) end =
    IsTokenAfter text from t × HasTokens text (t.start + length t.text) ts end
