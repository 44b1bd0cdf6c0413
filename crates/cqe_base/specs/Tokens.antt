-- The tokens of a text.
use Rattle.std.specs.Prelude.{◌≡◌, ◌⊎◌, ℕ, zero, suc, ◌+◌, ◌-◌, ◌==◌, Bool, true, ◌&&◌, ◌||◌, not}
use Rattle.std.specs.Prelude.{List, [], ◌∷◌, length, take, if◌then◌else◌, codes, nat_eq, bytes_eq}
use Rattle.std.specs.Prelude.{slice_index, ◌<◌, ◌≤◌}
use Rattle.std.specs.List.{starts_with, prefix_len}
use Rattle.std.specs.Char.{is_ascii_alphabetic}
use Prim.Native.String.{String}
use Rattle.cqe_base.specs.Schema.{is_name_byte, is_identifier}
use Rattle.cqe_base.specs.declared.text.Symbol.{Symbol}
use Rattle.cqe_base.specs.declared.text.Symbol.TheVariants.{Name, Not, And, Or, True, False, Forall}
use Rattle.cqe_base.specs.declared.text.Symbol.TheVariants.{Exists, Open, Close, Comma, Colon, Dot}
use Rattle.cqe_base.specs.declared.text.Symbol.TheVariants.{Equal, Differs, Arrow, DoubleArrow}

-- a token: its bytes, and the place of the first of them in the text
pub record Token : Type 0 where
  pub text : List ℕ
  pub start : ℕ

-- a space or a tab
abbrev pub is_blank : ℕ → Bool
is_blank byte = byte == 32 || byte == 9

-- whether bytes begin with a text
abbrev pub begins : String → List ℕ → Bool
begins mark text = starts_with nat_eq text (codes mark)

-- how many bytes the mark at the front of the text has, or 0
unfoldable pub mark_length : List ℕ → ℕ
mark_length text =
    if begins "<->" text then 3
    else if begins "->" text || begins "!=" text then 2
    else if begins "(" text || begins ")" text || begins "," text || begins ":" text
    || begins "." text || begins "=" text then 1
    else 0

-- how many bytes the longest token at the front of the text has, or 0 where none begins there
unfoldable pub token_length : List ℕ → ℕ
token_length [] = 0
token_length (b ∷ text) =
    if is_ascii_alphabetic b then 1 + prefix_len is_name_byte text else mark_length (b ∷ text)

-- the first n bytes are there, and are ASCII
abbrev pub IsAsciiUpTo : ℕ → List ℕ → Type 0
IsAsciiUpTo n text = (n ≤ length text) × ((k : ℕ) → k < n → slice_index text k < 128)

-- the tokens of the text that begins at a place, after so many bytes that belong to the token
-- before them
unfoldable pub tokens_from : ℕ → ℕ → List ℕ → List Token
tokens_from place inside [] = []
tokens_from place (suc inside) (b ∷ text) = tokens_from (place + 1) inside text
tokens_from place zero (b ∷ text) =
    let n = token_length (b ∷ text) in
    let others = tokens_from (place + 1) (n - 1) text in
    if is_blank b then others
    else if n == 0 then []
    else record { text = take n (b ∷ text); start = place } ∷ others

-- where these tokens end: the end of the text, or the first byte that begins no token and isn't a
-- blank
unfoldable pub end_from : ℕ → ℕ → List ℕ → ℕ
end_from place inside [] = place
end_from place (suc inside) (b ∷ text) = end_from (place + 1) inside text
end_from place zero (b ∷ text) =
    let n = token_length (b ∷ text) in
    let end = end_from (place + 1) (n - 1) text in
    if not (is_blank b) && (n == 0) then place else end

-- the tokens of a text
abbrev pub tokens : List ℕ → List Token
tokens text = tokens_from 0 0 text

-- the place where the tokens of a text end
abbrev pub end_of_tokens : List ℕ → ℕ
end_of_tokens text = end_from 0 0 text

-- whether bytes spell a text
abbrev pub is_spelled : String → List ℕ → Bool
is_spelled word text = bytes_eq text (codes word)

-- what a token is, by its bytes
unfoldable pub symbol_of : List ℕ → Symbol
symbol_of text =
    if is_spelled "not" text then Not
    else if is_spelled "and" text then And
    else if is_spelled "or" text then Or
    else if is_spelled "true" text then True
    else if is_spelled "false" text then False
    else if is_spelled "forall" text then Forall
    else if is_spelled "exists" text then Exists
    else if is_spelled "(" text then Open
    else if is_spelled ")" text then Close
    else if is_spelled "," text then Comma
    else if is_spelled ":" text then Colon
    else if is_spelled "." text then Dot
    else if is_spelled "=" text then Equal
    else if is_spelled "!=" text then Differs
    else if is_spelled "->" text then Arrow
    else if is_spelled "<->" text then DoubleArrow
    else Name

-- a number for each symbol
abbrev pub symbol_number : Symbol → ℕ
symbol_number Name = 0
symbol_number Not = 1
symbol_number And = 2
symbol_number Or = 3
symbol_number True = 4
symbol_number False = 5
symbol_number Forall = 6
symbol_number Exists = 7
symbol_number Open = 8
symbol_number Close = 9
symbol_number Comma = 10
symbol_number Colon = 11
symbol_number Dot = 12
symbol_number Equal = 13
symbol_number Differs = 14
symbol_number Arrow = 15
symbol_number DoubleArrow = 16

-- whether two symbols are the same
abbrev pub same_symbol : Symbol → Symbol → Bool
same_symbol a b = symbol_number a == symbol_number b

-- the tokens that aren't words
abbrev pub marks : List (List ℕ)
marks = codes "(" ∷ codes ")" ∷ codes "," ∷ codes ":" ∷ codes "." ∷ codes "=" ∷ codes "!="
    ∷ codes "->" ∷ codes "<->" ∷ []

-- bytes are one of these lists
abbrev pub IsOneOf : List ℕ → List (List ℕ) → Type 0
IsOneOf word [] = ⊥
IsOneOf word (other ∷ others) = (word ≡ other) ⊎ IsOneOf word others

-- the bytes are a name, a keyword or a mark
abbrev pub IsTokenText : List ℕ → Type 0
IsTokenText word = (is_identifier word ≡ true) ⊎ IsOneOf word marks

-- n is the length of the longest token at the front of the text, or 0 where none begins there
pub record IsLongestToken (text : List ℕ) (n : ℕ) : Type 0 where
  pub is_token : 0 < n → (n ≤ length text) × IsTokenText (take n text)
  pub longest : (k : ℕ) → k ≤ length text → IsTokenText (take k text) → k ≤ n
