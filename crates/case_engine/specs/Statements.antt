-- What one line of a script says, by its shape alone.
use Rattle.std.specs.Prelude.{◌==◌, ◌-◌, ℕ, Bool, false, ◌&&◌, List, [], ◌∷◌, length, take, map}
use Rattle.std.specs.Prelude.{filter, Option, Some, None, option_map, option_and_then, slice_get}
use Rattle.std.specs.Prelude.{if◌then◌else◌, codes, bytes_eq}
use Rattle.std.specs.List.{list_all, list_any, before_first, after_first}
use Rattle.cqe_base.specs.declared.user.Method.{Method}
use Rattle.cqe_base.specs.declared.text.Symbol.TheVariants.{Open, Close, Comma, Equal}
use Rattle.cqe_base.specs.Schema.{Text, Declaration, is_identifier}
use Rattle.cqe_base.specs.Tokens.{Token, tokens, end_of_tokens, is_blank}
use Rattle.cqe_base.specs.Reading.{is_symbol}
use Rattle.cqe_base.specs.Censor.{method_named}
use Rattle.line_protocol.specs.Words.{is_printable, number_in}
use Rattle.script_lines.specs.Silence.{is_silent}

-- what a line says
pub data Statement : Type 0 where
  -- nothing: a line of blanks, or a comment
  silence : Statement
  domain_is : (declared : Declaration) → Statement
  relation_is : (declared : Declaration) → Statement
  fact_is : (text : Text) → Statement
  method_is : (method : Method) → Statement
  user_knows : (text : Text) → Statement
  secrecy_is : (text : Text) → Statement
  secret_is : (text : Text) → Statement
  budget_is : (budget : ℕ) → Statement
  user_asks : (text : Text) → Statement

-- ---- declarations

-- a letter, followed by letters, digits and `_`, of any length, and keywords too
abbrev pub is_word : Token → Bool
is_word t = is_identifier t.text

-- words with a comma between each two
abbrev pub are_listed : List Token → Bool
are_listed [] = false
are_listed (t ∷ []) = is_word t
are_listed (t ∷ comma ∷ rest) = is_word t && (is_symbol Comma comma && are_listed rest)

-- the names of a list: its words
abbrev pub listed_words : List Token → List Text
listed_words ts = map (λ t. t.text) (filter is_word ts)

-- the names of a list, if it is one
abbrev pub listed_names : List Token → Option (List Text)
listed_names ts = if are_listed ts then Some (listed_words ts) else None

-- the same, or no name at all
abbrev pub names_or_none : List Token → Option (List Text)
names_or_none [] = Some []
names_or_none (t ∷ rest) = listed_names (t ∷ rest)

-- the last token is `)`
abbrev pub is_closed : Option Token → Bool
is_closed None = false
is_closed (Some t) = is_symbol Close t

-- names before a `)` at the end
abbrev pub closed_names : List Token → Option (List Text)
closed_names ts =
    if is_closed (slice_get ts (length ts - 1)) then names_or_none (take (length ts - 1) ts)
    else None

-- the declaration of a name with these parts
abbrev pub declared_as : Text → List Text → Declaration
declared_as name parts = record { name = name; parts = parts }

-- `NAME = CONSTANT, CONSTANT`
abbrev pub domain_shape : List Token → Option Declaration
domain_shape (name ∷ equals ∷ rest) =
    if is_word name && is_symbol Equal equals
    then option_map (declared_as name.text) (names_or_none rest) else None
domain_shape _ = None

-- `NAME(DOMAIN, DOMAIN)`
abbrev pub relation_shape : List Token → Option Declaration
relation_shape (name ∷ opening ∷ rest) =
    if is_word name && is_symbol Open opening
    then option_map (declared_as name.text) (closed_names rest) else None
relation_shape _ = None

-- the tokens of a text that holds nothing else
abbrev pub whole_tokens : Text → Option (List Token)
whole_tokens text = if end_of_tokens text == length text then Some (tokens text) else None

-- ---- lines

-- a statement whose first word has a blank and a text after it
abbrev pub worded : Text → Text → Option Statement
worded word text =
    if bytes_eq word (codes "domain")
    then option_map domain_is (option_and_then domain_shape (whole_tokens text))
    else if bytes_eq word (codes "relation")
    then option_map relation_is (option_and_then relation_shape (whole_tokens text))
    else if bytes_eq word (codes "fact") then Some (fact_is text)
    else if bytes_eq word (codes "method") then option_map method_is (method_named text)
    else if bytes_eq word (codes "know") then Some (user_knows text)
    else if bytes_eq word (codes "secrecy") then Some (secrecy_is text)
    else if bytes_eq word (codes "secret") then Some (secret_is text)
    else if bytes_eq word (codes "budget") then option_map budget_is (number_in text)
    else if bytes_eq word (codes "ask") then Some (user_asks text)
    else None

-- a statement of one word alone: `ask` asks the empty text
abbrev pub lone : Text → Option Statement
lone word = if bytes_eq word (codes "ask") then Some (user_asks []) else None

-- the statement of printable bytes: its first word, one blank, and the rest
abbrev pub spoken : Text → Option Statement
spoken line = if list_any is_blank line
    then worded (before_first is_blank line) (after_first is_blank line) else lone line

-- what a line says, if it has one of the shapes
unfoldable pub statement_of : Text → Option Statement
statement_of line =
    if is_silent line then Some silence
    else if list_all is_printable line then spoken line
    else None
