-- What the words of a dossier say: numbers, literals, lines of a refutation, marks, and the facts
-- of a world.
use Rattle.std.specs.Prelude.{ℕ, ◌==◌, Bool, true, false, ◌&&◌, nat_le, List, [], ◌∷◌}
use Rattle.std.specs.Prelude.{◌++◌, length, map, Option, Some, None, option_map, if◌then◌else◌}
use Rattle.std.specs.Prelude.{codes, bytes_eq}
use Rattle.std.specs.FinSet as set
use Rattle.std.specs.List.{list_all, list_any, slice_split, before_first, after_first}
use Rattle.std.specs.Ordering.{is_lt}
use Rattle.cqe_base.specs.declared.user.Mark.{Mark}
use Rattle.cqe_base.specs.declared.user.Mark.TheVariants.{Yes, No, Refused, Undecided}
use Rattle.cqe_base.specs.declared.world.Fact.{Fact}
use Rattle.cqe_base.specs.Schema.{DatabaseSchema, Text}
use Rattle.cqe_base.specs.Facts.{FactSet, fact_cmp, is_fact_of}
use Rattle.cqe_base.specs.FactText.{stated_fact}
use Rattle.cqe_base.specs.Literal.{Literal, Positive, Negative}
use Rattle.cqe_base.specs.Refutation.{RefutationLine}
use Rattle.entailment.specs.Small.{greatest_number}
use Rattle.line_protocol.specs.Words.{number_in}
use Rattle.audit_text.specs.Text.{world_text}
use Rattle.audit_print.specs.Said.{world_said}
use Rattle.dossier.specs.Fields.{ended_parts}

-- ---- lists of what may be missing

-- one more in front, where both are there
abbrev pub with_first : {X : Type 0} → Option X → Option (List X) → Option (List X)
with_first (Some x) (Some xs) = Some (x ∷ xs)
with_first _ _ = None

-- all of them, where each is there
abbrev pub all_some : {X : Type 0} → List (Option X) → Option (List X)
all_some [] = Some []
all_some (x ∷ xs) = with_first x (all_some xs)

-- ---- numbers and literals

-- whether digits begin with a 0 that isn't alone
abbrev pub has_leading_zero : Text → Bool
has_leading_zero (b ∷ c ∷ digits) = b == 48
has_leading_zero _ = false

-- a number that isn't too great
abbrev pub up_to_greatest : Option ℕ → Option ℕ
up_to_greatest None = None
up_to_greatest (Some n) = if nat_le n greatest_number then Some n else None

-- the number that a word writes in decimal
abbrev pub read_number : Text → Option ℕ
read_number word = if has_leading_zero word then None else up_to_greatest (number_in word)

-- the literal that a word writes: `+` or `-`, and the number of the variable
abbrev pub read_literal : Text → Option Literal
read_literal [] = None
read_literal (sign ∷ digits) =
    if sign == 43 then option_map Positive (read_number digits)
    else if sign == 45 then option_map Negative (read_number digits)
    else None

-- ---- lines of a refutation

-- whether a word is the colon between the literals and the chain
abbrev pub is_colon : Text → Bool
is_colon word = bytes_eq word (codes ":")

-- a line with these literals and a chain that isn't empty
abbrev pub line_by : Bool → Option (List Literal) → Option (List ℕ) → Option RefutationLine
line_by true (Some clause) (Some (first ∷ chain)) =
    Some (record { clause = clause; chain = first ∷ chain })
line_by _ _ _ = None

-- the line that words write: literals, a colon, and the numbers of the chain
abbrev pub line_of_words : List Text → Option RefutationLine
line_of_words words =
    line_by (list_any is_colon words) (all_some (map read_literal (before_first is_colon words)))
    (all_some (map read_number (after_first is_colon words)))

-- the words of a text, with one blank between two
abbrev pub words_of : Text → List Text
words_of text = slice_split (λ b. b == 32) text

-- the line of a refutation that a text writes
abbrev pub line_in : Text → Option RefutationLine
line_in text = line_of_words (words_of text)

-- ---- marks

-- the mark of an ask that a word names
abbrev pub mark_named : Text → Option Mark
mark_named word =
    if bytes_eq word (codes "yes") then Some Yes
    else if bytes_eq word (codes "no") then Some No
    else if bytes_eq word (codes "refused") then Some Refused
    else if bytes_eq word (codes "undecided") then Some Undecided
    else None

-- ---- the facts of a world

-- the fact that a text of at most 4,096 bytes states
abbrev pub short_fact : DatabaseSchema → Text → Option Fact
short_fact schema text = if nat_le (length text) 4096 then stated_fact schema text else None

-- the facts that texts state, each with its closing parenthesis behind it
abbrev pub facts_in : DatabaseSchema → List Text → Option (List Fact)
facts_in schema texts = all_some (map (λ text. short_fact schema (text ++ codes ")")) texts)

-- the world that has these facts and no other
abbrev pub listed_world : List Fact → FactSet
listed_world facts = set.from_list facts

-- whether each fact stands behind the one before it in the order of facts
abbrev pub ascends : List Fact → Bool
ascends [] = true
ascends (f ∷ []) = true
ascends (f ∷ g ∷ facts) = is_lt (fact_cmp f g) && ascends (g ∷ facts)

-- whether this is how an audit lists these facts of the schema, which are at most 100,000
abbrev pub is_listing : DatabaseSchema → Text → List Fact → Bool
is_listing schema text facts =
    (list_all (is_fact_of schema) facts && (nat_le (length facts) 100000 && ascends facts))
    && bytes_eq text (world_text (Some (world_said schema facts)))

-- these facts, where the text lists them so
abbrev pub if_listed : DatabaseSchema → Text → Option (List Fact) → Option (List Fact)
if_listed schema text None = None
if_listed schema text (Some facts) = if is_listing schema text facts then Some facts else None

-- the facts that a text lists as an audit does: `-` where there are none
abbrev pub facts_listed : DatabaseSchema → Text → Option (List Fact)
facts_listed schema text =
    if bytes_eq text (codes "-") then Some []
    else if_listed schema text (facts_in schema (ended_parts 41 text))
