-- Laws of the sentence language.
use Rattle.std.specs.Prelude.{◌≡◌, ◌≤◌, true, Ok, IsAscii, IsUtf8}
use Rattle.cqe_base.specs.Schema.{DatabaseSchema, Text, is_valid_schema}
use Rattle.cqe_base.specs.Formula.{Formula, is_sentence_of}
use Rattle.cqe_base.specs.Tokens.{tokens, end_of_tokens}
use Rattle.cqe_base.specs.Reading.{reading}
use Rattle.cqe_base.specs.Grammar.{IsSentence}
use Rattle.cqe_base.specs.Canonical.{canonical, enclosing_constructs}
use Rattle.sentence_text.specs.Slices.{HasTokens}

-- a sentence of the grammar reads as what it means
abbrev pub SentencesRead : Type 0
SentencesRead = (schema : DatabaseSchema) (text : Text) (sentence : Formula)
    → IsSentence schema text sentence → reading schema text ≡ Ok sentence

-- a text means at most one sentence
abbrev pub TextsMeanOneSentence : Type 0
TextsMeanOneSentence = (schema : DatabaseSchema) (text : Text) (a b : Formula)
    → IsSentence schema text a → IsSentence schema text b → a ≡ b

-- the tokens of a text are slices of it, up to its end or the first byte that begins none
abbrev pub TokensAreSlices : Type 0
TokensAreSlices = (text : Text) → HasTokens text 0 (tokens text) (end_of_tokens text)

-- a canonical form that isn't too deep reads as the sentence that was printed
abbrev pub CanonicalFormsRead : Type 0
CanonicalFormsRead =
    (schema : DatabaseSchema) (sentence : Formula) → is_valid_schema schema ≡ true
    → is_sentence_of schema sentence ≡ true → enclosing_constructs sentence ≤ 64
    → reading schema (canonical schema sentence) ≡ Ok sentence

-- the bytes of a sentence are ASCII, and so a text
abbrev pub SentencesAreAscii : Type 0
SentencesAreAscii =
    (schema : DatabaseSchema) (text : Text) (sentence : Formula) → reading schema text ≡ Ok sentence
    → IsAscii text × IsUtf8 text
