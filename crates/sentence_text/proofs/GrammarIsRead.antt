-- What is in the grammar is read, so a text means at most one sentence.
use Rattle.std.proofs.Common.{◌≡◌, ℕ, true, false, length, Ok, refl, arith}
use Rattle.std.specs.Prelude.{◌==◌}
use Rattle.std.proofs.lemmas.Bool.Decides.{nat_tests}
use Rattle.cqe_base.specs.Formula.{Formula}
use Rattle.cqe_base.specs.Schema.{DatabaseSchema, Text}
use Rattle.cqe_base.specs.Tokens.{end_of_tokens}
use Rattle.cqe_base.specs.Reading
use Rattle.cqe_base.specs.Reading.{reading, refusal_at_end}
use Rattle.cqe_base.specs.Grammar.{IsSentence}
use Rattle.sentence_text.proofs.GrammarLaws.{complete}

not_bad : (total : ℕ) → ((refusal_at_end total total).kind == 1) ≡ false
not_bad total = let same : (total == total) ≡ true = grind (arith, nat_tests) in rw same refl

-- a sentence is read
pub sentences_read : (schema : DatabaseSchema) (text : Text) (a : Formula) → IsSentence schema text a → reading schema text ≡ Ok a
unfolding reading Reading.sentence_of Reading.at_end
sentences_read schema text a is =
    let end = refusal_at_end (end_of_tokens text) (length text) in
    let read = complete schema end is.derives (record { no_and = refl; no_or = refl; no_arrow_next = refl }) refl in
    let good : ((refusal_at_end (end_of_tokens text) (length text)).kind == 1) ≡ false = rw is.no_bad_character (not_bad (length text)) in
    rw (read, good) refl

-- a text is at most one sentence
pub one_sentence : (schema : DatabaseSchema) (text : Text) (a b : Formula) → IsSentence schema text a → IsSentence schema text b → a ≡ b
one_sentence schema text a b is_a is_b =
    let read_a = sentences_read schema text a is_a in
    let read_b = sentences_read schema text b is_b in
    cc
