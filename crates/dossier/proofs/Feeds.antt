-- A text that reads as a sentence has no line feed.
use Rattle.std.proofs.Common.{◌≡◌, ◌+◌, ◌-◌, inl, inr, ℕ, zero, suc, ◌==◌, Bool, true, false, ◌&&◌, ◌||◌, not, List, [], ◌∷◌, length, take, refl, sym, ap}
use Rattle.std.proofs.Common.{subst, ◌∙◌, arith, zero-add}
use Rattle.std.specs.Prelude.{Ok, if◌then◌else◌}
use Rattle.std.specs.List.{list_all, list_any}
use Rattle.std.proofs.lemmas.Bool.{or_parts, not-true}
use Rattle.std.proofs.lemmas.Bool.Decides.{nat_tests}
use Rattle.cqe_base.specs.Formula.{Formula}
use Rattle.cqe_base.specs.Schema.{DatabaseSchema, Text, is_name_byte}
use Rattle.cqe_base.specs.Tokens.{token_length, is_blank, end_from, marks, IsOneOf, IsTokenText}
use Rattle.cqe_base.specs.Reading.{reading}
use Rattle.cqe_base.proofs.Truths.{and_first, and_second, true_is_not_false}
use Rattle.cqe_base.proofs.GrammarIsRead.{reading-sound}
use Rattle.sentence_text.proofs.LongestToken.{token_length-longest}
use Rattle.dossier.proofs.Ended.{kind-lacks}
use Rattle.dossier.proofs.FactTexts.{name-bytes}

abbrev is_feed : ℕ → Bool
is_feed b = b == 10

abbrev LacksFeed : Text → Type 0
LacksFeed text = list_any is_feed text ≡ false

-- no mark has one
marks-lack : (others : List Text) → list_all (λ mark. not (list_any is_feed mark)) others ≡ true → (word : Text) → IsOneOf word others → LacksFeed word
marks-lack [] all word is = absurd is
marks-lack (mark ∷ others) all word (inl same) =
    ap (list_any is_feed) same ∙ not-true (list_any is_feed mark) (and_first _ _ all)
marks-lack (mark ∷ others) all word (inr is) = marks-lack others (and_second _ _ all) word is

token-lacks : (word : Text) → IsTokenText word → LacksFeed word
token-lacks word (inl letters) = kind-lacks is_name_byte 10 refl word (name-bytes word letters)
token-lacks word (inr is) = marks-lack marks refl word is

-- nor has what a token takes from the front of a text
front-lacks : (text : Text) (n : ℕ) → n ≡ token_length text → LacksFeed (take n text)
front-lacks text zero is = refl
front-lacks text (suc n) is =
    let long : IsTokenText (take (token_length text) text) = ((token_length-longest text).is_token (omega (arith, is))).1 in
    token-lacks (take (suc n) text) (subst (λ k. IsTokenText (take k text)) (sym is) long)

-- behind its first byte
behind-lacks : (b : ℕ) (text : Text) (n : ℕ) → n ≡ token_length (b ∷ text) → LacksFeed (take (n - 1) text)
behind-lacks b text zero is = refl
behind-lacks b text (suc n) is =
    let all : LacksFeed (b ∷ take n text) = front-lacks (b ∷ text) (suc n) is in
    let less : n ≡ suc n - 1 = omega arith in
    subst (λ k. LacksFeed (take k text)) less (or_parts (is_feed b) (list_any is_feed (take n text)) all).1

blank-lacks : (b : ℕ) → is_blank b ≡ true → is_feed b ≡ false
blank-lacks b is = grind (arith, nat_tests)

-- the first byte, of a token or a blank
first-lacks : (b : ℕ) (text : Text) (n : ℕ) → n ≡ token_length (b ∷ text) → (not (is_blank b) && (n == 0)) ≡ false → is_feed b ≡ false
first-lacks b text n is some = by (is_blank b) refl n is some
  where
    by : (blank : Bool) → is_blank b ≡ blank → (n : ℕ) → n ≡ token_length (b ∷ text) → (not blank && (n == 0)) ≡ false → is_feed b ≡ false
    by true blank n is some = blank-lacks b blank
    by false other zero is some = absurd (true_is_not_false some)
    by false other (suc n) is some =
        let all : LacksFeed (b ∷ take n text) = front-lacks (b ∷ text) (suc n) is in
        (or_parts (is_feed b) (list_any is_feed (take n text)) all).0

-- a text whose tokens end with it
ends-lack : (place inside : ℕ) (text : Text) → LacksFeed (take inside text) → end_from place inside text ≡ place + length text → LacksFeed text
unfolding end_from
ends-lack place inside [] front end = refl
ends-lack place (suc inside) (b ∷ text) front end =
    let parts = or_parts (is_feed b) (list_any is_feed (take inside text)) front in
    let sized : place + length (b ∷ text) ≡ place + 1 + length text = omega arith in
    let further = ends-lack (place + 1) inside text parts.1 (end ∙ sized) in
    λ i. parts.0 i || further i
ends-lack place zero (b ∷ text) front end =
    by (not (is_blank b) && (token_length (b ∷ text) == 0)) refl end
    (ends-lack (place + 1) (token_length (b ∷ text) - 1) text (behind-lacks b text (token_length (b ∷ text)) refl))
  where
    by : (stops : Bool) → (not (is_blank b) && (token_length (b ∷ text) == 0)) ≡ stops
        → (if stops then place else end_from (place + 1) (token_length (b ∷ text) - 1) text) ≡ place + length (b ∷ text)
        → (end_from (place + 1) (token_length (b ∷ text) - 1) text ≡ place + 1 + length text → LacksFeed text) → LacksFeed (b ∷ text)
    by true is end further = absurd (omega (arith, end))
    by false is end further =
        let sized : place + length (b ∷ text) ≡ place + 1 + length text = omega arith in
        λ i. first-lacks b text (token_length (b ∷ text)) refl is i || further (end ∙ sized) i

-- a text that reads
pub reading-lacks : (schema : DatabaseSchema) (text : Text) (sentence : Formula) → reading schema text ≡ Ok sentence → LacksFeed text
reading-lacks schema text sentence read =
    ends-lack 0 0 text refl ((reading-sound schema text sentence read).no_bad_character ∙ sym (zero-add (length text)))
