-- The line of a refutation is read back from its text.
use Rattle.std.proofs.Common.{◌≡◌, ◌≤◌, ℕ, ◌==◌, Bool, true, false, ◌||◌, List, [], ◌∷◌, ◌++◌, map, Some, refl, ap, ◌∙◌, append_assoc}
use Rattle.std.proofs.Common.{append-nil}
use Rattle.std.specs.Prelude.{codes, decimal, option_map}
use Rattle.std.specs.List.{list_all, list_any, flat_map, slice_split}
use Rattle.std.specs.Char.{is_ascii_digit}
use Rattle.std.proofs.lemmas.Bool.{leb-true}
use Rattle.cqe_base.specs.Schema.{Text}
use Rattle.cqe_base.specs.Literal.{Literal, Positive, Negative, variable_of}
use Rattle.cqe_base.proofs.Truths.{and_first, and_second}
use Rattle.dossier.specs.Words.{with_first, all_some, read_number, read_literal, is_colon, line_by, line_of_words, words_of, line_in}
use Rattle.entailment.specs.Small.{greatest_number, is_small_literal, is_small_number}
use Rattle.dossier.specs.Written.{sign_text, literal_text, number_text}
use Rattle.dossier.proofs.Ended.{before-at, after-at, split-at, split-none, none-both}
use Rattle.dossier.proofs.Numerals.{number-read, decimal-lacks}

-- whether a byte is a blank
abbrev is_space : ℕ → Bool
is_space b = b == 32

-- a literal without the blank behind it
abbrev pub word_of : Literal → Text
word_of literal = sign_text literal ++ decimal (variable_of literal)

small_variable : (literal : Literal) → is_small_literal literal ≡ true → variable_of literal ≤ greatest_number
small_variable literal small = leb-true (variable_of literal) greatest_number small

small_number : (n : ℕ) → is_small_number n ≡ true → n ≤ greatest_number
small_number n small = leb-true n greatest_number small

sign-lacks : (end : ℕ) → (43 == end) ≡ false → (45 == end) ≡ false → (literal : Literal) → list_any (λ b. b == end) (sign_text literal) ≡ false
sign-lacks end plus minus (Positive v) = ap (λ t. t || false) plus
sign-lacks end plus minus (Negative v) = ap (λ t. t || false) minus

-- no blank and no line feed stands in it
word-lacks : (end : ℕ) → (43 == end) ≡ false → (45 == end) ≡ false → is_ascii_digit end ≡ false → (literal : Literal) → is_small_literal literal ≡ true
    → list_any (λ b. b == end) (word_of literal) ≡ false
word-lacks end plus minus isnt literal small =
    none-both (λ b. b == end) (sign_text literal) (decimal (variable_of literal)) (sign-lacks end plus minus literal)
    (decimal-lacks end isnt (variable_of literal) (small_variable literal small))

-- it is no colon, and reads as the literal
no-colon : (literal : Literal) → is_colon (word_of literal) ≡ false
no-colon (Positive v) = refl
no-colon (Negative v) = refl

literal-read : (literal : Literal) → is_small_literal literal ≡ true → read_literal (word_of literal) ≡ Some literal
literal-read (Positive v) small = ap (option_map Positive) (number-read v (small_variable (Positive v) small))
literal-read (Negative v) small = ap (option_map Negative) (number-read v (small_variable (Negative v) small))

-- ---- words

abbrev AreSmallLiterals : List Literal → Type 0
AreSmallLiterals clause = list_all is_small_literal clause ≡ true

abbrev AreSmallNumbers : List ℕ → Type 0
AreSmallNumbers chain = list_all is_small_number chain ≡ true

-- those of literals, with others behind them
words-of-literals : (clause : List Literal) → AreSmallLiterals clause → (rest : Text)
    → slice_split is_space (flat_map literal_text clause ++ rest) ≡ map word_of clause ++ slice_split is_space rest
words-of-literals [] small rest = refl
words-of-literals (literal ∷ clause) small rest =
    ap (slice_split is_space)
    (append_assoc (literal_text literal) (flat_map literal_text clause) rest ∙ append_assoc (word_of literal) (32 ∷ []) (flat_map literal_text clause ++ rest))
    ∙ split-at is_space (word_of literal) 32 (flat_map literal_text clause ++ rest) (word-lacks 32 refl refl refl literal (and_first _ _ small)) refl
    ∙ ap (λ words. word_of literal ∷ words) (words-of-literals clause (and_second _ _ small) rest)

-- those of numbers
words-of-numbers : (n : ℕ) (chain : List ℕ) → AreSmallNumbers (n ∷ chain)
    → slice_split is_space (decimal n ++ flat_map number_text chain) ≡ map decimal (n ∷ chain)
words-of-numbers n [] small =
    ap (slice_split is_space) (append-nil (decimal n))
    ∙ split-none is_space (decimal n) (decimal-lacks 32 refl n (small_number n (and_first _ _ small)))
words-of-numbers n (m ∷ chain) small =
    split-at is_space (decimal n) 32 (decimal m ++ flat_map number_text chain) (decimal-lacks 32 refl n (small_number n (and_first _ _ small))) refl
    ∙ ap (λ words. decimal n ∷ words) (words-of-numbers m chain (and_second _ _ small))

-- those of a line
words-of-line : (clause : List Literal) (n : ℕ) (chain : List ℕ) → AreSmallLiterals clause → AreSmallNumbers (n ∷ chain)
    → words_of (flat_map literal_text clause ++ codes ":" ++ flat_map number_text (n ∷ chain)) ≡ map word_of clause ++ codes ":" ∷ map decimal (n ∷ chain)
words-of-line clause n chain small few =
    ap words_of (append_assoc (flat_map literal_text clause) (codes ":") (flat_map number_text (n ∷ chain)))
    ∙ words-of-literals clause small (codes ":" ++ flat_map number_text (n ∷ chain))
    ∙ ap (λ words. map word_of clause ++ words)
    (split-at is_space (codes ":") 32 (decimal n ++ flat_map number_text chain) refl refl ∙ ap (λ words. codes ":" ∷ words) (words-of-numbers n chain few))

-- ---- what they say

some-colon : (words others : List Text) → list_any is_colon (words ++ codes ":" ∷ others) ≡ true
some-colon [] others = refl
some-colon (word ∷ words) others = by (is_colon word) (some-colon words others)
  where
    by : (b : Bool) → list_any is_colon (words ++ codes ":" ∷ others) ≡ true → (b || list_any is_colon (words ++ codes ":" ∷ others)) ≡ true
    by true rest = refl
    by false rest = rest

no-colons : (clause : List Literal) → list_any is_colon (map word_of clause) ≡ false
no-colons [] = refl
no-colons (literal ∷ clause) = λ i. no-colon literal i || no-colons clause i

literals-read : (clause : List Literal) → AreSmallLiterals clause → all_some (map read_literal (map word_of clause)) ≡ Some clause
literals-read [] small = refl
literals-read (literal ∷ clause) small = λ i. with_first (literal-read literal (and_first _ _ small) i) (literals-read clause (and_second _ _ small) i)

numbers-read : (chain : List ℕ) → AreSmallNumbers chain → all_some (map read_number (map decimal chain)) ≡ Some chain
numbers-read [] small = refl
numbers-read (n ∷ chain) small = λ i. with_first (number-read n (small_number n (and_first _ _ small)) i) (numbers-read chain (and_second _ _ small) i)

-- the line that a text writes
pub line-read : (clause : List Literal) (n : ℕ) (chain : List ℕ) → AreSmallLiterals clause → AreSmallNumbers (n ∷ chain)
    → line_in (flat_map literal_text clause ++ codes ":" ++ flat_map number_text (n ∷ chain)) ≡ Some (record { clause = clause; chain = n ∷ chain })
line-read clause n chain small few =
    let words : List Text = map word_of clause in
    let others : List Text = map decimal (n ∷ chain) in
    ap line_of_words (words-of-line clause n chain small few)
    ∙ (λ i. line_by (some-colon words others i) (all_some (map read_literal (before-at is_colon words (codes ":") others (no-colons clause) refl i)))
    (all_some (map read_number (after-at is_colon words (codes ":") others (no-colons clause) refl i))))
    ∙ (λ i. line_by true (literals-read clause small i) (numbers-read (n ∷ chain) few i))

-- no line feed stands in it
literals-lack : (clause : List Literal) → AreSmallLiterals clause → list_any (λ b. b == 10) (flat_map literal_text clause) ≡ false
literals-lack [] small = refl
literals-lack (literal ∷ clause) small =
    none-both (λ b. b == 10) (literal_text literal) (flat_map literal_text clause)
    (none-both (λ b. b == 10) (word_of literal) (codes " ") (word-lacks 10 refl refl refl literal (and_first _ _ small)) refl)
    (literals-lack clause (and_second _ _ small))

numbers-lack : (chain : List ℕ) → AreSmallNumbers chain → list_any (λ b. b == 10) (flat_map number_text chain) ≡ false
numbers-lack [] small = refl
numbers-lack (n ∷ chain) small =
    none-both (λ b. b == 10) (number_text n) (flat_map number_text chain) (decimal-lacks 10 refl n (small_number n (and_first _ _ small)))
    (numbers-lack chain (and_second _ _ small))

pub line-lacks : (clause : List Literal) (chain : List ℕ) → AreSmallLiterals clause → AreSmallNumbers chain
    → list_any (λ b. b == 10) (flat_map literal_text clause ++ codes ":" ++ flat_map number_text chain) ≡ false
line-lacks clause chain small few =
    none-both (λ b. b == 10) (flat_map literal_text clause ++ codes ":") (flat_map number_text chain)
    (none-both (λ b. b == 10) (flat_map literal_text clause) (codes ":") (literals-lack clause small) refl) (numbers-lack chain few)
