-- What writes a line of a refutation is its text.
use Rattle.std.proofs.Common.{◌≡◌, ◌<◌, ℕ, ◌==◌, Bool, true, false, List, [], ◌∷◌, ◌++◌, length, map, Option, Some, None, get_or, refl, sym, ap}
use Rattle.std.proofs.Common.{subst, ◌∙◌, append_assoc, append-nil}
use Rattle.std.specs.Prelude.{codes, decimal, option_map, if◌then◌else◌}
use Rattle.std.specs.List.{list_all, list_any, flat_map, before_first, after_first, position_or_len, join_with_byte}
use Rattle.std.specs.Cmp.Lexicographic.{same_text}
use Rattle.std.proofs.lemmas.Bool.{eqb-true, le-leb, and_from}
use Rattle.std.proofs.lemmas.List.Sums.{split_at_first, passes_at_first}
use Rattle.std.proofs.lemmas.List.Splits.{join_with_byte-slice_split}
use Rattle.cqe_base.specs.Schema.{Text}
use Rattle.cqe_base.specs.Literal.{Literal, Positive, Negative}
use Rattle.cqe_base.specs.Refutation.{RefutationLine}
use Rattle.entailment.specs.Small.{greatest_number, is_small_literal, is_small_number, is_small_line}
use Rattle.dossier.specs.Words.{with_first, all_some, read_number, read_literal, is_colon, line_by, line_of_words, words_of, line_in}
use Rattle.dossier.specs.Written.{literal_text, number_text}
use Rattle.dossier.proofs.LinesBack.{first-within}
use Rattle.dossier.proofs.Numerals.{number-back}
use Rattle.dossier.proofs.RefLines.{word_of}

-- ---- words

number-word : (word : Text) (n : ℕ) → read_number word ≡ Some n → (word ≡ decimal n) × (is_small_number n ≡ true)
number-word word n is = let (written, low) = number-back word n is in (written, le-leb n greatest_number low)

literal-word : (word : Text) (l : Literal) → read_literal word ≡ Some l → (word ≡ word_of l) × (is_small_literal l ≡ true)
literal-word [] l is = absurd cc
literal-word (sign ∷ digits) l is = by_plus (sign == 43) refl is
  where
    positive : sign ≡ 43 → (o : Option ℕ) → read_number digits ≡ o → option_map Positive o ≡ Some l
        → ((sign ∷ digits) ≡ word_of l) × (is_small_literal l ≡ true)
    positive plus None read is = absurd cc
    positive plus (Some n) read is =
        let same : Positive n ≡ l = cc in
        let (written, low) = number-word digits n read in
        subst (λ m. ((sign ∷ digits) ≡ word_of m) × (is_small_literal m ≡ true)) same ((λ i. plus i ∷ written i), low)

    negative : sign ≡ 45 → (o : Option ℕ) → read_number digits ≡ o → option_map Negative o ≡ Some l
        → ((sign ∷ digits) ≡ word_of l) × (is_small_literal l ≡ true)
    negative minus None read is = absurd cc
    negative minus (Some n) read is =
        let same : Negative n ≡ l = cc in
        let (written, low) = number-word digits n read in
        subst (λ m. ((sign ∷ digits) ≡ word_of m) × (is_small_literal m ≡ true)) same ((λ i. minus i ∷ written i), low)

    by_minus : (b : Bool) → (sign == 45) ≡ b → (if b then option_map Negative (read_number digits) else None) ≡ Some l
        → ((sign ∷ digits) ≡ word_of l) × (is_small_literal l ≡ true)
    by_minus true minus is = negative (eqb-true sign 45 minus) (read_number digits) refl is
    by_minus false minus is = absurd cc

    by_plus : (b : Bool) → (sign == 43) ≡ b
        → (if b then option_map Positive (read_number digits) else if sign == 45 then option_map Negative (read_number digits) else None) ≡ Some l
        → ((sign ∷ digits) ≡ word_of l) × (is_small_literal l ≡ true)
    by_plus true plus is = positive (eqb-true sign 43 plus) (read_number digits) refl is
    by_plus false plus is = by_minus (sign == 45) refl is

-- words of which each writes something
module _ {X : Type 0} (read : Text → Option X) (write : X → Text) (small : X → Bool)
    (back : (word : Text) (x : X) → read word ≡ Some x → (word ≡ write x) × (small x ≡ true)) where
  abbrev AreWritten : List Text → List X → Type 0
  AreWritten words xs = (words ≡ map write xs) × (list_all small xs ≡ true)

  one-more : (word : Text) (words : List Text) (xs : List X) → ((rest : List X) → all_some (map read words) ≡ Some rest → AreWritten words rest)
      → (o : Option X) → read word ≡ o → (os : Option (List X)) → all_some (map read words) ≡ os → with_first o os ≡ Some xs → AreWritten (word ∷ words) xs
  one-more word words xs go None is os others e = absurd cc
  one-more word words xs go (Some x) is None others e = absurd cc
  one-more word words xs go (Some x) is (Some rest) others e =
      let same : (x ∷ rest) ≡ xs = cc in
      let (here, low) = back word x is in
      let (there, lows) = go rest others in
      subst (AreWritten (word ∷ words)) same ((λ i. here i ∷ there i), and_from (small x) (list_all small rest) low lows)

  words-back : (words : List Text) (xs : List X) → all_some (map read words) ≡ Some xs → AreWritten words xs
  words-back [] xs e = let same : [] ≡ xs = cc in subst (AreWritten []) same (refl, refl)
  words-back (word ∷ words) xs e =
      one-more word words xs (λ rest others. words-back words rest others) (read word) refl (all_some (map read words)) refl e

-- ---- a line

-- words that are a line: its literals, a colon, and the numbers of its chain
abbrev AreLine : List Text → RefutationLine → Type 0
AreLine words line = (words ≡ map word_of line.clause ++ codes ":" ∷ map decimal line.chain) × (is_small_line line ≡ true)

module _ (words : List Text) (line : RefutationLine) where
  by-parts : list_any is_colon words ≡ true → (clause : Option (List Literal)) → all_some (map read_literal (before_first is_colon words)) ≡ clause
      → (chain : Option (List ℕ)) → all_some (map read_number (after_first is_colon words)) ≡ chain → line_by true clause chain ≡ Some line
      → AreLine words line
  by-parts some None clause_is chain chain_is e = absurd cc
  by-parts some (Some clause) clause_is None chain_is e = absurd cc
  by-parts some (Some clause) clause_is (Some []) chain_is e = absurd cc
  by-parts some (Some clause) clause_is (Some (n ∷ chain)) chain_is e =
      let own : RefutationLine = record { clause = clause; chain = n ∷ chain } in
      let same : own ≡ line = cc in
      let (literals, lows) = words-back read_literal word_of is_small_literal literal-word (before_first is_colon words) clause clause_is in
      let (numbers, few) = words-back read_number decimal is_small_number number-word (after_first is_colon words) (n ∷ chain) chain_is in
      let within : position_or_len is_colon words < length words = first-within is_colon words some in
      let colon : get_or words (position_or_len is_colon words) [] ≡ codes ":" =
      same_text (get_or words (position_or_len is_colon words) []) (codes ":") (sym (passes_at_first is_colon words [] within)) in
      subst (AreLine words) same (
        split_at_first is_colon words [] within ∙ (λ i. literals i ++ colon i ∷ numbers i),
        and_from (list_all is_small_literal clause) (list_all is_small_number (n ∷ chain)) lows few,
      )

  by-colon : (b : Bool) → list_any is_colon words ≡ b
      → line_by b (all_some (map read_literal (before_first is_colon words))) (all_some (map read_number (after_first is_colon words))) ≡ Some line
      → AreLine words line
  by-colon false some e = absurd cc
  by-colon true some e =
      by-parts some (all_some (map read_literal (before_first is_colon words))) refl (all_some (map read_number (after_first is_colon words))) refl e

  line-words : line_of_words words ≡ Some line → AreLine words line
  line-words e = by-colon (list_any is_colon words) refl e

-- ---- its text

join-more : (word : Text) (words : List Text) → (words ≡ [] → ⊥) → join_with_byte 32 (word ∷ words) ≡ word ++ 32 ∷ join_with_byte 32 words
join-more word [] some = absurd (some refl)
join-more word (next ∷ words) some = refl

still-some : (words others : List Text) → (others ≡ [] → ⊥) → words ++ others ≡ [] → ⊥
still-some [] others some none = some none
still-some (word ∷ words) others some none = absurd cc

join-literals : (clause : List Literal) (others : List Text) → (others ≡ [] → ⊥)
    → join_with_byte 32 (map word_of clause ++ others) ≡ flat_map literal_text clause ++ join_with_byte 32 others
join-literals [] others some = refl
join-literals (l ∷ clause) others some =
    join-more (word_of l) (map word_of clause ++ others) (still-some (map word_of clause) others some)
    ∙ ap (λ t. word_of l ++ 32 ∷ t) (join-literals clause others some)
    ∙ sym (append_assoc (literal_text l) (flat_map literal_text clause) (join_with_byte 32 others)
    ∙ append_assoc (word_of l) (32 ∷ []) (flat_map literal_text clause ++ join_with_byte 32 others))

join-numbers : (n : ℕ) (chain : List ℕ) → join_with_byte 32 (map decimal (n ∷ chain)) ≡ decimal n ++ flat_map number_text chain
join-numbers n [] = sym (append-nil (decimal n))
join-numbers n (m ∷ chain) = ap (λ t. decimal n ++ 32 ∷ t) (join-numbers m chain)

join-chain : (chain : List ℕ) → (chain ≡ [] → ⊥) → join_with_byte 32 (codes ":" ∷ map decimal chain) ≡ codes ":" ++ flat_map number_text chain
join-chain [] some = absurd (some refl)
join-chain (n ∷ chain) some = ap (λ t. codes ":" ++ 32 ∷ t) (join-numbers n chain)

some-chain : (words : List Text) (line : RefutationLine) → line_of_words words ≡ Some line → line.chain ≡ [] → ⊥
some-chain words line e none =
    by (list_any is_colon words) (all_some (map read_literal (before_first is_colon words))) (all_some (map read_number (after_first is_colon words))) e
  where
    by : (b : Bool) (clause : Option (List Literal)) (chain : Option (List ℕ)) → line_by b clause chain ≡ Some line → ⊥
    by false clause chain e = absurd cc
    by true None chain e = absurd cc
    by true (Some clause) None e = absurd cc
    by true (Some clause) (Some []) e = absurd cc
    by true (Some clause) (Some (n ∷ chain)) e =
        let own : RefutationLine = record { clause = clause; chain = n ∷ chain } in
        let same : own ≡ line = cc in
        let long : (n ∷ chain) ≡ [] = ap (λ (l : RefutationLine). l.chain) same ∙ none in
        absurd cc

-- a text that writes a line
pub line-back : (text : Text) (line : RefutationLine) → line_in text ≡ Some line
    → (text ≡ flat_map literal_text line.clause ++ codes ":" ++ flat_map number_text line.chain) × (is_small_line line ≡ true)
line-back text line e =
    let (words, low) = line-words (words_of text) line e in (
      sym (join_with_byte-slice_split 32 text) ∙ ap (join_with_byte 32) words
          ∙ join-literals line.clause (codes ":" ∷ map decimal line.chain) (λ none. absurd cc)
          ∙ ap (λ t. flat_map literal_text line.clause ++ t) (join-chain line.chain (some-chain (words_of text) line e))
          ∙ sym (append_assoc (flat_map literal_text line.clause) (codes ":") (flat_map number_text line.chain)),
      low,
    )
