-- The parts of a text that end with a byte, one after the other, and the first word of a line.
use Rattle.std.proofs.Common.{◌≡◌, ℕ, ◌+◌, ◌<◌, ◌≤◌, ◌==◌, Bool, false, List, [], ◌∷◌, length, drop, refl, sym, ap, ◌∙◌, arith}
use Rattle.std.specs.List.{slice_split, before_first, after_first, position_or_len}
use Rattle.std.proofs.lemmas.List.Splits.{slice_split_first, slice_split_none, length-slice_split}
use Rattle.std.proofs.lemmas.List.Sums.{fails_before_first}
use Rattle.std.proofs.lemmas.List.Elements.{All-from_get_or}
use Rattle.std.proofs.lemmas.List.{length-drop}
use Rattle.std.proofs.Math.ListN.{drop_of_length-le}
use Rattle.cqe_base.specs.Schema.{Text}
use Rattle.dossier.specs.Fields.{without_empty_end, ended_parts, by_rest, first_word, fields_from}

module _ (p : ℕ → Bool) where
  -- there is always a part
  pub split-some : (bytes : Text) → slice_split p bytes ≡ [] → ⊥
  split-some bytes none = absurd (omega (arith, length-slice_split p bytes, ap length none))

  -- a part with others behind it stays
  pub kept : (part : Text) (parts : List Text) → (parts ≡ [] → ⊥) → without_empty_end (part ∷ parts) ≡ part ∷ without_empty_end parts
  kept [] [] some = absurd (some refl)
  kept [] (next ∷ parts) some = refl
  kept (b ∷ part) [] some = absurd (some refl)
  kept (b ∷ part) (next ∷ parts) some = refl

  -- where a byte ends a part, that part is the first
  pub cut-parts : (bytes front back : Text) → position_or_len p bytes < length bytes → front ≡ before_first p bytes → back ≡ after_first p bytes
      → without_empty_end (slice_split p bytes) ≡ front ∷ without_empty_end (slice_split p back)
  cut-parts bytes front back within front_is back_is =
      ap without_empty_end (slice_split_first p bytes 0 within)
      ∙ kept (before_first p bytes) (slice_split p (after_first p bytes)) (split-some (after_first p bytes))
      ∙ (λ i. sym front_is i ∷ without_empty_end (slice_split p (sym back_is i)))

  one-stays : (bytes : Text) → 1 ≤ length bytes → without_empty_end (bytes ∷ []) ≡ bytes ∷ []
  one-stays [] some = absurd (omega (arith, some))
  one-stays (b ∷ bytes) some = refl

  -- where none does, and there is something, all is the one part
  pub last-part : (bytes : Text) → position_or_len p bytes ≡ length bytes → 1 ≤ length bytes
      → without_empty_end (slice_split p bytes) ≡ bytes ∷ without_empty_end (slice_split p [])
  last-part bytes none some =
      ap without_empty_end
      (slice_split_none p bytes (All-from_get_or (λ b. p b ≡ false) bytes 0 (λ k below. fails_before_first p bytes k 0 (omega (arith, none)))))
      ∙ one-stays bytes some

  -- what follows a byte that ends a part is shorter
  pub back-less : (bytes back : Text) → position_or_len p bytes < length bytes → back ≡ after_first p bytes → length back + 1 ≤ length bytes
  back-less bytes back within back_is =
      let size : length back ≡ length (drop (position_or_len p bytes + 1) bytes) = ap length back_is in
      omega (arith, size, length-drop (position_or_len p bytes + 1) bytes)

-- ---- the first word

-- where nothing follows the blank, the line is the word
pub word-alone : (line word rest : Text) → rest ≡ [] → by_rest line (word, rest) ≡ (line, [])
word-alone line word [] none = refl
word-alone line word (b ∷ rest) none = absurd cc

-- where something does, the word stands before it
pub word-before : (line word rest : Text) → 1 ≤ length rest → by_rest line (word, rest) ≡ (word, rest)
word-before line word [] some = absurd (omega (arith, some))
word-before line word (b ∷ rest) some = refl

-- without a blank the line is the word
pub word-whole : (line : Text) → position_or_len (λ b. b == 32) line ≡ length line → first_word line ≡ (line, [])
word-whole line none =
    word-alone line (before_first (λ b. b == 32) line) (after_first (λ b. b == 32) line)
    (ap (λ n. drop (n + 1) line) none ∙ drop_of_length-le line (omega arith))

-- ---- lines with their numbers

-- the lines of a text that isn't empty: the first, and those of the rest
pub fields-first : (number : ℕ) (text line rest word behind : Text) → ended_parts 10 text ≡ line ∷ ended_parts 10 rest → word ≡ (first_word line).0
    → behind ≡ (first_word line).1
    → fields_from number (ended_parts 10 text) ≡ record { line = number; word = word; rest = behind } ∷ fields_from (number + 1) (ended_parts 10 rest)
fields-first number text line rest word behind first word_is behind_is =
    ap (fields_from number) first
    ∙ (λ i. record { line = number; word = sym word_is i; rest = sym behind_is i } ∷ fields_from (number + 1) (ended_parts 10 rest))
