-- The first line of bytes, by where the first line feed stands.
use Rattle.std.proofs.Common.{◌≡◌, ℕ, ◌+◌, ◌<◌, ◌≤◌, ◌==◌, Bool, true, false, not, List, [], ◌∷◌, ◌++◌, length, take, drop, get_or, Some, None, refl, ap, ◌∙◌}
use Rattle.std.proofs.Common.{arith, inl, inr}
use Rattle.std.specs.Prelude.{nat_lt, position}
use Rattle.std.specs.List.{position_or_len}
use Rattle.std.proofs.lemmas.Bool.{cases_Bool, not-true}
use Rattle.std.proofs.lemmas.Bool.Decides.{nat_tests}
use Rattle.std.proofs.lemmas.List.Sums.{prefix_len_passes}
use Rattle.std.proofs.lemmas.List.{take_all, drop_all, drop_more}
use Rattle.std.proofs.lemmas.List.Quantifiers.{position-Some}
use Rattle.cqe_base.specs.Lines.{lines_begun, text_lines, without_return}
use Rattle.cqe_base.proofs.TextLines.{no_lines, lines_begun-feed, lines_begun-skip}

abbrev pub is_feed : ℕ → Bool
is_feed b = b == 10

-- none among the first n bytes
abbrev HasNoFeedBelow : ℕ → List ℕ → Type 0
HasNoFeedBelow n bytes = (k : ℕ) → k < n → is_feed (get_or bytes k 0) ≡ false

-- a line that a line feed ends
pub first_line : (bytes : List ℕ) (n : ℕ) → position is_feed bytes ≡ Some n → text_lines bytes ≡ record {
  bytes =
      take n bytes;
  ended = true;
} ∷ text_lines (drop (n + 1) bytes)
unfolding text_lines
first_line bytes n found =
    let at = position-Some is_feed bytes n 0 found in
    let within : n < length bytes = at.0 in
    let equal : (get_or bytes n 0 == 10) ≡ true = at.1 in
    let split : drop n bytes ≡ get_or bytes n 0 ∷ drop (n + 1) bytes = drop_more bytes n 0 within in
    lines_begun-skip [] bytes n (omega arith) at.2
    ∙ ap (λ (l : List ℕ). lines_begun (take n bytes) l) split
    ∙ lines_begun-feed (take n bytes) (drop (n + 1) bytes) (get_or bytes n 0) equal

-- where none is found there is none
none_found : (bytes : List ℕ) → position is_feed bytes ≡ None → HasNoFeedBelow (length bytes) bytes
none_found bytes none k below =
    elim (cases_Bool (nat_lt (position_or_len is_feed bytes) (length bytes))) [
      | inl early ↦ absurd (let some : Some (position_or_len is_feed bytes) ≡ None = rw early at none in cc)
      | inr late ↦
          let all : length bytes ≤ position_or_len is_feed bytes = grind (arith, nat_tests) in
          not-true (is_feed (get_or bytes k 0)) (prefix_len_passes (λ b. not (is_feed b)) bytes k 0 (omega arith))
    ]

-- a rest without a line feed
pub last_line : (bytes : List ℕ) → position is_feed bytes ≡ None → 0 < length bytes → text_lines bytes ≡ record { bytes = bytes; ended = false } ∷ text_lines []
unfolding text_lines
last_line [] none some = absurd (omega arith)
last_line (b ∷ bytes) none some =
    let no_feed : HasNoFeedBelow (length (b ∷ bytes)) (b ∷ bytes) = none_found (b ∷ bytes) none in
    let all : take (length bytes) bytes ≡ bytes = take_all (length bytes) bytes (omega arith) in
    let none_left : drop (length bytes) bytes ≡ [] = drop_all (length bytes) bytes (omega arith) in
    lines_begun-skip [] (b ∷ bytes) (length (b ∷ bytes)) (omega arith) no_feed ∙ rw (all, none_left) refl

-- a carriage return at the end of bytes
pub without_last : (front : List ℕ) (last : ℕ) → (last == 13) ≡ true → without_return (front ++ last ∷ []) ≡ front
without_last [] last is = rw is refl
without_last (b ∷ []) last is = rw is refl
without_last (b ∷ c ∷ front) last is = ap (λ (l : List ℕ). b ∷ l) (without_last (c ∷ front) last is)

-- and none
pub with_last : (front : List ℕ) (last : ℕ) → (last == 13) ≡ false → without_return (front ++ last ∷ []) ≡ front ++ last ∷ []
with_last [] last is = rw is refl
with_last (b ∷ []) last is = rw is refl
with_last (b ∷ c ∷ front) last is = ap (λ (l : List ℕ). b ∷ l) (with_last (c ∷ front) last is)

-- no bytes have no lines
pub none_left : (bytes : List ℕ) → length bytes ≡ 0 → text_lines bytes ≡ []
none_left [] empty = no_lines
none_left (b ∷ bytes) empty = absurd (omega arith)
