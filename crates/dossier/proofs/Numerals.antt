-- Numbers are read as they are written, and only so.
use Rattle.std.proofs.Common.{◌≡◌, ℕ, ◌+◌, ◌*◌, ◌-◌, ◌<◌, ◌≤◌, ◌==◌, Bool, true, false, ◌&&◌, List, [], ◌∷◌, length, get_or, Some, None, refl, sym}
use Rattle.std.proofs.Common.{ap, ◌∙◌}
use Rattle.std.proofs.Common.{arith, rules, fold, inl, inr, ◌^◌}
use Rattle.std.specs.Prelude.{decimal, nat_le, if◌then◌else◌}
use Rattle.std.specs.Char.{is_ascii_digit}
use Rattle.std.specs.List.{list_all, list_any}
use Rattle.std.proofs.lemmas.Bool.{cases_lt, leb-true, and_parts}
use Rattle.std.proofs.lemmas.Bool.Decides.{nat_tests}
use Rattle.std.proofs.lemmas.Fmt.{digits_decimal, digits_value-decimal, length-decimal-le, decimal_nonempty, first_decimal, decimal-digits_value}
use Rattle.std.proofs.lemmas.Str.Parse.{IsNumeralModel, numerals_by_fold}
use Rattle.cqe_base.specs.Schema.{Text}
use Rattle.line_protocol.specs.Words.{decimal_value, number_in}
use Rattle.dossier.proofs.Ended.{kind-lacks}
use Rattle.entailment.specs.Small.{greatest_number}
use Rattle.dossier.specs.Words.{has_leading_zero, up_to_greatest, read_number}

-- digits from the left, behind a number
abbrev read_on : ℕ → List ℕ → ℕ
read_on n [] = n
read_on n (d ∷ digits) = read_on (10 * n + (d - 48)) digits

own : IsNumeralModel (λ ds. list_all is_ascii_digit ds ≡ true) (read_on 0)
own = numerals_by_fold _ (search rules) read_on (search rules)

fold-is : (n : ℕ) (digits : Text) → fold (λ n d. 10 * n + (d - 48)) n digits ≡ read_on n digits
fold-is n [] = refl
fold-is n (d ∷ digits) = fold-is (10 * n + (d - 48)) digits

module _ (n : ℕ) (small : n ≤ greatest_number) where
  below : n < 2 ^ 64
  below = omega (arith, small)

  pub all-digits : list_all is_ascii_digit (decimal n) ≡ true
  all-digits = digits_decimal own n below

  value-is : decimal_value (decimal n) ≡ n
  value-is = fold-is 0 (decimal n) ∙ digits_value-decimal own n below

  some-digit : nat_le 1 (length (decimal n)) ≡ true
  some-digit = let some = decimal_nonempty n below in grind (arith, nat_tests)

  few-digits : nat_le (length (decimal n)) 10 ≡ true
  few-digits = let few = length-decimal-le 10 n (omega arith) (omega (arith, small)) below in grind (arith, nat_tests)

  in-word : number_in (decimal n) ≡ Some n
  in-word =
      (λ i. if (some-digit i && few-digits i) && all-digits i then Some (decimal_value (decimal n)) else None)
      ∙ ap Some value-is

  small-test : nat_le n greatest_number ≡ true
  small-test = grind (arith, nat_tests)

-- digits whose first one isn't 0, or of which there is one
no-leading : (digits : Text) → (1 < length digits → 48 < get_or digits 0 0) → has_leading_zero digits ≡ false
no-leading [] first = refl
no-leading (b ∷ []) first = refl
no-leading (b ∷ c ∷ digits) first = let more : 48 < b = first (omega arith) in grind (arith, nat_tests)

leads-not : (n : ℕ) → n ≤ greatest_number → has_leading_zero (decimal n) ≡ false
leads-not n small = no-leading (decimal n) (λ more. first_decimal n (some more) (omega (arith, small)))
  where
    some : 1 < length (decimal n) → 0 < n
    some more = elim (cases_lt 0 n) [
      | inl positive ↦ positive
      | inr none ↦ absurd (omega (arith, more, length-decimal-le 1 n (omega arith) (omega (arith, none)) (omega (arith, none))))
    ]

-- the number that is written in decimal
pub number-read : (n : ℕ) → n ≤ greatest_number → read_number (decimal n) ≡ Some n
number-read n small =
    ap (λ b. if b then None else up_to_greatest (number_in (decimal n))) (leads-not n small)
    ∙ ap up_to_greatest (in-word n small)
    ∙ ap (λ b. if b then Some n else None) (small-test n small)

-- it has no byte that isn't a digit
pub decimal-lacks : (end : ℕ) → is_ascii_digit end ≡ false → (n : ℕ) → n ≤ greatest_number → list_any (λ b. b == end) (decimal n) ≡ false
decimal-lacks end isnt n small = kind-lacks is_ascii_digit end isnt (decimal n) (all-digits n small)

-- ---- and back

one-zero : (word : Text) → 1 ≤ length word → has_leading_zero word ≡ false → get_or word 0 0 ≡ 48 → length word ≡ 1
one-zero [] some leads zero_first = absurd (omega (arith, some))
one-zero (b ∷ []) some leads zero_first = refl
one-zero (b ∷ c ∷ word) some leads zero_first = let first : b ≡ 48 = zero_first in absurd (grind (arith, nat_tests))

-- a word that writes a number is its decimal
pub number-back : (word : Text) (n : ℕ) → read_number word ≡ Some n → (word ≡ decimal n) × (n ≤ greatest_number)
number-back word n is = by_first (has_leading_zero word) refl is
  where
    by_size : (v : ℕ) → has_leading_zero word ≡ false → (nat_le 1 (length word) && nat_le (length word) 10) ≡ true → list_all is_ascii_digit word ≡ true
        → decimal_value word ≡ v → (b : Bool) → nat_le v greatest_number ≡ b → (if b then Some v else None) ≡ Some n
        → (word ≡ decimal n) × (n ≤ greatest_number)
    by_size v leads sized digits value false great is = absurd cc
    by_size v leads sized digits value true small is =
        let same : v ≡ n = cc in
        let low : v ≤ greatest_number = leb-true v greatest_number small in
        let some : 1 ≤ length word = leb-true 1 (length word) (and_parts (nat_le 1 (length word)) (nat_le (length word) 10) sized).0 in
        let read : read_on 0 word ≡ v = sym (fold-is 0 word) ∙ value in
        let written : decimal (read_on 0 word) ≡ word =
        decimal-digits_value own word digits (omega (arith, some)) (one-zero word some leads) (omega (arith, read, low)) in
        (sym written ∙ ap decimal (read ∙ same), omega (arith, low, same))

    by_digits : has_leading_zero word ≡ false → (a b : Bool) → (nat_le 1 (length word) && nat_le (length word) 10) ≡ a → list_all is_ascii_digit word ≡ b
        → up_to_greatest (if a && b then Some (decimal_value word) else None) ≡ Some n → (word ≡ decimal n) × (n ≤ greatest_number)
    by_digits leads false b sized digits is = absurd cc
    by_digits leads true false sized digits is = absurd cc
    by_digits leads true true sized digits is =
        by_size (decimal_value word) leads sized digits refl (nat_le (decimal_value word) greatest_number) refl is

    by_first : (b : Bool) → has_leading_zero word ≡ b → (if b then None else up_to_greatest (number_in word)) ≡ Some n
        → (word ≡ decimal n) × (n ≤ greatest_number)
    by_first true leads is = absurd cc
    by_first false leads is =
        by_digits leads (nat_le 1 (length word) && nat_le (length word) 10) (list_all is_ascii_digit word) refl refl is
