-- The digits of numbers.
use Rattle.std.proofs.Common.{◌≡◌, ℕ, ◌+◌, ◌/◌, ◌%◌, ◌^◌, ◌<◌, ◌≤◌, List, [], ◌∷◌, ◌++◌, length, sym, ap, ◌∙◌, arith, append_assoc, length-append}
use Rattle.std.specs.Prelude.{decimal}
use Rattle.std.proofs.lemmas.Fmt.{decimal_digit, decimal_step, length-decimal-le}

-- a byte has at most three digits
pub byte_digits : (n : ℕ) → n < 256 → length (decimal n) ≤ 3
byte_digits n small = length-decimal-le 3 n (omega arith) (omega arith) (omega arith)

-- a number of 32 bits has at most ten
pub word_digits : (n : ℕ) → n < 2 ^ 32 → length (decimal n) ≤ 10
word_digits n small = length-decimal-le 10 n (omega arith) (omega arith) (omega arith)

-- how long the digits are without the last
pub length-last : (n : ℕ) → 10 ≤ n → n < 2 ^ 32 → length (decimal n) ≡ length (decimal (n / 10)) + 1
length-last n more small = ap length (decimal_step n more (omega arith)) ∙ length-append (decimal (n / 10)) ((48 + n % 10) ∷ [])

-- how long one digit is
pub length-digit : (n : ℕ) → n < 10 → length (decimal n) ≡ 1
length-digit n small = ap length (decimal_digit n small)

-- a number of one digit
pub pushed_digit : (text : List ℕ) (n : ℕ) → n < 10 → text ++ (48 + n % 10) ∷ [] ≡ text ++ decimal n
pushed_digit text n small =
    let digit : n % 10 ≡ n = omega arith in
    ap (λ (d : ℕ). text ++ (48 + d) ∷ []) digit ∙ ap (λ (l : List ℕ). text ++ l) (sym (decimal_digit n small))

-- the last digit behind the others
pub pushed_last : (text : List ℕ) (n : ℕ) → 10 ≤ n → n < 2 ^ 32 → (text ++ decimal (n / 10)) ++ (48 + n % 10) ∷ [] ≡ text ++ decimal n
pushed_last text n more small =
    append_assoc text (decimal (n / 10)) ((48 + n % 10) ∷ [])
    ∙ ap (λ (l : List ℕ). text ++ l) (sym (decimal_step n more (omega arith)))
