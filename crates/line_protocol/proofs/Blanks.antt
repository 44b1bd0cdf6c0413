-- Texts that are cut at their first blank, and printable bytes.
use Rattle.std.proofs.Common.{◌≡◌, ℕ, zero, suc, ◌+◌, ◌<◌, ◌≤◌, Bool, true, false, List, [], ◌∷◌, length, take, drop, get_or, refl, sym, ap, ◌∙◌, arith}
use Rattle.std.specs.Prelude.{Some, None, nat_lt, position}
use Rattle.std.specs.List.{position_or_len, list_all, list_any, before_first, after_first}
use Rattle.std.specs.Str.{IsAscii}
use Rattle.std.proofs.lemmas.Bool.Decides.{nat_tests}
use Rattle.std.proofs.lemmas.List.{drop_all, take-append-drop}
use Rattle.std.proofs.lemmas.List.Folds.{list_all-append, list_any_at}
use Rattle.std.proofs.lemmas.List.Sums.{fails_before_first, passes_at_first}
use Rattle.std.proofs.lemmas.List.Quantifiers.{position-Some}
use Rattle.cqe_base.proofs.Truths.{and_first, and_second}
use Rattle.line_protocol.specs.Words.{is_printable}
use Rattle.line_protocol.proofs.Positions.{place_of, past_end}

-- what stands before the first place, and behind it
pub before_is : (p : ℕ → Bool) (xs : List ℕ) (n : ℕ) → position p xs ≡ Some n → take n xs ≡ before_first p xs
before_is p xs n is = ap (λ (k : ℕ). take k xs) (sym (place_of (position_or_len p xs) (length xs) n is))

pub after_is : (p : ℕ → Bool) (xs : List ℕ) (n : ℕ) → position p xs ≡ Some n → drop (n + 1) xs ≡ after_first p xs
after_is p xs n is = ap (λ (k : ℕ). drop (k + 1) xs) (sym (place_of (position_or_len p xs) (length xs) n is))

pub any_found : (p : ℕ → Bool) (xs : List ℕ) (n : ℕ) → position p xs ≡ Some n → list_any p xs ≡ true
any_found p xs n is =
    let found = position-Some p xs n 0 is in
    list_any_at p xs n 0 found.0 found.1

-- a test that fails at each place passes nowhere
none_passes : (p : ℕ → Bool) (xs : List ℕ) → ((k : ℕ) → k < length xs → p (get_or xs k 0) ≡ false) → list_any p xs ≡ false
none_passes p [] fails = refl
none_passes p (x ∷ xs) fails =
    let first : p x ≡ false = fails 0 (omega arith) in
    rw first (none_passes p xs (λ k below. fails (suc k) (omega arith)))

pub any_missing : (p : ℕ → Bool) (xs : List ℕ) → position p xs ≡ None → list_any p xs ≡ false
any_missing p xs none =
    let past : length xs ≤ position_or_len p xs = past_end (position_or_len p xs) (length xs) none in
    none_passes p xs (λ k below. fails_before_first p xs k 0 (omega arith))

-- where nothing passes, nothing stands behind the first that does
pub after_none : (p : ℕ → Bool) (xs : List ℕ) → list_any p xs ≡ false → after_first p xs ≡ []
after_none p xs none =
    let place = position_or_len p xs in
    let past : length xs ≤ place =
    elim (nat_lt place (length xs)) as (λ t. nat_lt place (length xs) ≡ t → length xs ≤ place) [
      | true ↦ λ is.
          let inside : place < length xs = grind (arith, nat_tests) in
          let found : list_any p xs ≡ true = list_any_at p xs place 0 inside (passes_at_first p xs 0 inside) in
          absurd (cc)
      | false ↦ λ is. grind (arith, nat_tests)
    ] refl in
    drop_all (place + 1) xs (omega arith)

-- each part of printable bytes is printable
pub all_front : (p : ℕ → Bool) (xs : List ℕ) (n : ℕ) → list_all p xs ≡ true → list_all p (take n xs) ≡ true
all_front p xs n all =
    and_first (list_all p (take n xs)) (list_all p (drop n xs)) (sym (list_all-append p (take n xs) (drop n xs))
    ∙ ap (λ (l : List ℕ). list_all p l) (take-append-drop n xs) ∙ all)

pub all_rest : (p : ℕ → Bool) (xs : List ℕ) (n : ℕ) → list_all p xs ≡ true → list_all p (drop n xs) ≡ true
all_rest p xs n all =
    and_second (list_all p (take n xs)) (list_all p (drop n xs)) (sym (list_all-append p (take n xs) (drop n xs))
    ∙ ap (λ (l : List ℕ). list_all p l) (take-append-drop n xs) ∙ all)

-- a printable byte is ASCII
printable_is_ascii : (b : ℕ) → is_printable b ≡ true → b < 128
printable_is_ascii b printable = grind (arith, nat_tests)

pub printable_are_ascii : (bytes : List ℕ) → list_all is_printable bytes ≡ true → IsAscii bytes
printable_are_ascii [] all i = omega arith
printable_are_ascii (b ∷ bytes) all zero = printable_is_ascii b (and_first (is_printable b) (list_all is_printable bytes) all)
printable_are_ascii (b ∷ bytes) all (suc i) = printable_are_ascii bytes (and_second (is_printable b) (list_all is_printable bytes) all) i
