-- The constants of an instance are of the list's domains, one of each.
use Rattle.std.proofs.Common.{◌≡◌, ℕ, zero, suc, ◌+◌, ◌-◌, ◌*◌, ◌/◌, ◌%◌, ◌^◌, ◌<◌, ◌≤◌, List, [], ◌∷◌, ◌++◌, length, replicate, refl, sym, ap, subst, ◌∙◌}
use Rattle.std.proofs.Common.{arith}
use Rattle.std.proofs.Common.{get_or, take, drop, set, min, append_assoc, Fits, w64, add-one}
use Rattle.std.proofs.Math.Nat.{pow-le-pow_right}
use Rattle.std.proofs.Math.Seq.{take-length}
use Rattle.std.proofs.lemmas.Nat.{div_below, mod_below, mul-le, div-add-mod'}
use Rattle.std.proofs.lemmas.List.{at_drop_more, take_more_set, drop-set-lt, drop-replicate, length-drop}
use Rattle.cqe_base.specs.Schema.{DatabaseSchema, domain_size}
use Rattle.cqe_base.specs.Truth.{constant_at}
use Rattle.open_queries.specs.Instances.{combinations, digits, chosen, in_four}
use Rattle.open_queries.proofs.Filled.{AreOf}

-- where a number is below a product, the second factor isn't 0
pub some_ways : (n a b : ℕ) → n < a * b → 0 < b
some_ways n a zero low = absurd (omega arith)
some_ways n a (suc b) low = omega arith

pub choice_is_of : (schema : DatabaseSchema) (domains : List ℕ) (n : ℕ) → n < combinations schema domains
    → AreOf schema domains (chosen domains (digits schema domains n))
choice_is_of schema [] n low = tt
choice_is_of schema (d ∷ domains) n low =
    let some : 0 < combinations schema domains = some_ways n (domain_size schema d) (combinations schema domains) low in (
      refl,
      div_below n (combinations schema domains) (domain_size schema d) some low,
      choice_is_of schema domains (n % combinations schema domains) (mod_below n (combinations schema domains) some),
    )

pub length_digits : (schema : DatabaseSchema) (domains : List ℕ) (n : ℕ) → length (digits schema domains n) ≡ length domains
length_digits schema [] n = refl
length_digits schema (d ∷ domains) n = ap suc (length_digits schema domains (n % combinations schema domains))

-- indices past the domains say nothing
chosen_front : (domains indices more : List ℕ) → length indices ≡ length domains → chosen domains (indices ++ more) ≡ chosen domains indices
chosen_front [] [] more same = refl
chosen_front [] (i ∷ indices) more same = refl
chosen_front (d ∷ domains) [] more same = absurd (omega arith)
chosen_front (d ∷ domains) (i ∷ indices) more same = ap (λ constants. constant_at d i ∷ constants) (chosen_front domains indices more (omega arith))

pub chosen_in_four : (schema : DatabaseSchema) (domains : List ℕ) (n : ℕ)
    → chosen domains (in_four (digits schema domains n)) ≡ chosen domains (digits schema domains n)
chosen_in_four schema domains n = chosen_front domains (digits schema domains n) _ (length_digits schema domains n)

-- no constant is chosen behind the shorter list
pub none_chosen : (domains indices : List ℕ) (k : ℕ) → k ≡ min (length domains) (length indices) → chosen (drop k domains) (drop k indices) ≡ []
none_chosen [] [] zero is = refl
none_chosen [] (i ∷ indices) zero is = refl
none_chosen (d ∷ domains) [] zero is = refl
none_chosen (d ∷ domains) (i ∷ indices) zero is = absurd (omega arith)
none_chosen [] indices (suc k) is = absurd (omega arith)
none_chosen (d ∷ domains) [] (suc k) is = absurd (omega arith)
none_chosen (d ∷ domains) (i ∷ indices) (suc k) is = none_chosen domains indices k (omega arith)

-- the product of four sizes fits
pub product_fits : (a b k : ℕ) → a ≤ 1024 → b ≤ 1024 ^ k → k ≤ 3 → Fits w64 (a * b)
product_fits a b k small fit few =
    let power : 1024 ^ k ≤ 1024 ^ 3 = pow-le-pow_right (omega arith) few in
    let product : a * b ≤ 1024 * 1024 ^ 3 = mul-le a b 1024 (1024 ^ 3) small (omega arith) in
    omega arith

-- ---- the digits, one after the other

pub quotient_less : (n k : ℕ) → 0 < k → n / k ≤ n
quotient_less n zero some = absurd (omega arith)
quotient_less n (suc k) some =
    let whole : n / suc k * suc k + n % suc k ≡ n = div-add-mod' n (suc k) in
    let once : n / suc k * 1 ≤ n / suc k * suc k = mul-le (n / suc k) 1 (n / suc k) (suc k) (omega arith) (omega arith) in
    omega arith

pub rest_less : (n k m : ℕ) → 0 < k → n ≤ m → n % k ≤ m
rest_less n k m some low =
    let whole : n / k * k + n % k ≡ n = div-add-mod' n k in
    omega arith

drop_twice : {X : Type 0} (k : ℕ) (xs : List X) → drop (suc k) xs ≡ drop 1 (drop k xs)
drop_twice zero xs = refl
drop_twice (suc k) [] = refl
drop_twice (suc k) (x ∷ xs) = drop_twice k xs

drop_next : {X : Type 0} (k : ℕ) (xs : List X) → drop (k + 1) xs ≡ drop 1 (drop k xs)
drop_next k xs = ap (λ n. drop n xs) (add-one k) ∙ drop_twice k xs

-- how a number of a place and its rest lie
pub record AtPlace (schema : DatabaseSchema) (domains : List ℕ) (place rest others : ℕ) : Type 0 where
  pub some : 0 < others
  pub digits : digits schema (drop place domains) rest ≡ rest / others ∷ digits schema (drop (place + 1) domains) (rest % others)
  pub left : rest % others < combinations schema (drop (place + 1) domains)

pub at_place : (schema : DatabaseSchema) (domains : List ℕ) (place rest others : ℕ) → place < length domains
    → others ≡ combinations schema (take (length domains - (place + 1)) (drop (place + 1) domains)) → rest < combinations schema (drop place domains)
    → AtPlace schema domains place rest others
at_place schema domains place rest others within of low =
    let all : length (drop (place + 1) domains) ≡ length domains - (place + 1) = length-drop (place + 1) domains in
    let whole : take (length domains - (place + 1)) (drop (place + 1) domains) ≡ drop (place + 1) domains =
    ap (λ n. take n (drop (place + 1) domains)) (sym all) ∙ take-length (drop (place + 1) domains) in
    let is : others ≡ combinations schema (drop (place + 1) domains) = of ∙ ap (combinations schema) whole in
    let size = domain_size schema (get_or domains place 0) in
    let product : combinations schema (drop place domains) ≡ size * combinations schema (drop (place + 1) domains) =
    at_drop_more (λ ds. combinations schema ds) domains place 0 within in
    let below : rest < size * others = subst (λ n. rest < size * n) (sym is) (subst (λ n. rest < n) product low) in
    let positive : 0 < others = some_ways rest size others below in
    let parts : digits schema (drop place domains) rest
    ≡ rest / combinations schema (drop (place + 1) domains)
    ∷ digits schema (drop (place + 1) domains) (rest % combinations schema (drop (place + 1) domains)) =
    at_drop_more (λ ds. digits schema ds rest) domains place 0 within in
    record {
      some = positive;
      digits = subst (λ n. digits schema (drop place domains) rest ≡ rest / n ∷ digits schema (drop (place + 1) domains) (rest % n)) (sym is) parts;
      left = subst (λ n. rest % others < n) is (mod_below rest others positive);
    }

-- one digit more is written
pub digit_made : (schema : DatabaseSchema) (domains made : List ℕ) (place rest others : ℕ) (all : List ℕ) → AtPlace schema domains place rest others
    → place < length made → take place made ++ digits schema (drop place domains) rest ≡ all
    → take (place + 1) (set made place (rest / others)) ++ digits schema (drop (place + 1) domains) (rest % others) ≡ all
digit_made schema domains made place rest others all at within before =
    ap (λ front. front ++ digits schema (drop (place + 1) domains) (rest % others)) (take_more_set made place (rest / others) within)
    ∙ append_assoc (take place made) (rest / others ∷ []) (digits schema (drop (place + 1) domains) (rest % others))
    ∙ ap (λ behind. take place made ++ behind) (sym at.digits) ∙ before

pub zeros_behind : (made : List ℕ) (place digit : ℕ) → drop place made ≡ replicate (4 - place) 0
    → drop (place + 1) (set made place digit) ≡ replicate (4 - (place + 1)) 0
zeros_behind made place digit zeros =
    let less : (4 - place) - 1 ≡ 4 - (place + 1) = omega arith in
    let behind : drop (place + 1) made ≡ replicate ((4 - place) - 1) 0 =
    drop_next place made ∙ ap (drop 1) zeros ∙ drop-replicate 1 (4 - place) 0 in
    drop-set-lt (place + 1) made place digit (omega arith) ∙ subst (λ n. drop (place + 1) made ≡ replicate n 0) less behind
