-- Secrecies are taken off the beginning of the secrets.
use Rattle.std.proofs.Common.{◌≡◌, ◌≤◌, ◌+◌, ◌*◌, ℕ, zero, suc, List, [], ◌∷◌, ◌++◌, length, map, drop, refl, sym, ap, ◌∙◌, arith}
use Rattle.std.specs.Prelude.{Option, slice_index_or, remove}
use Rattle.std.proofs.lemmas.List.{length-map, length-drop}
use Rattle.cqe_base.specs.Schema.{Text}
use Rattle.audit_print.specs.Said.{secrecy_of, secrecies_in}

abbrev SecretSaid : Type 0
SecretSaid = Text × Option (List Text)

abbrev none : List SecretSaid
none = []

drop_none : (n : ℕ) → drop n none ≡ none
drop_none zero = refl
drop_none (suc n) = refl

twice : (n : ℕ) → 2 * suc n ≡ suc (suc (2 * n))
twice n = omega arith

-- the next two secrets are the next secrecy
next_pair : (n : ℕ) (all : List SecretSaid) (stated negated : SecretSaid) (rest : List SecretSaid) → drop (2 * n) all ≡ stated ∷ negated ∷ rest
    → (secrecies_in (suc n) all ≡ secrecies_in n all ++ secrecy_of stated negated ∷ []) × (drop (2 * suc n) all ≡ rest)
next_pair zero all stated negated rest at = (ap (secrecies_in 1) at, ap (drop 2) at)
next_pair (suc n) [] stated negated rest at = let gone = sym (drop_none (2 * suc n)) ∙ at in absurd (cc)
next_pair (suc n) (x ∷ []) stated negated rest at =
    let gone = sym (drop_none (suc (2 * n))) ∙ sym (ap (λ m. drop m (x ∷ [])) (twice n)) ∙ at in absurd (cc)
next_pair (suc n) (x ∷ y ∷ all) stated negated rest at =
    let next = next_pair n all stated negated rest (sym (ap (λ m. drop m (x ∷ y ∷ all)) (twice n)) ∙ at) in
    (ap (λ l. secrecy_of x y ∷ l) next.0, ap (λ m. drop m (x ∷ y ∷ all)) (twice (suc n)) ∙ next.1)

-- two elements that are removed at the beginning
two_removed : {X : Type 0} (all once rest : List X) (first second : X) → 2 ≤ length all → first ≡ slice_index_or all 0 first → once ≡ remove all 0
    → second ≡ slice_index_or once 0 second → rest ≡ remove once 0 → all ≡ first ∷ second ∷ rest
two_removed [] once rest first second many a b c d = absurd (omega (arith, many))
two_removed (x ∷ []) once rest first second many a b c d = absurd (omega (arith, many))
two_removed (x ∷ y ∷ behind) once rest first second many a b c d =
    let second_is : second ≡ y = c ∙ ap (λ l. slice_index_or l 0 second) b in
    let rest_is : rest ≡ behind = d ∙ ap (λ l. remove l 0) b in
    (λ i. sym a i ∷ sym second_is i ∷ sym rest_is i)

-- one more secrecy is taken off
pub taken : {R : Type 0} (said_in : R → SecretSaid) (all here once rest : List R) (stated negated : R) (n : ℕ)
    → map said_in here ≡ drop (2 * n) (map said_in all) → 2 * (n + 1) ≤ length all → stated ≡ slice_index_or here 0 stated → once ≡ remove here 0
    → negated ≡ slice_index_or once 0 negated → rest ≡ remove once 0
    → (secrecies_in (n + 1) (map said_in all) ≡ secrecies_in n (map said_in all) ++ secrecy_of (said_in stated) (said_in negated) ∷ [])
    × (drop (2 * (n + 1)) (map said_in all) ≡ map said_in rest)
taken said_in all here once rest stated negated n left enough a b c d =
    let whole = length-map all said_in in
    let part = length-map here said_in in
    let left_length = ap length left in
    let dropped = length-drop (2 * n) (map said_in all) in
    let many : 2 ≤ length here = omega (arith, whole, part, left_length, dropped, enough) in
    let is = two_removed here once rest stated negated many a b c d in
    let more : n + 1 ≡ suc n = omega arith in
    let next = next_pair n (map said_in all) (said_in stated) (said_in negated) (map said_in rest) (sym left ∙ ap (map said_in) is) in
    (ap (λ m. secrecies_in m (map said_in all)) more ∙ next.0, ap (λ m. drop (2 * m) (map said_in all)) more ∙ next.1)
