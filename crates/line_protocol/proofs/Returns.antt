-- A carriage return at the end of bytes, and none.
use Rattle.std.proofs.Common.{◌≡◌, ◌≢◌, ℕ, suc, ◌-◌, ◌==◌, true, false, List, [], ◌∷◌, length, take, ap, ◌∙◌, sym, refl, arith}
use Rattle.std.specs.Prelude.{slice_get, Some}
use Rattle.std.proofs.lemmas.Bool.Decides.{nat_tests}
use Rattle.cqe_base.specs.Lines.{without_return}

pub without_last : (bytes : List ℕ) → slice_get bytes (length bytes - 1) ≡ Some 13 → without_return bytes ≡ take (length bytes - 1) bytes
without_last [] last = refl
without_last (b ∷ []) last =
    let same : b ≡ 13 = cc in
    let equal : (b == 13) ≡ true = grind (arith, nat_tests) in
    rw equal refl
without_last (b ∷ c ∷ rest) last =
    let before : length (b ∷ c ∷ rest) - 1 ≡ suc (length (c ∷ rest) - 1) = omega arith in
    let last' : slice_get (b ∷ c ∷ rest) (suc (length (c ∷ rest) - 1)) ≡ Some 13 = ap (λ (n : ℕ). slice_get (b ∷ c ∷ rest) n) (sym before) ∙ last in
    rw before (ap (λ (l : List ℕ). b ∷ l) (without_last (c ∷ rest) last'))

pub without_none : (bytes : List ℕ) → slice_get bytes (length bytes - 1) ≢ Some 13 → without_return bytes ≡ bytes
without_none [] last = refl
without_none (b ∷ []) last =
    let differs : (b == 13) ≡ false = grind (arith, nat_tests) in
    rw differs refl
without_none (b ∷ c ∷ rest) last =
    let before : length (b ∷ c ∷ rest) - 1 ≡ suc (length (c ∷ rest) - 1) = omega arith in
    ap (λ (l : List ℕ). b ∷ l) (without_none (c ∷ rest) (λ is. last (ap (λ (n : ℕ). slice_get (b ∷ c ∷ rest) n) before ∙ is)))
