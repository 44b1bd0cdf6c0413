-- A number for each literal.
use Rattle.std.specs.Prelude.{◌≡◌, ℕ, zero, suc, ◌<◌, ◌+◌, ◌*◌, ◌/◌, ◌%◌, ◌==◌, if◌then◌else◌}
use Rattle.std.proofs.Math.Nat.{add-zero, mod-lt, zero-lt-suc, div-add-mod, not-suc-le-zero}
use Rattle.std.proofs.Math.Nat.{le_of_suc-le-suc}
use Rattle.std.proofs.Common.{sym, ◌∙◌}
use Rattle.cqe_base.specs.Literal.{Literal, Positive, Negative}

-- twice its variable, and one more where it is negated
abbrev pub code_of : Literal → ℕ
code_of (Positive v) = 2 * v
code_of (Negative v) = 2 * v + 1

-- the literal of a code
abbrev pub literal_of_code : ℕ → Literal
literal_of_code k = if k % 2 == 0 then Positive (k / 2) else Negative (k / 2)

-- a proof: a number is the code of its literal
pub code_of-literal_of_code : (k : ℕ) → code_of (literal_of_code k) ≡ k
code_of-literal_of_code k = at (k % 2) (mod-lt k (zero-lt-suc 1)) (div-add-mod k 2)
  where
    at : (r : ℕ) → r < 2 → 2 * (k / 2) + r ≡ k
        → code_of (if r == 0 then Positive (k / 2) else Negative (k / 2)) ≡ k
    at zero low e = sym (add-zero (2 * (k / 2))) ∙ e
    at (suc zero) low e = e
    at (suc (suc r)) low e = absurd (not-suc-le-zero (le_of_suc-le-suc (le_of_suc-le-suc low)))
