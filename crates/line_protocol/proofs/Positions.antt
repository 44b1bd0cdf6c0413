-- What a position says.
use Rattle.std.proofs.Common.{◌≡◌, ℕ, ◌≤◌, true, false, cond, arith}
use Rattle.std.specs.Prelude.{Some, None, nat_lt}
use Rattle.std.proofs.lemmas.Bool.Decides.{nat_tests}

-- where a position is some, it is that
pub place_of : (place size n : ℕ) → cond (nat_lt place size) (Some place) None ≡ Some n → place ≡ n
place_of place size n is =
    elim (nat_lt place size) as (λ t. cond t (Some place) None ≡ Some n → place ≡ n) [ true ↦ λ same. cc | false ↦ λ other. cc ] is

-- where it is none, it is past the end
pub past_end : (place size : ℕ) → cond (nat_lt place size) (Some place) None ≡ None → size ≤ place
past_end place size none = grind (arith, nat_tests)
