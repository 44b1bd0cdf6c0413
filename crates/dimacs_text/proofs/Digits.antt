-- How many digits numbers have.
use Rattle.std.proofs.Common.{ℕ, ◌≤◌, length, arith}
use Rattle.std.specs.Prelude.{decimal}
use Rattle.std.proofs.lemmas.Fmt.{length-decimal-le}

-- the number of a kind has one
pub digit_length : (n : ℕ) → n ≤ 8 → length (decimal n) ≤ 1
digit_length n small = length-decimal-le 1 n (omega arith) (omega arith) (omega arith)
