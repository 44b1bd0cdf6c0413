-- A literal as a number that isn't 0: variable v is v + 1, its negation is -(v + 1).
use Rattle.std.specs.Prelude.{◌≡◌, suc, ◌-◌, ◌^◌, ◌⊎◌, ℤ, pos, negsuc}
use Rattle.cqe_base.specs.Literal.{Literal, Positive, Negative}

-- the number that stands for a literal
abbrev pub number_of_literal : Literal → ℤ
number_of_literal (Positive v) = pos (suc v)
number_of_literal (Negative v) = negsuc v

-- the numbers that stand for no literal: 0, and the least one
abbrev pub IsNoLiteral : ℤ → Type 0
IsNoLiteral z = (z ≡ pos 0) ⊎ (z ≡ negsuc (2 ^ 31 - 1))
