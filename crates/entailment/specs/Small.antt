-- Numbers that the lines of a refutation have.
use Rattle.std.specs.Prelude.{ℕ, Bool, ◌&&◌, nat_le}
use Rattle.std.specs.List.{list_all}
use Rattle.cqe_base.specs.Literal.{Literal, variable_of}
use Rattle.cqe_base.specs.Refutation.{RefutationLine}

-- the greatest number of a variable or a clause
abbrev pub greatest_number : ℕ
greatest_number = 2147483646

-- whether a number is at most that
abbrev pub is_small_number : ℕ → Bool
is_small_number n = nat_le n greatest_number

-- whether that of a literal's variable is
abbrev pub is_small_literal : Literal → Bool
is_small_literal literal = is_small_number (variable_of literal)

-- whether those of a line are
abbrev pub is_small_line : RefutationLine → Bool
is_small_line line =
    list_all is_small_literal line.clause && list_all is_small_number line.chain
