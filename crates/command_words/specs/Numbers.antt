-- The numbers among the words.
use Rattle.std.specs.Prelude.{ℕ, ◌&&◌, nat_le, List, Option, Some, None, option_and_then}
use Rattle.std.specs.Prelude.{if◌then◌else◌}
use Rattle.line_protocol.specs.Words.{number_in}

-- a number that lies between two, or is one of them
abbrev pub within : ℕ → ℕ → ℕ → Option ℕ
within least most n = if nat_le least n && nat_le n most then Some n else None

-- the number that the value of an option writes, between these two
abbrev pub number_from : ℕ → ℕ → Option (List ℕ) → Option ℕ
number_from least most value = option_and_then (within least most) (option_and_then number_in value)

-- the same of an option that may be left out, for which the first number then stands
abbrev pub number_or : ℕ → ℕ → ℕ → Option (List ℕ) → Option ℕ
number_or usual least most None = Some usual
number_or usual least most (Some text) = number_from least most (Some text)
