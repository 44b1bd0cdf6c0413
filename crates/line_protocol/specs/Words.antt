-- The bytes of lines.
use Rattle.std.specs.Prelude.{◌==◌, ◌-◌, ℕ, ◌+◌, ◌*◌, Bool, ◌&&◌, ◌||◌, nat_le, List, length, fold}
use Rattle.std.specs.Prelude.{Option, Some, None, if◌then◌else◌}
use Rattle.std.specs.List.{list_all}
use Rattle.std.specs.Char.{is_ascii_digit}

-- a tab, or a byte from the space to the tilde
abbrev pub is_printable : ℕ → Bool
is_printable b = b == 9 || (nat_le 32 b && nat_le b 126)

-- the number that digits write
abbrev pub decimal_value : List ℕ → ℕ
decimal_value digits = fold (λ n d. 10 * n + (d - 48)) 0 digits

-- the number that a word of one to ten digits writes; any other word is none
abbrev pub number_in : List ℕ → Option ℕ
number_in word =
    if (nat_le 1 (length word) && nat_le (length word) 10) && list_all is_ascii_digit word
    then Some (decimal_value word) else None
