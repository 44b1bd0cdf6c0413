-- The words of a line, and the numbers that words write.
use Rattle.std.specs.Prelude.{ℕ, ◌==◌, Bool, true, false, not, Option, None, option_map}
use Rattle.std.specs.Prelude.{if◌then◌else◌}
use Rattle.std.specs.Prelude.{List, [], ◌∷◌, length, filter}
use Rattle.std.specs.List.{slice_split}
use Rattle.cqe_base.specs.Schema.{Text}
use Rattle.cqe_base.specs.Tokens.{is_blank}
use Rattle.line_protocol.specs.Words.{number_in}
use Rattle.dimacs_text.specs.declared.words.SignedNumber.{SignedNumber}

-- the words of a line: the pieces between its blanks that aren't empty
abbrev pub words : Text → List Text
words line = filter (λ piece. not (length piece == 0)) (slice_split is_blank line)

-- a number with this sign
abbrev pub signed_number : Bool → ℕ → SignedNumber
signed_number is_negative number = record { is_negative = is_negative; number = number }

-- one to ten digits, with or without a `-` in front
abbrev pub signed_number_in : Text → Option SignedNumber
signed_number_in [] = None
signed_number_in (b ∷ rest) =
    if b == 45 then option_map (signed_number true) (number_in rest)
    else option_map (signed_number false) (number_in (b ∷ rest))
