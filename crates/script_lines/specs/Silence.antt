-- The lines of a script that say nothing.
use Rattle.std.specs.Prelude.{◌==◌, Bool, false, ◌||◌, [], ◌∷◌}
use Rattle.std.specs.List.{list_all}
use Rattle.cqe_base.specs.Schema.{Text}
use Rattle.cqe_base.specs.Tokens.{is_blank}

-- a comment begins with `#`
abbrev pub is_comment : Text → Bool
is_comment [] = false
is_comment (b ∷ rest) = b == 35

-- a line that says nothing, which may hold any bytes: one of blanks, or a comment
abbrev pub is_silent : Text → Bool
is_silent line = list_all is_blank line || is_comment line
