-- One clash of two clauses.
use Rattle.std.specs.Prelude.{Bool, false, not, List, [], ◌∷◌, Option, Some, None}
use Rattle.cqe_base.specs.Literal.{Literal, same_literal}

-- the literal of a list of exactly one
abbrev pub only : List Literal → Option Literal
only [] = None
only (l ∷ []) = Some l
only (l ∷ m ∷ rest) = None

-- whether there is a literal, and not this one
abbrev pub is_other : Option Literal → Literal → Bool
is_other None literal = false
is_other (Some found) literal = not (same_literal found literal)
