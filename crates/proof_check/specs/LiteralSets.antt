-- Sets of literals, and the clauses that they stand for.
use Rattle.std.specs.Prelude.{◌≡◌, Bool, true, false, List, Option, Some, None, slice_index_or}
use Rattle.std.specs.List.{filter}
use Rattle.cqe_base.specs.Literal.{Literal, has_literal}
use Rattle.clause_store.specs.Codes.{code_of}

-- whether a literal is marked at its code
abbrev pub is_marked : List Bool → Literal → Bool
is_marked marks l = slice_index_or marks (code_of l) false

-- each literal that is marked is among these
abbrev pub AreTouched : List Bool → List Literal → Type 0
AreTouched marks touched = (l : Literal) → is_marked marks l ≡ true → has_literal touched l ≡ true

-- the literals that are marked
abbrev pub marked_of : List Bool → List Literal → List Literal
marked_of marks touched = filter (is_marked marks) touched

-- two lists have the same literals
abbrev pub IsSetOf : List Literal → List Literal → Type 0
IsSetOf set clause = (l : Literal) → has_literal set l ≡ has_literal clause l

-- whether a resolution has a result, and then the set has that one's literals
abbrev pub IsSetOfResult : Bool → List Literal → Option (List Literal) → Type 0
IsSetOfResult resolved set None = resolved ≡ false
IsSetOfResult resolved set (Some clause) = (resolved ≡ true) × IsSetOf set clause
