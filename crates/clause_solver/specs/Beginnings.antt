-- Lists that begin or end with another.
use Rattle.std.specs.Prelude.{◌≡◌, List, ◌++◌}
use Rattle.cqe_base.specs.Literal.{Literal}
use Rattle.cqe_base.specs.Machine.{Assigned}

-- the first list is a beginning of the second
abbrev pub IsBeginning : (kept clauses : List (List Literal)) → Type 0
IsBeginning kept clauses = (more : List (List Literal)) × (clauses ≡ kept ++ more)

-- a trail ends with these oldest entries
abbrev pub EndsWith : (oldest trail : List Assigned) → Type 0
EndsWith oldest trail = (latest : List Assigned) × (trail ≡ latest ++ oldest)
