-- The lines of a refutation, and a conflict before its line is known.
use Rattle.std.specs.Prelude.{◌≡◌, ◌⊎◌, ℕ, true, List, [], Some, slice_index_or}
use Rattle.std.specs.List.{position_from, list_all}
use Rattle.cqe_base.specs.Literal.{Literal}
use Rattle.cqe_base.specs.Machine.{Assigned, State, is_false, level}
use Rattle.cqe_base.specs.Refutation.{RefutationLine}

-- a line with this clause and this chain
abbrev pub line_with : List Literal → List ℕ → RefutationLine
line_with clause chain = record { clause = clause; chain = chain }

-- a state with these clauses and this trail, and without lines
abbrev pub state_at : List (List Literal) → List Assigned → State
state_at clauses trail = record { clauses = clauses; trail = trail; lines = [] }

-- the first clause with only false literals has this number
abbrev pub IsConflict : State → ℕ → Type 0
IsConflict s i = position_from (list_all (is_false s.trail)) 0 s.clauses ≡ Some i

-- this clause has only false literals, and is the first such one, or nothing was decided
abbrev pub IsAnalysable : State → ℕ → Type 0
IsAnalysable s i = IsConflict s i
    ⊎ ((level s.trail ≡ 0) × (list_all (is_false s.trail) (slice_index_or s.clauses i []) ≡ true))
