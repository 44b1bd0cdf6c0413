-- A clause with a mark for each of its literals.
use Rattle.std.specs.Prelude.{◌≡◌, ℕ, ◌*◌, Bool, false, List, length, slice_index_or}
use Rattle.cqe_base.specs.Literal.{Literal, has_literal}
use Rattle.clause_store.specs.Codes.{code_of}

-- a clause, and how many variables there are
pub record Marking : Type 0 where
  pub variables : ℕ
  pub clause : List Literal

-- of the literals of n variables those of the clause are marked, and it has no others
pub record AreMarksOf (n : ℕ) (clause : List Literal) (marks : List Bool) : Type 0 where
  pub room : length marks ≡ 2 * n
  pub marked : (l : Literal) → slice_index_or marks (code_of l) false ≡ has_literal clause l
