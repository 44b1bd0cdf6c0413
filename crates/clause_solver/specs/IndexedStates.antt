-- The indexed state as plain data, and its invariant.
use Rattle.std.specs.Prelude.{◌≡◌, ◌⊎◌, ◌≤◌, true, List, [], ◌∷◌, map}
use Rattle.cqe_base.specs.Literal.{Literal, Positive, has_literal}
use Rattle.cqe_base.specs.Machine.{Assigned, State as PlainState, level_of}
use Rattle.cqe_base.specs.MachineStates.{IsDistinct, IsReached}
use Rattle.clause_store.specs.PlainLines.{line_of}
use Rattle.clause_solver.specs.Watching.{HaveSameLiterals}
use Rattle.clause_solver.specs.WatchesInside.{AreWatches}
use Rattle.clause_solver.specs.declared.indexed.Indexed.{Indexed}

-- a state as plain data
abbrev pub plain_of : Indexed → PlainState
plain_of s =
    record { clauses = s.clauses; trail = s.assignment.trail; lines = map line_of s.lines.items }

-- all watches were looked at, the sorted clauses are the clauses, and no conflict is being analysed
pub record IsLookedAt (s : Indexed) : Type 0 where
  pub watches : AreWatches s.assignment.variables s.assignment.trail s.watches
  pub same : HaveSameLiterals s.clauses s.watches.sorted
  pub distinct : IsDistinct s.assignment.variables s.assignment.trail
  pub idle : s.resolvent ≡ record { variables = s.assignment.variables; clause = [] }

-- and the machine reaches the state
pub record IsIndexed (s : Indexed) : Type 0 where
  pub looked : IsLookedAt s
  pub reached : IsReached s.assignment.variables (plain_of s)

-- a literal of the highest level among those of a clause beside one, or that one where there is no
-- other
pub record IsHighestBeside (t : List Assigned) (c : List Literal) (l m : Literal) : Type 0 where
  pub inside : (m ≡ l) ⊎ (has_literal c m ≡ true)
  pub highest : (x : Literal) → has_literal c x ≡ true → (x ≡ l)
      ⊎ ((m ≡ l → ⊥) × (level_of t x ≤ level_of t m))

-- the first two literals of a clause, twice the same where it has only one
abbrev pub first_two : List Literal → Literal × Literal
first_two [] = (Positive 0, Positive 0)
first_two (l ∷ []) = (l, l)
first_two (l ∷ m ∷ rest) = (l, m)
