-- What a search keeps, as the list of its clauses.
use Rattle.std.specs.Prelude.{List}
use Rattle.cqe_base.specs.Literal.{Literal}
use Rattle.clause_solver.specs.KeptStates.{IsSettled}
use Rattle.clause_solver.specs.declared.kept_search.Kept.{Kept}
use Rattle.clause_solver.specs.declared.kept_search.Kept.TheVariants.{Settled, Plain}

-- the clauses that are kept
abbrev pub kept_clauses : Kept → List (List Literal)
kept_clauses (Settled state) = state.clauses
kept_clauses (Plain clauses) = clauses

-- a state that is kept is settled
abbrev pub IsKeptRight : Kept → Type 0
IsKeptRight (Settled state) = IsSettled state
IsKeptRight (Plain clauses) = Unit {0}
