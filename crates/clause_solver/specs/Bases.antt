-- What a state goes back to.
use Rattle.std.specs.Prelude.{◌≡◌, List, length}
use Rattle.cqe_base.specs.Literal.{Literal}
use Rattle.cqe_base.specs.Machine.{Assigned, level}
use Rattle.clause_solver.specs.Beginnings.{IsBeginning, EndsWith}
use Rattle.clause_solver.specs.WatchesInside.{AreWatchedUnder}
use Rattle.clause_solver.specs.declared.indexed.Indexed.{Indexed}

-- first clauses and oldest entries of a trail
pub record Base : Type 0 where
  pub clauses : List (List Literal)
  pub trail : List Assigned

-- a state has them, of level 0, and watches the clauses as under these entries alone
abbrev pub StandsOn : Base → Indexed → Type 0
StandsOn b s = IsBeginning b.clauses s.clauses
    × EndsWith b.trail s.assignment.trail
    × (level b.trail ≡ 0)
    × AreWatchedUnder b.trail (length b.clauses) s.watches

-- a state stands on all that another one stands on
abbrev pub KeepsBases : (old new : Indexed) → Type 0
KeepsBases old new = (b : Base) → StandsOn b old → StandsOn b new
