-- What is kept of the clauses, as plain data.
use Rattle.std.specs.Prelude.{ℕ, ◌<◌, false, List, [], map, slice_index_or}
use Rattle.cqe_base.specs.Literal.{Positive}
use Rattle.cqe_base.specs.Machine.{Assigned}
use Rattle.clause_solver.specs.declared.watches.Watch.{Watch}
use Rattle.clause_solver.specs.declared.watches.Watches.{Watches}
use Rattle.clause_solver.specs.Beginnings.{EndsWith}
use Rattle.clause_solver.specs.Watching.{IsWatching, IsWatched, no_pair}

-- the watches of each literal
abbrev pub lists_of : Watches → List (List Watch)
lists_of w = map (λ v. v.items) w.lists.items

-- the numbers of the clauses that may be unit
abbrev pub units_of : Watches → List ℕ
units_of w = w.units

-- all watches of false literals were looked at
abbrev pub AreWatches : ℕ → List Assigned → Watches → Type 0
AreWatches n t w =
    IsWatching n t w.sorted (lists_of w) w.pairs.items (units_of w) w.falsified (Positive 0) []

-- so many first clauses are watched under this trail, and none of them is unit or falsified
abbrev pub AreWatchedUnder : List Assigned → ℕ → Watches → Type 0
AreWatchedUnder t count w = (i : ℕ) → i < count
    → IsWatched t (slice_index_or w.sorted i []) (slice_index_or w.pairs.items i no_pair)
    false false

-- first clauses that were watched under the oldest entries of a trail still are
abbrev pub KeepsWatched : List Assigned → (old new : Watches) → Type 0
KeepsWatched t old new = (oldest : List Assigned) (count : ℕ) → EndsWith oldest t
    → AreWatchedUnder oldest count old → AreWatchedUnder oldest count new
