-- States that are kept between searches.
use Rattle.std.specs.Prelude.{◌≡◌, ◌⊎◌, ℕ, ◌<◌, ◌≤◌, ◌^◌, true, false, List, [], Option, Some, None}
use Rattle.std.specs.Prelude.{slice_index_or, nat_le, if◌then◌else◌}
use Rattle.std.specs.List.{list_all}
use Rattle.cqe_base.specs.Literal.{Literal}
use Rattle.cqe_base.specs.Machine.{Assigned, is_false}
use Rattle.cqe_base.specs.KeptTrail.{has_conflict, latest_place, IsKeptTrail}
use Rattle.clause_solver.specs.WatchesInside.{units_of}
use Rattle.clause_solver.specs.IndexedStates.{plain_of, IsIndexed}
use Rattle.clause_solver.specs.declared.indexed.Indexed.{Indexed}
use Rattle.clause_solver.specs.declared.falsified.Falsified.{Falsified}

-- the machine comes to the state on its clauses by the second rule alone
pub record IsKeptState (s : Indexed) : Type 0 where
  pub fits : s.assignment.variables < 2 ^ 31
  pub indexed : IsIndexed s
  pub kept : IsKeptTrail s.clauses s.assignment.trail
  pub no_lines : (plain_of s).lines ≡ []

-- and neither the first nor the second rule applies
pub record IsSettled (s : Indexed) : Type 0 where
  pub state : IsKeptState s
  pub calm : has_conflict s.assignment.trail s.clauses ≡ false
  pub no_units : units_of s.watches ≡ []
  pub no_falsified : s.watches.falsified ≡ None

-- whether all literals of the clause of this number are false
abbrev pub IsFalsifiedAt : List (List Literal) → List Assigned → ℕ → Type 0
IsFalsifiedAt clauses t i = list_all (is_false t) (slice_index_or clauses i []) ≡ true

-- how long the trail is up to and with the latest opposite of the literals of the clause of this
-- number
abbrev pub place_at : List (List Literal) → List Assigned → ℕ → ℕ
place_at clauses t i = latest_place t (slice_index_or clauses i [])

-- Of the falsified clauses from one number up to another this one's place is the least, and of
-- those with that place its number is.
pub record IsLeastFalsified (clauses : List (List Literal)) (t : List Assigned) (start end : ℕ)
    (f : Falsified) : Type 0 where
  pub lowest : start ≤ f.number
  pub below : f.number < end
  pub falsified : IsFalsifiedAt clauses t f.number
  pub placed : place_at clauses t f.number ≡ f.place
  pub least : (i : ℕ) → start ≤ i → i < end → IsFalsifiedAt clauses t i
      → (f.place < place_at clauses t i) ⊎ ((f.place ≡ place_at clauses t i) × (f.number ≤ i))

-- the first of the falsified clauses from one number up to another, if there is one
abbrev pub IsFirstOfFalsified : List (List Literal) → List Assigned → ℕ → ℕ → Option Falsified
    → Type 0
IsFirstOfFalsified clauses t start end None =
    (i : ℕ) → start ≤ i → i < end → IsFalsifiedAt clauses t i → ⊥
IsFirstOfFalsified clauses t start end (Some f) = IsLeastFalsified clauses t start end f

-- the sooner of two, where the second one has the higher number
abbrev pub sooner : Option Falsified → Falsified → Option Falsified
sooner None f = Some f
sooner (Some before) f = if nat_le before.place f.place then Some before else Some f
