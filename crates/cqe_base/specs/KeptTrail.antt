-- The trail that the machine makes of some clauses without a decision, and the search that goes on
-- from it where more clauses stand behind them.
use Rattle.std.specs.Prelude.{◌≡◌, ◌⊎◌, ℕ, ◌+◌, ◌-◌, ◌<◌, ◌≤◌, Bool, true, false, ◌&&◌, max, nat_le}
use Rattle.std.specs.Prelude.{if◌then◌else◌, List, [], ◌∷◌, ◌++◌, length, drop, slice_index_or}
use Rattle.std.specs.Prelude.{Option, Some, None}
use Rattle.std.specs.List.{list_any, list_all, position_from, AllByRecursion}
use Rattle.cqe_base.specs.Literal.{Literal, opposite, same_literal, ClausesBelow, HaveNoRepeat}
use Rattle.cqe_base.specs.Machine.{Assigned, Decided, Because, assigned_literal, State, start}
use Rattle.cqe_base.specs.Machine.{is_false, first_unit, conflict_line, End, Refuted, with_cost}
use Rattle.cqe_base.specs.Machine.{end_within, MachineEnds, end_within_cost, end_within_budget}
use Rattle.cqe_base.specs.MachineStates.{IsDistinct, IsReached}

-- whether some clause has only false literals
abbrev pub has_conflict : List Assigned → List (List Literal) → Bool
has_conflict t clauses = list_any (list_all (is_false t)) clauses

-- The machine's first steps on the clauses make this trail, each by the second rule: before an
-- entry no clause had only false literals, and the entry is that of the lowest unit clause.
abbrev pub IsKeptTrail : List (List Literal) → List Assigned → Type 0
IsKeptTrail clauses [] = Unit {0}
IsKeptTrail clauses (Decided l ∷ t) = ⊥
IsKeptTrail clauses (Because i l ∷ t) = (has_conflict t clauses ≡ false)
    × (first_unit t 0 clauses ≡ Some (i, l)) × IsKeptTrail clauses t

-- the first of two clauses, where there is one
abbrev pub unit_or_later : Option (ℕ × Literal) → Option (ℕ × Literal) → Option (ℕ × Literal)
unit_or_later None later = later
unit_or_later (Some unit) later = Some unit

-- the state with the clauses and a trail, in which nothing is learnt
abbrev pub state_with : List (List Literal) → List Assigned → State
state_with clauses t = record { clauses = clauses; trail = t; lines = [] }

-- before the last entry of the trail none of these clauses had only false literals
abbrev pub NoneFalsifiedBefore : List Assigned → List (List Literal) → Type 0
NoneFalsifiedBefore [] clauses = Unit {0}
NoneFalsifiedBefore (a ∷ t) clauses = has_conflict t clauses ≡ false

-- the clause that is an entry's cause is below this number
abbrev pub CauseBelow : ℕ → Assigned → Type 0
CauseBelow n (Decided l) = Unit {0}
CauseBelow n (Because i l) = i < n

-- the machine's end from a state, where its cost from there is within the budget
abbrev pub end_from_within_budget : State → ℕ → ℕ → Option End
end_from_within_budget s n budget = end_within_cost budget (end_within n budget s)

-- the state behind a probe's clauses: they stand behind the kept ones, under the kept trail
abbrev pub probed : (kept more : List (List Literal)) → List Assigned → State
probed kept more t = state_with (kept ++ more) t

-- the beginnings of a kept trail are kept
abbrev pub KeptBeginsKept : Type 0
KeptBeginsKept = (clauses : List (List Literal)) (t : List Assigned) (latest : ℕ)
    → IsKeptTrail clauses t
    → IsKeptTrail clauses (drop latest t)

-- a kept trail stays kept with more clauses behind, of which none had only false literals before
-- its last entry
abbrev pub KeptStaysWithMore : Type 0
KeptStaysWithMore =
    (clauses more : List (List Literal)) (t : List Assigned)
    → IsKeptTrail clauses t → NoneFalsifiedBefore t more → IsKeptTrail (clauses ++ more) t

-- a kept trail stays kept without the last clauses, where none of them is a cause on it
abbrev pub KeptStaysWithout : Type 0
KeptStaysWithout =
    (clauses more : List (List Literal)) (t : List Assigned)
    → IsKeptTrail (clauses ++ more) t → AllByRecursion (CauseBelow (length clauses)) t
    → IsKeptTrail clauses t

-- what holds of each state that the machine reaches holds of a kept trail, whatever clauses stand
-- behind
abbrev pub KeptIsReached : Type 0
KeptIsReached =
    (kept more : List (List Literal)) (n : ℕ) (t : List Assigned)
    → ClausesBelow n (kept ++ more) → HaveNoRepeat (kept ++ more) → IsKeptTrail kept t
    → IsReached n (probed kept more t)

-- on its way to an end the machine comes by a kept trail, and each of its entries is a step that
-- costs one
abbrev pub SearchGoesOnFromKept : Type 0
SearchGoesOnFromKept =
    (clauses : List (List Literal)) (n steps : ℕ) (t : List Assigned)
    → IsKeptTrail clauses t → end_within n (length t + steps) (start clauses)
    ≡ with_cost (length t) (end_within n steps (state_with clauses t))

-- With clauses of a probe behind the kept ones, none of which had only false literals before the
-- last entry, a search is that which goes on from the kept trail, with the budget that its entries
-- leave. Where they leave none, the budget is spent.
abbrev pub ProbeGoesOnFromKept : Type 0
ProbeGoesOnFromKept =
    (kept more : List (List Literal)) (n budget : ℕ) (t : List Assigned)
    → IsKeptTrail kept t → NoneFalsifiedBefore t more
    → end_within_budget (kept ++ more) n budget
    ≡ end_from_within_budget (probed kept more t) n (budget - length t)

-- Where under the kept trail a clause has only false literals, and none of the probe's had before
-- its last entry, the lowest such clause of all is resolved until nothing is left, and that is the
-- end. It costs one for each entry of the trail and one for each number of the chain.
abbrev pub ProbeIsRefutedAtKept : Type 0
ProbeIsRefutedAtKept =
    (kept more : List (List Literal)) (n number budget : ℕ) (t : List Assigned)
    → ClausesBelow n (kept ++ more) → HaveNoRepeat (kept ++ more)
    → IsKeptTrail kept t → NoneFalsifiedBefore t more
    → position_from (list_all (is_false t)) 0 (kept ++ more) ≡ Some number
    → let line = conflict_line (probed kept more t) number in
    let cost = length t + length line.chain in
    (line.clause ≡ [])
    × MachineEnds (kept ++ more) n record { end = Refuted (line ∷ []); cost = cost }
    × (end_within_budget (kept ++ more) n budget
    ≡ (if nat_le cost budget then Some (Refuted (line ∷ [])) else None))

-- The lowest clause with only false literals is a kept one, where there is one among these, and
-- else the lowest of the probe's, which are numbered on.
abbrev pub LowestIsKeptOrProbes : Type 0
LowestIsKeptOrProbes =
    (kept more : List (List Literal)) (t : List Assigned)
    → position_from (list_all (is_false t)) 0 (kept ++ more)
    ≡ (if has_conflict t kept then position_from (list_all (is_false t)) 0 kept
    else position_from (list_all (is_false t)) (length kept) more)

-- The lowest unit clause is a kept one, where there is one among these, and else the lowest of the
-- probe's.
abbrev pub LowestUnitIsKeptOrProbes : Type 0
LowestUnitIsKeptOrProbes =
    (kept more : List (List Literal)) (t : List Assigned)
    → first_unit t 0 (kept ++ more) ≡ unit_or_later (first_unit t 0 kept)
    (first_unit t (length kept) more)

-- how long a trail is up to and with the opposite of a literal, and 0 where that isn't on it
abbrev pub place_against : List Assigned → Literal → ℕ
place_against [] l = 0
place_against (a ∷ t) l = if same_literal (opposite l) (assigned_literal a) then length
    (a ∷ t) else place_against t l

-- the longest such part for a clause: the shortest beginning that falsifies it, where all of the
-- trail does
abbrev pub latest_place : List Assigned → List Literal → ℕ
latest_place t [] = 0
latest_place t (l ∷ clause) = max (place_against t l) (latest_place t clause)

-- a beginning of a trail falsifies a clause exactly where all of the trail does and the beginning
-- goes as far as the latest of the opposites of the clause's literals
abbrev pub FalsifiedFromItsPlace : Type 0
FalsifiedFromItsPlace =
    (n latest : ℕ) (t : List Assigned) (clause : List Literal)
    → IsDistinct n t
    → list_all (is_false (drop latest t)) clause
    ≡ (list_all (is_false t) clause && nat_le (latest_place t clause) (length t - latest))

-- A clause that has only false literals under a beginning of a kept trail has the same line under
-- all of it: what was assigned later is never met.
abbrev pub LineOfBeginningIsLine : Type 0
LineOfBeginningIsLine =
    (kept more : List (List Literal)) (n number latest : ℕ) (t : List Assigned)
    → ClausesBelow n (kept ++ more) → HaveNoRepeat (kept ++ more)
    → IsKeptTrail kept t → number < length (kept ++ more)
    → list_all (is_false (drop latest t)) (slice_index_or (kept ++ more) number []) ≡ true
    → conflict_line (probed kept more t) number
    ≡ conflict_line (probed kept more (drop latest t)) number

-- Of the clauses that the whole trail falsifies, this one's place is the least, and of those with
-- that place its number is.
pub record IsFirstFalsified (clauses : List (List Literal)) (t : List Assigned)
    (place number : ℕ) : Type 0 where
  pub within : number < length clauses
  pub falsified : list_all (is_false t) (slice_index_or clauses number []) ≡ true
  pub placed : latest_place t (slice_index_or clauses number []) ≡ place
  pub least : (i : ℕ) → i < length clauses → list_all (is_false t) (slice_index_or clauses i [])
      ≡ true
      → (place < latest_place t (slice_index_or clauses i [])) ⊎
      ((place ≡ latest_place t (slice_index_or clauses i [])) × (number ≤ i))

-- Where the kept trail falsifies a clause, kept or of the probe, the machine ends at the first such
-- one. Its line is read off the whole trail. It costs one for each entry up to its place and one
-- for each number of the chain.
abbrev pub ProbeIsRefutedAtItsPlace : Type 0
ProbeIsRefutedAtItsPlace =
    (kept more : List (List Literal)) (n place number budget : ℕ) (t : List Assigned)
    → ClausesBelow n (kept ++ more) → HaveNoRepeat (kept ++ more)
    → IsKeptTrail kept t → IsFirstFalsified (kept ++ more) t place number
    → let line = conflict_line (probed kept more t) number in
    let cost = place + length line.chain in
    (line.clause ≡ [])
    × MachineEnds (kept ++ more) n record { end = Refuted (line ∷ []); cost = cost }
    × (end_within_budget (kept ++ more) n budget
    ≡ (if nat_le cost budget then Some (Refuted (line ∷ [])) else None))

-- where the kept trail falsifies no clause of the probe's, the search goes on from all of it
abbrev pub ProbeGoesOnWhereNoneIsFalsified : Type 0
ProbeGoesOnWhereNoneIsFalsified =
    (kept more : List (List Literal)) (n budget : ℕ) (t : List Assigned)
    → IsKeptTrail kept t → has_conflict t more ≡ false
    → end_within_budget (kept ++ more) n budget
    ≡ end_from_within_budget (probed kept more t) n (budget - length t)
