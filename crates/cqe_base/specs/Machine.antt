-- The search machine: its state, its four rules in order, their costs, and its end.
use Rattle.std.specs.Prelude.{ℕ, zero, suc, ◌+◌, ◌≡◌, Bool, not, ◌&&◌, if◌then◌else◌, nat_lt}
use Rattle.std.specs.Prelude.{nat_le, ◌==◌, max, List, [], ◌∷◌, ◌++◌, length, map, Option, Some}
use Rattle.std.specs.Prelude.{None, slice_index_or}
use Rattle.std.specs.List.{filter, find, list_any, list_all, position_from, range_with_len}
use Rattle.std.specs.List.{count_by}
use Rattle.cqe_base.specs.Literal.{Literal, Positive, Negative, variable_of, opposite, same_literal}
use Rattle.cqe_base.specs.Literal.{has_literal}
use Rattle.cqe_base.specs.Refutation.{RefutationLine, resolvent}

-- a literal of the trail: decided, or true because of the clause of this number
pub data Assigned : Type 0 where
  Decided : (literal : Literal) → Assigned
  Because : (clause : ℕ) (literal : Literal) → Assigned

-- the literal that was assigned
abbrev pub assigned_literal : Assigned → Literal
assigned_literal (Decided l) = l
assigned_literal (Because i l) = l

-- the given and then the learnt clauses, the trail with its latest literal first, and a line for
-- each learnt clause
pub record State : Type 0 where
  pub clauses : List (List Literal)
  pub trail : List Assigned
  pub lines : List RefutationLine

-- nothing is assigned or learnt yet
abbrev pub start : List (List Literal) → State
start clauses = record { clauses = clauses; trail = []; lines = [] }

-- a literal on the trail is true
abbrev pub is_true : List Assigned → Literal → Bool
is_true trail l = list_any (λ a. same_literal l (assigned_literal a)) trail

-- a literal whose opposite is on the trail is false
abbrev pub is_false : List Assigned → Literal → Bool
is_false trail l = is_true trail (opposite l)

-- the number of decisions on a trail: the level of its latest literal, and the current level
abbrev pub level : List Assigned → ℕ
level [] = 0
level (Decided l ∷ trail) = suc (level trail)
level (Because i l ∷ trail) = level trail

-- the level of a true or a false literal: that of the trail up to and with its variable
abbrev pub level_of : List Assigned → Literal → ℕ
level_of [] l = 0
level_of (a ∷ trail) l =
    if variable_of l == variable_of (assigned_literal a) then level (a ∷ trail)
    else level_of trail l

-- a literal of the current level
abbrev pub is_current : List Assigned → Literal → Bool
is_current trail l = level_of trail l == level trail

-- a clause resolved with one more clause, whose number joins the chain
abbrev pub resolved_line : List (List Literal) → ℕ → Literal → RefutationLine → RefutationLine
resolved_line clauses i l line =
    record {
      clause = resolvent (variable_of l) line.clause (slice_index_or clauses i []);
      chain = line.chain ++ i ∷ [];
    }

-- how many literals of a clause are of the current level
abbrev pub current_count : List Assigned → List Literal → ℕ
current_count trail clause = count_by (is_current trail) clause

-- the latest literal of the trail whose opposite the clause has
abbrev pub latest_against : List Assigned → List Literal → Option Assigned
latest_against trail clause = find (λ a. has_literal clause (opposite (assigned_literal a))) trail

-- the line resolved with the cause of that literal; a decision has none
abbrev pub resolved_with : List (List Literal) → Option Assigned → RefutationLine → RefutationLine
resolved_with clauses None line = line
resolved_with clauses (Some (Decided l)) line = line
resolved_with clauses (Some (Because i l)) line = resolved_line clauses i l line

-- while more than `keep` literals of the clause are of the current level, the one whose opposite
-- stands latest on the trail is resolved away with that opposite's cause; at most so many times
abbrev pub analysis : List (List Literal) → List Assigned → (keep times : ℕ) → RefutationLine
    → RefutationLine
analysis clauses trail keep zero line = line
analysis clauses trail keep (suc times) line =
    if nat_lt keep (current_count trail line.clause)
    then analysis clauses trail keep times
    (resolved_with clauses (latest_against trail line.clause) line)
    else line

-- how many literals of the current level a conflict's clause keeps: one, or none where nothing was
-- decided
abbrev pub kept_count : List Assigned → ℕ
kept_count trail = if level trail == 0 then 0 else 1

-- the line that a conflict gives; each resolution goes back along the trail, so its length bounds
-- their number
abbrev pub conflict_line : State → ℕ → RefutationLine
conflict_line s i =
    analysis s.clauses s.trail (kept_count s.trail) (length s.trail)
    record { clause = slice_index_or s.clauses i []; chain = i ∷ [] }

-- a conflict costs one, one for each resolution and one for each literal of the line's clause; the
-- chain has the number of the conflict's clause and one for each resolution
abbrev pub conflict_cost : RefutationLine → ℕ
conflict_cost line = length line.chain + length line.clause

-- the highest level of some literals, or 0
abbrev pub highest_level : List Assigned → List Literal → ℕ
highest_level trail [] = 0
highest_level trail (l ∷ rest) = max (level_of trail l) (highest_level trail rest)

-- the trail up to its last literal of a level of at most k
abbrev pub cut : ℕ → List Assigned → List Assigned
cut k [] = []
cut k (a ∷ trail) = if nat_le (level (a ∷ trail)) k then a ∷ trail else cut k trail

-- a literal joins the trail because of a clause
abbrev pub with_asserted : ℕ → Option Literal → List Assigned → List Assigned
with_asserted i None trail = trail
with_asserted i (Some l) trail = Because i l ∷ trail

-- the line's clause is learnt, the trail is cut to the highest level of its other literals, and its
-- literal of the current level joins the trail
abbrev pub state_after_conflict : State → RefutationLine → State
state_after_conflict s line =
    record {
      clauses = s.clauses ++ line.clause ∷ [];
      trail =
          with_asserted (length s.clauses) (find (is_current s.trail) line.clause)
          (cut (highest_level s.trail (filter (λ l. not (is_current s.trail l)) line.clause))
          s.trail);
      lines = s.lines ++ line ∷ [];
    }

-- how the machine ends: with a sign for each variable, or with a refutation
pub data End : Type 0 where
  Model : (signs : List Bool) → End
  Refuted : (lines : List RefutationLine) → End

-- what a step does: it leads to a state or to the end, at a cost
pub data Step : Type 0 where
  Continues : (cost : ℕ) (state : State) → Step
  Ends : (cost : ℕ) (end : End) → Step

-- the first rule: a clause with only false literals
abbrev pub conflict_step : State → ℕ → Step
conflict_step s i =
    let line = conflict_line s i in
    if level s.trail == 0 then Ends (conflict_cost line) (Refuted (s.lines ++ line ∷ []))
    else Continues (conflict_cost line) (state_after_conflict s line)

-- the literal where it is the only one and isn't true
abbrev pub only_literal : List Assigned → List Literal → Option Literal
only_literal trail [] = None
only_literal trail (l ∷ []) = if is_true trail l then None else Some l
only_literal trail (l ∷ m ∷ rest) = None

-- the one literal of a clause that isn't false, where no literal of it is true
abbrev pub unit_literal : List Assigned → List Literal → Option Literal
unit_literal trail clause = only_literal trail (filter (λ l. not (is_false trail l)) clause)

-- the literal with the clause's number, or else what the later clauses give
abbrev pub unit_or : ℕ → Option Literal → Option (ℕ × Literal) → Option (ℕ × Literal)
unit_or i None later = later
unit_or i (Some l) later = Some (i, l)

-- the first clause that has such a literal, with its number, where the clauses are numbered from i
abbrev pub first_unit : List Assigned → ℕ → List (List Literal) → Option (ℕ × Literal)
first_unit trail i [] = None
first_unit trail i (clause ∷ rest) =
    unit_or i (unit_literal trail clause) (first_unit trail (i + 1) rest)

-- the lowest variable below n that isn't assigned
abbrev pub first_unassigned : List Assigned → ℕ → Option ℕ
first_unassigned trail n =
    find (λ v. not (is_true trail (Positive v))
    && not (is_true trail (Negative v))) (range_with_len 0 n)

-- the signs of the variables below n
abbrev pub signs_of : List Assigned → ℕ → List Bool
signs_of trail n = map (λ v. is_true trail (Positive v)) (range_with_len 0 n)

-- the third rule decides the lowest variable that isn't assigned, as false; the fourth ends with
-- the model
abbrev pub decide_step : ℕ → State → Option ℕ → Step
decide_step n s None = Ends 1 (Model (signs_of s.trail n))
decide_step n s (Some v) = Continues 1 (record s { trail = Decided (Negative v) ∷ s.trail })

-- the second rule: a clause with no true literal and one that isn't false
abbrev pub unit_step : ℕ → State → Option (ℕ × Literal) → Step
unit_step n s None = decide_step n s (first_unassigned s.trail n)
unit_step n s (Some unit) = Continues 1 (record s { trail = Because unit.0 unit.1 ∷ s.trail })

-- the first rule, where there is a conflict, and else the others
abbrev pub conflict_or_unit_step : ℕ → State → Option ℕ → Step
conflict_or_unit_step n s None = unit_step n s (first_unit s.trail 0 s.clauses)
conflict_or_unit_step n s (Some i) = conflict_step s i

-- one step with n variables: the first rule that applies, at the lowest clause
unfoldable pub step : ℕ → State → Step
step n s = conflict_or_unit_step n s (position_from (list_all (is_false s.trail)) 0 s.clauses)

-- an end with the whole cost of the steps that led to it
pub record Ended : Type 0 where
  pub end : End
  pub cost : ℕ

-- the end after one more step in front
abbrev pub with_cost : ℕ → Option Ended → Option Ended
with_cost cost None = None
with_cost cost (Some e) = Some (record { end = e.end; cost = cost + e.cost })

-- goes on after a step, or ends
abbrev pub end_after : Step → (State → Option Ended) → Option Ended
end_after (Continues cost s) go = with_cost cost (go s)
end_after (Ends cost end) go = Some (record { end = end; cost = cost })

-- the end and the whole cost, where it is reached in at most so many steps
unfoldable pub end_within : (variables steps : ℕ) → State → Option Ended
end_within n zero s = None
end_within n (suc k) s = end_after (step n s) (end_within n k)

-- the machine on the clauses has this end and this whole cost
abbrev pub MachineEnds : List (List Literal) → ℕ → Ended → Type 0
MachineEnds clauses n e = (steps : ℕ) × (end_within n steps (start clauses) ≡ Some e)

-- the end, where the whole cost is within the budget
abbrev pub end_within_cost : ℕ → Option Ended → Option End
end_within_cost budget None = None
end_within_cost budget (Some e) = if nat_le e.cost budget then Some e.end else None

-- the machine's end, or none where its whole cost is above the budget; a step costs at least 1, so
-- no more steps than the budget are looked at
abbrev pub end_within_budget : List (List Literal) → ℕ → ℕ → Option End
end_within_budget clauses n budget = end_within_cost budget (end_within n budget (start clauses))
