-- What holds of each state that the search machine reaches, and of the clause of a conflict once it
-- was analysed.
use Rattle.std.specs.Prelude.{◌≡◌, ◌⊎◌, ℕ, ◌<◌, ◌≤◌, Bool, true, false, not, eqb, List, [], ◌∷◌}
use Rattle.std.specs.Prelude.{length, slice_index_or}
use Rattle.std.specs.List.{list_any, filter, AllByRecursion}
use Rattle.cqe_base.specs.Literal.{Literal, variable_of, has_literal, ClauseBelow, ClausesBelow}
use Rattle.cqe_base.specs.Literal.{HasNoRepeat, HaveNoRepeat}
use Rattle.cqe_base.specs.Machine.{Assigned, Decided, Because, assigned_literal, State, is_true}
use Rattle.cqe_base.specs.Machine.{is_false, current_count}

-- whether a variable is on the trail
abbrev pub is_assigned : List Assigned → ℕ → Bool
is_assigned t v = list_any (λ a. eqb v (variable_of (assigned_literal a))) t

-- the trail's variables are below n, and each is there once
abbrev pub IsDistinct : ℕ → List Assigned → Type 0
IsDistinct n [] = Unit {0}
IsDistinct n (a ∷ t) = (variable_of (assigned_literal a) < n)
    × (is_assigned t (variable_of (assigned_literal a)) ≡ false) × IsDistinct n t

-- the literals are false
abbrev pub AllFalse : List Assigned → List Literal → Type 0
AllFalse t c = AllByRecursion (λ l. is_false t l ≡ true) c

-- the clause that is an entry's cause has its literal, and its other literals were false before it
pub record IsCause (t : List Assigned) (l : Literal) (c : List Literal) : Type 0 where
  pub has : has_literal c l ≡ true
  pub others : AllByRecursion (λ m. (m ≡ l) ⊎ (is_false t m ≡ true)) c

-- a clause that no rule applied to: it has a true literal or two that aren't false
abbrev pub NotForced : List Assigned → List Literal → Type 0
NotForced t c = (list_any (is_true t) c ≡ true) ⊎ (2 ≤ length (filter (λ l. not (is_false t l)) c))

-- each entry of the trail stands there by a rule
abbrev pub Reasons : List (List Literal) → List Assigned → Type 0
Reasons cs [] = Unit {0}
Reasons cs (Decided l ∷ t) = AllByRecursion (NotForced t) cs × Reasons cs t
Reasons cs (Because i l ∷ t) = (i < length cs) × IsCause t l (slice_index_or cs i []) × Reasons cs t

-- what holds of every state that is reached
pub record IsReached (n : ℕ) (s : State) : Type 0 where
  pub distinct : IsDistinct n s.trail
  pub reasons : Reasons s.clauses s.trail
  pub below : ClausesBelow n s.clauses
  pub no_repeat : HaveNoRepeat s.clauses

-- a clause that the analysis may meet: false, without repeats, and with variables below n
pub record IsFalseClause (n : ℕ) (whole : List Assigned) (c : List Literal) : Type 0 where
  pub no_repeat : HasNoRepeat c
  pub below : ClauseBelow n c
  pub falsified : AllFalse whole c

-- what the analysis ends with: such a clause with this many literals of the current level
pub record Walked (n : ℕ) (whole : List Assigned) (keep : ℕ) (c : List Literal) : Type 0 where
  pub clause : IsFalseClause n whole c
  pub count : current_count whole c ≡ keep
