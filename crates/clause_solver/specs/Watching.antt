-- Two watched literals of each clause under a trail.
use Rattle.std.specs.Prelude.{◌≡◌, ◌⊎◌, ◌&&◌, ◌||◌, not, ℕ, ◌<◌, ◌≤◌, ◌*◌, ◌==◌, nat_le, nat_lt}
use Rattle.std.specs.Prelude.{◌+◌, min, Bool}
use Rattle.std.specs.Prelude.{true, false, List, [], ◌∷◌, ◌++◌, length, Option, Some, None, IfSome}
use Rattle.std.specs.Prelude.{slice_index_or}
use Rattle.std.specs.List.{list_any, list_all, filter, AllByRecursion}
use Rattle.cqe_base.specs.Literal.{Literal, Positive, has_literal, same_literal, ClausesBelow}
use Rattle.cqe_base.specs.Machine.{Assigned, is_true, is_false, level, level_of}
use Rattle.clause_store.specs.Codes.{code_of}
use Rattle.clause_solver.specs.declared.watches.Pair.{Pair}
use Rattle.clause_solver.specs.declared.watches.Watch.{Watch}

-- a true literal of a clause, of at most this level
pub record HasTrue (t : List Assigned) (k : ℕ) (c : List Literal) : Type 0 where
  pub literal : Literal
  pub has : has_literal c literal ≡ true
  pub holds : is_true t literal ≡ true
  pub low : level_of t literal ≤ k

-- Why a watched literal may be false of a level: the clause has a true literal of no higher level,
-- or the level is the current one and the clause is known as a unit one, where the other watched
-- literal isn't false, or as a falsified one.
pub data IsAnswered (t : List Assigned) (c : List Literal) (unit falsified : Bool) (k : ℕ)
    (other : Literal) : Type 0 where
  satisfied : HasTrue t k c → IsAnswered t c unit falsified k other
  is_unit : k ≡ level t → is_false t other ≡ false → unit ≡ true
      → IsAnswered t c unit falsified k other
  is_falsified : k ≡ level t → falsified ≡ true → IsAnswered t c unit falsified k other

-- The watched literals of a clause are two of its literals, or its only one twice. Each that is
-- false is answered; a literal that is missing counts as one that is false of level 0.
pub record IsWatched (t : List Assigned) (c : List Literal) (pair : Pair) (unit falsified : Bool) :
    Type 0 where
  pub first_in : 0 < length c → has_literal c pair.first ≡ true
  pub second_in : 0 < length c → has_literal c pair.second ≡ true
  pub first_answered : is_false t pair.first ≡ true
      → IsAnswered t c unit falsified (level_of t pair.first) pair.second
  pub second_answered : is_false t pair.second ≡ true
      → IsAnswered t c unit falsified (level_of t pair.second) pair.first
  pub single : pair.first ≡ pair.second → length c ≤ 1
  pub alone : 0 < length c → pair.first ≡ pair.second → IsAnswered t c unit falsified 0 pair.first
  pub empty : length c ≡ 0 → (level t ≡ 0) × (falsified ≡ true)

-- The same of a clause that has not been looked at since a literal became false.
pub data IsHalfAnswered (t : List Assigned) (c : List Literal) (unit falsified : Bool) (k : ℕ) :
    Type 0 where
  satisfied_before : HasTrue t k c → IsHalfAnswered t c unit falsified k
  unit_before : k ≡ level t → unit ≡ true → IsHalfAnswered t c unit falsified k
  falsified_before : k ≡ level t → falsified ≡ true → IsHalfAnswered t c unit falsified k

-- A clause of which one watched literal, this one, has just become false: what the other one needs
-- to be is known of the other alone.
pub record IsHalfWatched (t : List Assigned) (c : List Literal) (pair : Pair)
    (unit falsified : Bool) (f : Literal) : Type 0 where
  pub watches : (pair.first ≡ f) ⊎ (pair.second ≡ f)
  pub first_in : 0 < length c → has_literal c pair.first ≡ true
  pub second_in : 0 < length c → has_literal c pair.second ≡ true
  pub first_half : (pair.first ≡ f → ⊥) → is_false t pair.first ≡ true
      → IsHalfAnswered t c unit falsified (level_of t pair.first)
  pub second_half : (pair.second ≡ f → ⊥) → is_false t pair.second ≡ true
      → IsHalfAnswered t c unit falsified (level_of t pair.second)
  pub single : pair.first ≡ pair.second → length c ≤ 1
  pub alone_half : 0 < length c → pair.first ≡ pair.second → IsHalfAnswered t c unit falsified 0
  pub empty : length c ≡ 0 → (level t ≡ 0) × (falsified ≡ true)

-- whether a number is in a list
abbrev pub has_number : List ℕ → ℕ → Bool
has_number numbers i = list_any (λ m. m == i) numbers

-- one more number in a list
abbrev pub IsWith : ℕ → List ℕ → List ℕ → Type 0
IsWith k old new = (i : ℕ) → has_number new i ≡ (has_number old i || (k == i))

-- the least of a list's numbers
pub record IsLeast (numbers : List ℕ) (k : ℕ) : Type 0 where
  pub there : has_number numbers k ≡ true
  pub low : (i : ℕ) → has_number numbers i ≡ true → k ≤ i

-- a list of numbers that is shorter, and lacks none but perhaps this one
pub record IsWithout (k : ℕ) (old new : List ℕ) : Type 0 where
  pub fewer : (i : ℕ) → has_number new i ≡ true → has_number old i ≡ true
  pub others : (i : ℕ) → (i ≡ k → ⊥) → has_number old i ≡ true → has_number new i ≡ true
  pub shorter : length new < length old

-- the least of a list's numbers goes
abbrev pub DropsLeast : List ℕ → List ℕ → Type 0
DropsLeast old new = (k : ℕ) → IsLeast old k → IsWithout k old new

-- whether a clause is in a list of watches
abbrev pub has_clause : List Watch → ℕ → Bool
has_clause watches i = list_any (λ w. w.clause == i) watches

-- the watches of the first clauses, so many
abbrev pub watches_below : ℕ → List Watch → List Watch
watches_below count watches = filter (λ w. nat_lt w.clause count) watches

-- whether a clause is known as falsified that is this one or stands before it
abbrev pub is_caught : Option ℕ → ℕ → Bool
is_caught None i = false
is_caught (Some j) i = nat_le j i

-- the least of some numbers, with one more
abbrev pub lowest : Option ℕ → ℕ → Option ℕ
lowest None i = Some i
lowest (Some j) i = Some (min j i)

-- all literals of a clause but this one are false
abbrev pub AllFalseBut : List Assigned → Literal → List Literal → Type 0
AllFalseBut t l c = AllByRecursion (λ m. (m ≡ l) ⊎ (is_false t m ≡ true)) c

-- a watch is of a clause, and its blocker is a literal of that
pub record IsWatchOf (cs : List (List Literal)) (w : Watch) : Type 0 where
  pub within : w.clause < length cs
  pub blocker : has_literal (slice_index_or cs w.clause []) w.blocker ≡ true

-- no watched literal
abbrev pub no_pair : Pair
no_pair = record { first = Positive 0; second = Positive 0 }

-- 1 where this is so, and else 0
abbrev pub one_if : Bool → ℕ
one_if true = 1
one_if false = 0

-- how many watches in a list are of a clause
abbrev pub times_listed : List Watch → ℕ → ℕ
times_listed [] i = 0
times_listed (w ∷ watches) i = one_if (w.clause == i) + times_listed watches i

-- how many of the two watched literals are this one
abbrev pub times_watched : Pair → Literal → ℕ
times_watched pair l = one_if (same_literal pair.first l) + one_if (same_literal pair.second l)

-- What is kept of clauses under a trail, while the watches of a literal that became false are
-- looked at; those that are left are listed. The numbers are those of the clauses that may be unit.
pub record IsWatching (n : ℕ) (t : List Assigned) (cs : List (List Literal))
    (lists : List (List Watch)) (pairs : List Pair) (units : List ℕ) (falsified : Option ℕ)
    (f : Literal) (left : List Watch) : Type 0 where
  pub below : ClausesBelow n cs
  pub lists_room : length lists ≡ 2 * n
  pub pairs_room : length pairs ≡ length cs
  pub watches : (l : Literal) → AllByRecursion (IsWatchOf cs) (slice_index_or lists (code_of l) [])
  pub first_listed : (i : ℕ) → i < length cs → 0 < length (slice_index_or cs i [])
      → has_clause (slice_index_or lists (code_of (slice_index_or pairs i no_pair).first) []) i
      ≡ true
  pub second_listed : (i : ℕ) → i < length cs → 0 < length (slice_index_or cs i [])
      → has_clause (slice_index_or lists (code_of (slice_index_or pairs i no_pair).second) []) i
      ≡ true
  pub few : (i : ℕ) (l : Literal) → i < length cs
      → times_listed (slice_index_or lists (code_of l) []) i
      ≤ times_watched (slice_index_or pairs i no_pair) l
  pub each : (i : ℕ) → i < length cs →
      IsWatched t (slice_index_or cs i []) (slice_index_or pairs i no_pair) (has_number units i)
      (is_caught falsified i)
      ⊎ ((has_clause left i ≡ true)
      × IsHalfWatched t (slice_index_or cs i []) (slice_index_or pairs i no_pair)
      (has_number units i) (is_caught falsified i) f)
  pub units_are : (i : ℕ) → has_number units i ≡ true → (i < length cs) × (l : Literal)
      × AllFalseBut t l (slice_index_or cs i [])
  pub falsified_is : IfSome falsified (λ i. (i < length cs)
      × (list_all (is_false t) (slice_index_or cs i []) ≡ true))

-- of the watches in the list of this code those of the first clauses, so many, stay
abbrev pub StaysBelow : ℕ → (old new : List (List Watch)) → ℕ → Type 0
StaysBelow count old new k =
    slice_index_or new k [] ≡ watches_below count (slice_index_or old k [])

-- how many watches in a list are of clauses from this number on
abbrev pub times_later : ℕ → List Watch → ℕ
times_later count [] = 0
times_later count (w ∷ watches) = one_if (not (nat_lt w.clause count)) + times_later count watches

-- the watch at this place of a list is of a clause from this number on
pub record IsLater (count : ℕ) (watches : List Watch) (place : ℕ) : Type 0 where
  pub within : place < length watches
  pub later : (w : Watch) → count ≤ (slice_index_or watches place w).clause

-- A list loses so many watches of clauses from this number on, or all of them where they are fewer.
-- It loses no other.
pub record LosesLater (count lost : ℕ) (old new : List Watch) : Type 0 where
  pub below : watches_below count new ≡ watches_below count old
  pub fewer : (left : ℕ) → times_later count old ≤ lost + left → times_later count new ≤ left

-- how many of the literals that some clauses watch are this one
abbrev pub times_watched_by : List Pair → Literal → ℕ
times_watched_by [] l = 0
times_watched_by (pair ∷ pairs) l = times_watched pair l + times_watched_by pairs l

-- the list of each literal loses so many watches of clauses from this number on
abbrev pub HaveLeft : ℕ → (Literal → ℕ) → (old new : List (List Watch)) → Type 0
HaveLeft count lost old new = (l : Literal) → LosesLater count (lost l)
    (slice_index_or old (code_of l) []) (slice_index_or new (code_of l) [])

-- a clause watches this literal and that other one
abbrev pub WatchesBeside : Pair → Literal → Literal → Type 0
WatchesBeside p l other =
    ((p.first ≡ l) × (p.second ≡ other)) ⊎ ((p.second ≡ l) × (p.first ≡ other))

-- the watches of a clause that is kept with a new blocker, or that goes
abbrev pub kept_with : List Watch → ℕ → Option Literal → List Watch
kept_with kept i None = kept
kept_with kept i (Some blocker) = kept ++ record { clause = i; blocker = blocker } ∷ []

-- whether a literal isn't assigned
abbrev pub is_open : List Assigned → Literal → Bool
is_open t l = not (is_true t l) && not (is_false t l)

-- a watched literal that isn't assigned
abbrev pub IsOpenOf : List Assigned → Pair → Literal → Type 0
IsOpenOf t p l = (is_open t l ≡ true) × ((p.first ≡ l) ⊎ (p.second ≡ l))

-- no watched literal is open
abbrev pub AreClosed : List Assigned → Pair → Type 0
AreClosed t p = (is_open t p.first ≡ false) × (is_open t p.second ≡ false)

-- the same literals in each clause of two lists
pub record HaveSameLiterals (cs ds : List (List Literal)) : Type 0 where
  pub room : length cs ≡ length ds
  pub sizes : (i : ℕ) → length (slice_index_or cs i []) ≡ length (slice_index_or ds i [])
  pub same : (i : ℕ) (l : Literal)
      → has_literal (slice_index_or cs i []) l ≡ has_literal (slice_index_or ds i []) l
