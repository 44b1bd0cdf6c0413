-- What a user's run shows of its journal: entries in flight, appends that failed, openings that
-- held or were refused.
use Rattle.std.specs.Prelude.{◌≡◌, ◌⊎◌, ℕ, ◌+◌, ◌^◌, ◌≤◌, Bool, true, false, List, [], ◌∷◌, Option}
use Rattle.std.specs.Prelude.{Some, None, is_some}
use Rattle.std.specs.List.{list_any}
use Rattle.cqe_base.specs.Schema.{DatabaseSchema}
use Rattle.cqe_base.specs.Facts.{FactSet}
use Rattle.cqe_base.specs.History.{UserProfile}
use Rattle.cqe_base.specs.Run.{Event, call, stop, restart, want, kept, failed, UserState, entry_at}
use Rattle.cqe_base.specs.Run.{after_event}
use Rattle.user_desk.specs.Causes.{IsSealedBy}
use Rattle.user_desk.specs.declared.standing.DeskError.{DeskError}

-- a count rose by at least so many, or stands at the greatest number that fits it
abbrev pub RoseBy : ℕ → ℕ → ℕ → Type 0
RoseBy n before now = (before + n ≤ now) ⊎ (2 ^ 64 ≤ now + 1)

-- whether an event is a call
abbrev pub is_call : Event → Bool
is_call (call purpose text ending) = true
is_call (stop purpose text) = true
is_call (restart found opened) = false

-- whether an event is an opening of the journal that held
abbrev pub is_opened : Event → Bool
is_opened (restart found opened) = opened
is_opened (call purpose text ending) = false
is_opened (stop purpose text) = false

-- whether it is an opening, which held or was refused
abbrev pub is_opening : Event → Bool
is_opening (restart found opened) = true
is_opening (call purpose text ending) = false
is_opening (stop purpose text) = false

-- A stretch ended before these events: there are none, or the first of them opens the journal.
abbrev pub IsStretchEnd : List Event → Type 0
IsStretchEnd [] = Unit {0}
IsStretchEnd (event ∷ events) = is_opening event ≡ true

-- whether it is an opening that was refused
abbrev pub is_refused : Event → Bool
is_refused (restart found true) = false
is_refused (restart found false) = true
is_refused (call purpose text ending) = false
is_refused (stop purpose text) = false

-- whether it is an append that failed, or that a crash cut
abbrev pub is_failed_append : Event → Bool
is_failed_append (call purpose text failed) = true
is_failed_append (call purpose text kept) = false
is_failed_append (call purpose text want) = false
is_failed_append (stop purpose text) = true
is_failed_append (restart found opened) = false

-- an append that failed and an opening that was refused count one each
abbrev pub failures_in : Event → ℕ
failures_in (call purpose text failed) = 1
failures_in (call purpose text kept) = 0
failures_in (call purpose text want) = 0
failures_in (stop purpose text) = 0
failures_in (restart found true) = 0
failures_in (restart found false) = 1

-- how many there are
abbrev pub failures : List Event → ℕ
failures [] = 0
failures (event ∷ events) = failures_in event + failures events

module _ (schema : DatabaseSchema) (world : FactSet) (user : UserProfile) where
  -- an append fails only of an item that the text would add; a restart finds only an item that is
  -- in flight; and no crash cuts a call
  abbrev pub IsCaused : UserState → Event → Type 0
  IsCaused state (call purpose text want) = Unit {0}
  IsCaused state (call purpose text kept) = Unit {0}
  IsCaused state (call purpose text failed) = is_some (entry_at schema world user state purpose
      text) ≡ true
  IsCaused state (stop purpose text) = ⊥
  IsCaused state (restart found opened) = found ≡ true → is_some state.pending ≡ true

  -- this holds of each event, in the state in which it finds the user
  abbrev pub AreCaused : UserState → List Event → Type 0
  AreCaused state [] = Unit {0}
  AreCaused state (event ∷ events) =
      IsCaused state event × AreCaused (after_event schema world user state event) events

  module _ (header : List ℕ) where
    -- the first refusal among a user's openings, by the bytes that his journal had and by the count
    -- of its disk's faults before and now
    abbrev pub IsFirstRefusal : List ℕ → ℕ → ℕ → List Event → Option DeskError → Type 0
    IsFirstRefusal bytes before now events None = list_any is_refused events ≡ false
    IsFirstRefusal bytes before now events (Some why) = (list_any is_refused events ≡ true)
        × IsSealedBy schema world user (Unit {0}) header bytes before now why
