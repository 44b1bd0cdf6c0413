-- A user's state over calls, crashes and restarts, and the bytes that stand for it.
use Rattle.std.specs.Prelude.{◌≡◌, ℕ, Bool, true, false, List, [], ◌++◌, Option, None, is_some}
use Rattle.cqe_base.specs.declared.user.Purpose.{Purpose}
use Rattle.cqe_base.specs.Schema.{DatabaseSchema, Text}
use Rattle.cqe_base.specs.Facts.{FactSet}
use Rattle.cqe_base.specs.History.{UserProfile, AnsweredQuery, History}
use Rattle.cqe_base.specs.Run
use Rattle.cqe_base.specs.Run.{Reply, UserState, Ending, Event, failed, call, restart, after_event}
use Rattle.cqe_base.specs.Run.{after_events}
use Rattle.cqe_base.specs.Run.{reply_to_call, entries_found, entry_at, standing_sealed}
use Rattle.outside.specs.Faults.{Rose}
use Rattle.user_desk.specs.Causes.{Opens}
use Rattle.user_desk.specs.declared.standing.Standing.{Standing}
use Rattle.user_desk.specs.declared.standing.Standing.TheVariants.{Sealed}

-- the state with these entries, this standing and, if an append failed, the entry of that append
abbrev pub shown : History → Run.Standing → Option AnsweredQuery → UserState
shown entries standing in_flight =
    record {
      entries = entries;
      standing = standing;
      broken = is_some in_flight;
      pending =
          in_flight;
    }

-- A desk with this standing, which shows one state, is in another: the same, or where its journal
-- was refused any with this standing.
abbrev pub IsState : Standing → UserState → UserState → Type 0
IsState (Sealed why) desk_state state = state.standing ≡ standing_sealed
IsState _ desk_state state = state ≡ desk_state

module _ (schema : DatabaseSchema) (world : FactSet) (user : UserProfile) where
  -- the bytes open a desk with the state's entries, or with these and the one in flight
  pub record Holds (header : List ℕ) (state : UserState) (bytes : List ℕ) : Type 0 where
    pub found : Bool
    pub sought : found ≡ true → is_some state.pending ≡ true
    pub opens : Opens schema world user header (entries_found schema world user state found) bytes

  -- the bytes hold the state behind the first of these events and some of those that come next
  pub record HoldsFrom (header : List ℕ) (state : UserState) (front rest : List Event)
      (bytes : List ℕ) : Type 0 where
    pub more : List Event
    pub further : List Event
    pub split : rest ≡ more ++ further
    pub holds : Holds header (after_events schema world user state (front ++ more)) bytes

  -- the bytes hold the state behind some of these events, the first of them
  abbrev pub HoldsAmid : List ℕ → UserState → List Event → List ℕ → Type 0
  HoldsAmid header state events bytes = HoldsFrom header state [] events bytes

  -- a call with the text, with some ending, leads from the state to one that is now, and has this
  -- reply; an append failed only where the count of faults rose
  pub record Settles (is_now : UserState → Type 0) (state : UserState) (purpose : Purpose)
      (text : Text) (answer : Reply) (before now : ℕ) : Type 0 where
    pub ending : Ending
    pub after : is_now (after_event schema world user state (call purpose text ending))
    pub reply : answer ≡ reply_to_call schema world user state purpose text ending
    pub cause : ending ≡ failed → Rose before now

  -- a restart leads from the state to one that is now; it finds only an entry that was in flight,
  -- and the journal was refused only where the count of faults rose
  pub record Restarts (is_now : UserState → Type 0) (state : UserState) (before now : ℕ) :
      Type 0 where
    pub found : Bool
    pub opened : Bool
    pub after : is_now (after_event schema world user state (restart found opened))
    pub sought : found ≡ true → is_some state.pending ≡ true
    pub cause : opened ≡ false → Rose before now

  -- a desk with this standing, which shows this state, answers every text so and stays as it is
  abbrev pub AnswersAll : Standing → UserState → Reply → Type 0
  AnswersAll standing desk_state answer =
      (state : UserState) → IsState standing desk_state state
      → (purpose : Purpose) (text : Text) (count : ℕ)
      → Settles (IsState standing desk_state) state purpose text answer count count

  -- in this state no call adds an item
  abbrev pub AddsNone : UserState → Type 0
  AddsNone state =
      (purpose : Purpose) (text : Text) → entry_at schema world user state purpose text ≡ None
