-- What a standby leaves of its users' journals.
use Rattle.std.specs.Prelude.{◌≡◌, ◌≢◌, ◌⊎◌, ℕ, ◌+◌, ◌≤◌, max, Bool, true, false, List, [], ◌∷◌}
use Rattle.std.specs.Prelude.{◌++◌, length, Option, Some, None, Vec, string_bytes}
use Rattle.std.specs.List.{list_any}
use Rattle.std.specs.declared.alloc.Global.{Global}
use Rattle.outside.specs.Faults.{Rose}
use Rattle.outside.specs.Visits.{Visit}
use Rattle.cqe_base.specs.declared.user.User.{User}
use Rattle.desk_crew.specs.Refusals.{SomeFaulted}
use Rattle.desk_crew.specs.Shelved.{Journals, KeepsJournal, KeepsJournals, StandsAllAlong}
use Rattle.log_journal.specs.Opening.{IsRefused, header_bytes}
use Rattle.log_journal.specs.Records.{Recorded, IsJournal, needed_bytes}
use Rattle.log_journal.specs.declared.header.Header.{Header}
use Rattle.log_journal.specs.declared.header.OpenError.TheVariants.{Memory as Wanting}
use Rattle.user_desk.specs.declared.standing.DeskError.{DeskError}
use Rattle.user_desk.specs.declared.standing.DeskError.TheVariants.{Journal}
use Rattle.standby_core.specs.Copies.{Copy}
use Rattle.standby_core.specs.Lasting.{HasCopied}
use Rattle.standby_core.specs.declared.serve.StandbyEnd.{StandbyEnd}
use Rattle.standby_engine.specs.Served.{AreServed, is_wanting}
use Rattle.standby_engine.specs.declared.run.CopyEnd.{CopyEnd}
use Rattle.standby_engine.specs.declared.run.CopyEnd.TheVariants.{Done, LinksFault}
use Rattle.standby_engine.specs.declared.serving.DoorEnd.{DoorEnd}
use Rattle.standby_engine.specs.declared.serving.DoorEnd.TheVariants.{Ended, Limit, Failed}

-- the bytes are a journal with this header whose first records are these
abbrev pub HasBeginning : List ℕ → List Recorded → List ℕ → Type 0
HasBeginning header first bytes = (more : List Recorded) × IsJournal header (first ++ more) bytes

-- The journal of this name had these records, and whatever a crash leaves of it as the call ends
-- has them in front, as whatever one could leave since it was opened.
pub record GrowsJournal (header : List ℕ) (journals : Journals) (name : List ℕ) : Type 0 where
  pub first : List Recorded
  pub opened : IsJournal header first (journals.bytes name)
  pub leaves : (c : List ℕ) → journals.image name c → HasBeginning header first c
  pub moments : StandsAllAlong journals name true (HasBeginning header first)

-- it was opened and grew so, or it was refused for this reason and is as it was
abbrev pub IsCopied : List ℕ → Journals → List ℕ → Option DeskError → Type 0
IsCopied header journals name None = GrowsJournal header journals name
IsCopied header journals name (Some (Journal why)) =
    (why ≢ Wanting)
    × IsRefused (Unit {0}) header (journals.bytes name) (journals.before name)
    (journals.now name) why
    × KeepsJournal journals name
IsCopied header journals name (Some why) = ⊥

-- so it was with the journal of each user
abbrev pub AreCopied : List ℕ → Journals → List User → List (Option DeskError) → Type 0
AreCopied header journals [] [] = Unit {0}
AreCopied header journals (user ∷ users) (refusal ∷ refusals) =
    IsCopied header journals (string_bytes user.name) refusal
    × AreCopied header journals users refusals
AreCopied header journals users refusals = ⊥

-- the count of the disk of one of these users rose, as it does where an append to it fails
abbrev pub SomeFailed : Journals → List User → Type 0
SomeFailed journals [] = ⊥
SomeFailed journals (user ∷ users) =
    Rose (journals.before (string_bytes user.name)) (journals.now (string_bytes user.name))
    ⊎ SomeFailed journals users

-- The copy of a user's journal as the serving began, and as it was left. It began with the records
-- of the opening, and each crash as the call ends leaves the records with which it was left. At
-- each moment since it was opened each left those of the opening, and some first of those that
-- came. Where no append to it failed, its journal has no more bytes than it had, or than it needs.
pub record IsCopyOf (header : List ℕ) (journals : Journals) (name : List ℕ) (begun left : Copy) :
    Type 0 where
  pub named : begun.name ≡ name
  pub opened : IsJournal header begun.records (journals.bytes name)
  pub counted : begun.count ≡ length begun.records
  pub whole : begun.failed ≡ false
  pub still_named : left.name ≡ name
  pub leaves : (c : List ℕ) → journals.image name c
      → HasCopied header (length left.records) left c
  pub moments : StandsAllAlong journals name true (HasCopied header (length begun.records) left)
  pub size : left.failed ≡ false → length (journals.reads name)
      ≤ max (length (journals.bytes name)) (needed_bytes left.records)

-- so it is with the journal of each user, in order, that wasn't refused
abbrev pub AreCopiesOf : List ℕ → Journals → List User → List (Option DeskError) → List Copy
    → List Copy → Type 0
AreCopiesOf header journals [] [] [] [] = Unit {0}
AreCopiesOf header journals (user ∷ users) (None ∷ refusals) (begun ∷ first) (left ∷ last) =
    IsCopyOf header journals (string_bytes user.name) begun left
    × AreCopiesOf header journals users refusals first last
AreCopiesOf header journals (user ∷ users) (Some why ∷ refusals) first last =
    AreCopiesOf header journals users refusals first last
AreCopiesOf header journals users refusals first last = ⊥

-- The connections that were given in a call were served one after the other by the copies of these
-- users' journals, with these ends, and these copies were left.
pub record ServesCopies (header : Header) (journals : Journals) (users : List User)
    (given given' : ℕ) (back back' : List Visit) (refusals : List (Option DeskError))
    (last : List Copy) (ends : List StandbyEnd) : Type 0 where
  pub first : List Copy
  pub copies : AreCopiesOf (header_bytes header) journals users refusals first last
  pub visits : List Visit
  pub served : AreServed header first last visits ends
  pub back_is : back' ≡ back ++ visits
  pub given_is : given' ≡ given + length visits

-- no connection was given in a call
abbrev pub CopiesNothing : ℕ → ℕ → List Visit → List Visit → Type 0
CopiesNothing given given' back back' = (given' ≡ given) × (back' ≡ back)

-- What a standby did with the connections, by its end: it served each by the copies, and says
-- whether an append to one of them failed, and whether memory was wanting for a record; where it
-- didn't come to serve, none was given.
abbrev pub EndsCopying : Header → Journals → List User → ℕ → ℕ → List Visit → List Visit → CopyEnd
    → Type 0
EndsCopying header journals users given given' back back' (Done refusals broken wanting) =
    (last : List Copy) × (ends : List StandbyEnd)
    × ServesCopies header journals users given given' back back' refusals.items last ends
    × (broken ≡ list_any (λ copy. copy.failed) last) × (wanting ≡ list_any is_wanting ends)
EndsCopying header journals users given given' back back' LinksFault =
    ((refusals : List (Option DeskError)) × (last : List Copy) × (ends : List StandbyEnd)
    × ServesCopies header journals users given given' back back' refusals last ends)
    ⊎ CopiesNothing given given' back back'
EndsCopying header journals users given given' back back' end =
    CopiesNothing given given' back back'

-- What a standby leaves of the journals: each is copied; where it didn't come to serve, all are as
-- they were. It says that an append failed only where a count rose.
abbrev pub LeavesCopies : List ℕ → Journals → List User → CopyEnd → Type 0
LeavesCopies header journals users (Done refusals broken wanting) =
    AreCopied header journals users refusals.items
    × (broken ≡ true → SomeFailed journals users)
LeavesCopies header journals users LinksFault =
    ((refusals : List (Option DeskError)) × AreCopied header journals users refusals)
    ⊎ KeepsJournals journals
LeavesCopies header journals users end = KeepsJournals journals

-- the standby served
abbrev pub HasListened : CopyEnd → Type 0
HasListened (Done refusals broken wanting) = Unit {0}
HasListened end = ⊥

-- the standby served, and an append to a copy failed
abbrev pub IsBroken : CopyEnd → Type 0
IsBroken (Done refusals broken wanting) = broken ≡ true
IsBroken end = ⊥

-- the standby served, and some user's journal was refused for a fault of its disk
abbrev pub IsDiskRefusal : CopyEnd → Type 0
IsDiskRefusal (Done refusals broken wanting) = SomeFaulted refusals.items
IsDiskRefusal end = ⊥

-- the end of a standby whose door came to this one: where the door didn't fail it has the refusals,
-- whether an append failed, and whether memory was wanting for a record
abbrev pub copy_end : DoorEnd → Vec (Option DeskError) Global → Bool → Bool → CopyEnd
copy_end Ended refusals broken wanting = Done refusals broken wanting
copy_end Limit refusals broken wanting = Done refusals broken wanting
copy_end Failed refusals broken wanting = LinksFault
