-- What serving connections means for the users and for the connections.
use Rattle.std.specs.Prelude.{◌≡◌, ◌⊎◌, ◌≤◌, ℕ, suc, ◌+◌, Bool, true, false, List, [], ◌∷◌, ◌++◌}
use Rattle.std.specs.Prelude.{Option, Vec, string_bytes, not, length, option_to_list}
use Rattle.std.specs.declared.alloc.Global.{Global}
use Rattle.std.specs.List.{AllZip, list_any, flat_map}
use Rattle.outside.specs.Faults.{Rose}
use Rattle.outside.specs.Visits.{Visit}
use Rattle.outside.specs.declared.links.Door.{Ghosts as DoorGhosts}
use Rattle.cqe_base.specs.Schema.{DatabaseSchema}
use Rattle.cqe_base.specs.Facts.{FactSet}
use Rattle.cqe_base.specs.History.{History, profile_of}
use Rattle.cqe_base.specs.Censor.{IsLegal, admitted}
use Rattle.cqe_base.specs.Hiding.{Hides}
use Rattle.cqe_base.specs.declared.user.User.{User}
use Rattle.user_desk.specs.Causes.{IsStanding, OpensWithin}
use Rattle.user_desk.specs.Entries.{IsNoLonger}
use Rattle.user_desk.specs.Lives.{Holds, shown}
use Rattle.user_desk.specs.Standings.{standing_of, is_open, is_sealed}
use Rattle.user_desk.specs.declared.standing.DeskError.{DeskError}
use Rattle.user_desk.specs.declared.standing.Standing.{Standing}
use Rattle.desk_crew.specs.Crew.{refusal_of}
use Rattle.desk_crew.specs.Refusals.{SomeFaulted}
use Rattle.desk_crew.specs.Shelved.{Journals, KeepsJournal, KeepsJournals, StandsAllAlong}
use Rattle.worker_pool.specs.Workers.{HasVisits}
use Rattle.serve_engine.specs.Doors.{AreServedDoors}
use Rattle.serve_engine.specs.Served.{Member, member_broke, SessionMarks, entries_told}
use Rattle.serve_engine.specs.Served.{failures_told, SameEntries, Served}
use Rattle.serve_engine.specs.Alike.{IsServedAlike}
use Rattle.serve_engine.specs.declared.serving.Outcome.{Outcome}
use Rattle.serve_engine.specs.declared.serving.Outcome.TheVariants as outcome
use Rattle.serve_engine.specs.declared.run.ServeEnd.{ServeEnd}
use Rattle.serve_engine.specs.declared.run.ServeEnd.TheVariants.{Done, LinksFault, ShelfFault}
use Rattle.serve_engine.specs.declared.run.ServeEnd.TheVariants.{Memory}

-- No connection was given, and all journals are as they were.
pub record ServesNobody (journals : Journals) (given given' : ℕ) (back back' : List Visit) :
    Type 0 where
  pub given_same : given' ≡ given
  pub back_same : back' ≡ back
  pub kept : KeepsJournals journals

-- Of each user, from this place on: his history has the entries of the opening, and those of the
-- marks that connections told him. So behind the opening each of these stands once, and no other.
-- Where an append of his failed, one connection told him so of one ask, whose entry is the one in
-- flight, and no other did; where none failed, no connection told him that one did.
abbrev pub AreAllTold : ℕ → List Member → List SessionMarks → Type 0
AreAllTold place [] visit_marks = Unit {0}
AreAllTold place (member ∷ members) visit_marks =
    SameEntries member.history (member.opening ++ flat_map (entries_told place) visit_marks)
    × SameEntries (option_to_list member.in_flight) (flat_map (failures_told place) visit_marks)
    × AreAllTold (suc place) members visit_marks

module _ (schema : DatabaseSchema) (world : FactSet) (header : List ℕ) (journals : Journals) where
  -- A user over all connections: how his journal was opened, what his one history is, and how his
  -- disk came back.
  pub record HasServed (user : User) (member : Member) (refusal : Option DeskError) : Type 0 where
    pub profile_is : member.profile ≡ profile_of user
    -- the bytes of his journal and its count show his standing; they stand for his opening history,
    -- or are refused
    pub standing : Standing
    pub standing_is : member.standing ≡ standing_of standing
    pub refusal_is : refusal ≡ refusal_of standing
    pub cause : IsStanding schema world member.profile (Unit {0}) header
        (journals.bytes (string_bytes user.name)) member.opening
        (journals.before (string_bytes user.name))
        (journals.now (string_bytes user.name)) standing
    -- his history goes on from there and is legal; and where he is admitted, it hides
    pub goes_on : (entries : History) × (member.history ≡ member.opening ++ entries)
    pub legal : IsLegal schema world member.profile member.history
    pub hides : admitted schema world member.profile ≡ true
        → Hides schema world member.profile member.history
    -- unless his journal was refused, his disk reads as his history, and so does what a crash may
    -- leave of it; where an append failed, as that or as that with the entry in flight
    pub reads : is_sealed standing ≡ false
        → Holds schema world member.profile header
        (shown member.history member.standing member.in_flight)
        (journals.reads (string_bytes user.name))
    pub stands : is_sealed standing ≡ false → (c : List ℕ)
        → journals.image (string_bytes user.name) c
        → Holds schema world member.profile header
        (shown member.history member.standing member.in_flight) c
    -- where no append failed, it has no more bytes than it had, or than his history needs
    pub size : member_broke member ≡ false
        → IsNoLonger (journals.bytes (string_bytes user.name)) member.history
        (journals.reads (string_bytes user.name))
    -- the marks of all his entries may be told
    pub told : length member.history ≤ journals.told (string_bytes user.name)
    -- only where he is served has he entries, or did an append fail
    pub idle : is_open standing ≡ false → (member.history ≡ []) × (member_broke member ≡ false)
    -- where it was refused, or nothing was appended, it is as it was
    pub kept : (is_sealed standing ≡ true)
        ⊎ ((member.history ≡ member.opening) × (member_broke member ≡ false))
        → KeepsJournal journals (string_bytes user.name)
    -- an append failed only where the count of his disk's faults rose
    pub failed : member_broke member ≡ true
        → Rose (journals.before (string_bytes user.name)) (journals.now (string_bytes user.name))
    -- At each moment since his journal was opened each crash leaves a beginning of his history,
    -- with the entry in flight, that has the entries of the opening; before that, and where it was
    -- refused, nothing new.
    pub moments : StandsAllAlong journals (string_bytes user.name) (not (is_sealed standing))
        (OpensWithin schema world member.profile header (length member.opening)
        (member.history ++ option_to_list member.in_flight))

  -- all users, each with the refusal of his journal, if it was refused
  abbrev pub HaveServed : List User → List Member → List (Option DeskError) → Type 0
  HaveServed [] [] [] = Unit {0}
  HaveServed (user ∷ users) (member ∷ members) (refusal ∷ refusals) =
      HasServed user member refusal × HaveServed users members refusals
  HaveServed users members refusals = ⊥

  module _ (users : List User) (given given' : ℕ) (back back' : List Visit) where
    -- Connections were served: each that was given is back, and is served by the users' histories
    -- as they are in the end; and these have nothing behind their openings but what the connections
    -- told.
    pub record Serves (refusals : List (Option DeskError)) (is_broken : Bool) : Type 0 where
      pub members : List Member
      pub each_user : HaveServed users members refusals
      pub broken_is : is_broken ≡ list_any member_broke members
      pub count : ℕ
      pub given_is : given' ≡ given + count
      pub visit_marks : List SessionMarks
      pub visits : HasVisits (λ visits.
          AllZip (Served schema world users members) visits visit_marks) count back back'
      -- and the same bytes serve each of them in each world that is alike to who is logged in
      pub alike : HasVisits (λ visits.
          AllZip (IsServedAlike schema world users members) visits visit_marks) count back back'
      pub all_told : AreAllTold 0 members visit_marks

    -- no connection was served: no journal was opened, or all were and are closed again
    abbrev pub ServesNone : Type 0
    ServesNone = ServesNobody journals given given' back back'
        ⊎ ((refusals : List (Option DeskError)) × (is_broken : Bool)
        × (served : Serves refusals is_broken) × (served.count ≡ 0))

    -- what each end says
    abbrev pub EndsServing : ServeEnd → Type 0
    EndsServing (Done refusals is_broken) = Serves refusals.items is_broken
    EndsServing LinksFault = ServesNobody journals given given' back back'
        ⊎ ((refusals : List (Option DeskError)) × (is_broken : Bool) × Serves refusals is_broken)
    EndsServing ShelfFault = ServesNobody journals given given' back back'
    EndsServing Memory = ServesNone

  -- the users' journals are as their histories say, with the refusal of each, if it was refused;
  -- and it is said whether an append failed
  pub record LeavesHistories (users : List User) (refusals : List (Option DeskError))
      (is_broken : Bool) : Type 0 where
    pub members : List Member
    pub each_user : HaveServed users members refusals
    pub broken_is : is_broken ≡ list_any member_broke members

  -- they are so for some refusals
  abbrev pub LeavesSome : List User → Type 0
  LeavesSome users = (refusals : List (Option DeskError)) × (is_broken : Bool)
      × LeavesHistories users refusals is_broken

  -- what each end says of the journals alone
  abbrev pub LeavesJournals : List User → ServeEnd → Type 0
  LeavesJournals users (Done refusals is_broken) = LeavesHistories users refusals.items is_broken
  LeavesJournals users LinksFault = KeepsJournals journals ⊎ LeavesSome users
  LeavesJournals users ShelfFault = KeepsJournals journals
  LeavesJournals users Memory = KeepsJournals journals ⊎ LeavesSome users

  -- The same of the doors through which they came.
  module _ (users : List User) {O S K : Type 0} (Door : DoorGhosts O S K)
      (doors doors' : List O) where
    -- connections were served, each of the doors' among them
    pub record ServesDoors (refusals : List (Option DeskError)) (is_broken : Bool) : Type 0 where
      pub members : List Member
      pub each_user : HaveServed users members refusals
      pub broken_is : is_broken ≡ list_any member_broke members
      pub total : ℕ
      pub marks : Door.tells → List SessionMarks
      pub served : AreServedDoors Door
          (Served schema world users members) total marks doors doors'
      pub all_told : (t : Door.tells) → AreAllTold 0 members (marks t)

    -- the doors are as they were, and so are all journals
    pub record ServesNoDoor : Type 0 where
      pub doors_same : doors' ≡ doors
      pub kept : KeepsJournals journals

    -- what each end says
    abbrev pub EndsDoors : ServeEnd → Type 0
    EndsDoors (Done refusals is_broken) = ServesDoors refusals.items is_broken
    EndsDoors LinksFault = ServesNoDoor
        ⊎ ((refusals : List (Option DeskError)) × (is_broken : Bool)
        × ServesDoors refusals is_broken)
    EndsDoors ShelfFault = ServesNoDoor
    EndsDoors Memory = ServesNoDoor
        ⊎ ((refusals : List (Option DeskError)) × (is_broken : Bool)
        × (served : ServesDoors refusals is_broken) × (served.total ≡ 0))

-- the end of a serving that came to its end
abbrev pub IsDone : ServeEnd → Type 0
IsDone (Done refusals is_broken) = Unit {0}
IsDone LinksFault = ⊥
IsDone ShelfFault = ⊥
IsDone Memory = ⊥

-- the end of a serving that came to its end, and in which an append failed
abbrev pub IsBroken : ServeEnd → Type 0
IsBroken (Done refusals is_broken) = is_broken ≡ true
IsBroken LinksFault = ⊥
IsBroken ShelfFault = ⊥
IsBroken Memory = ⊥

-- the end of a serving that came to its end, and in which some user's journal was refused for a
-- fault of its disk
abbrev pub IsDiskRefusal : ServeEnd → Type 0
IsDiskRefusal (Done refusals is_broken) = SomeFaulted refusals.items
IsDiskRefusal LinksFault = ⊥
IsDiskRefusal ShelfFault = ⊥
IsDiskRefusal Memory = ⊥

-- the end of serving with this outcome
abbrev pub end_of : Outcome → Vec (Option DeskError) Global → Bool → ServeEnd
end_of outcome.Served refusals is_broken = Done refusals is_broken
end_of outcome.LinksFailed refusals is_broken = LinksFault
end_of outcome.Memory refusals is_broken = Memory
