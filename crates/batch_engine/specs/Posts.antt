-- The users of a stretch, who are answered side by side.
use Rattle.std.specs.Prelude.{◌≡◌, ℕ, ◌<◌, ◌≤◌, List, [], ◌∷◌, length, map, Option, Vec}
use Rattle.std.specs.Prelude.{vec_capacity, slice_index_or}
use Rattle.std.specs.List.Sorted.{IsPermutation}
use Rattle.std.specs.declared.alloc.Global.{Global}
use Rattle.outside.specs.declared.disk.Disk.{Ghosts as DiskGhosts}
use Rattle.desk_counter.specs.declared.item.TurnItem.{TurnItem}
use Rattle.desk_counter.specs.declared.item.Fixed.{Fixed}
use Rattle.desk_counter.specs.declared.ticketed_desk.Owned.{Ghosts as OwnedGhosts}
use Rattle.desk_counter.specs.declared.ticketed_desk.TicketedDesk.{TicketedDesk}
use Rattle.cqe_base.specs.Schema.{Text, DatabaseSchema}
use Rattle.cqe_base.specs.Facts.{FactSet}
use Rattle.cqe_base.specs.Run.{Reply}
use Rattle.desk_crew.specs.Crew.{seat_name, IsSeatServed}
use Rattle.desk_crew.specs.Seats.{DeskSeat}
use Rattle.batch_engine.specs.BatchLines.{NamedAsk}
use Rattle.batch_engine.specs.Answers.{OwnRun, TellsEach, answers_from, asks_of}
use Rattle.batch_engine.specs.declared.answer.Answer.{Answer}
use Rattle.batch_engine.specs.declared.post.Post.{Post}

-- a post whose value is a desk over disks of this type
abbrev pub DeskPost : (D : Type 0) (g : DiskGhosts D)
    → OwnedGhosts (TicketedDesk D g) TurnItem (Fixed D) → Type 0
DeskPost D g h = Post (TicketedDesk D g) TurnItem (Fixed D) h

-- its seat
abbrev pub seat_of : {D : Type 0} {g h : _} → DeskPost D g h → DeskSeat D g h
seat_of post = post.seat

-- the answers to its user
abbrev pub answers_at : {D : Type 0} {g h : _} → DeskPost D g h → List Answer
answers_at post = post.answers.items

-- the names of the users
abbrev pub names_of : {D : Type 0} {g h : _} → List (DeskPost D g h) → List Text
names_of posts = map (λ post. seat_name post.seat) posts

-- it has room for the answers to its user's asks among these, and none yet
pub record HasRoom {D : Type 0} {g h : _} (asks : List NamedAsk) (post : DeskPost D g h) : Type 0
  where
    pub empty : post.answers.items ≡ []
    pub room : asks_of (seat_name post.seat) asks ≤ vec_capacity post.answers

-- these are rooms for the answers to the users of seats, each in the place of its seat
abbrev pub HasRooms : {D : Type 0} {g h : _} → List NamedAsk → List (DeskSeat D g h)
    → List (Vec Answer Global) → Type 0
HasRooms asks [] [] = Unit {0}
HasRooms asks (seat ∷ seats) (room ∷ rooms) =
    (room.items ≡ []) × (asks_of (seat_name seat) asks ≤ vec_capacity room)
    × HasRooms asks seats rooms
HasRooms asks seats rooms = ⊥

-- the asks of its user were answered, whatever it is served over
pub record RunsOwn {D : Type 0} {g h : _} (asks : List NamedAsk) (old new : DeskPost D g h) : Type 0
  where
    pub run : (schema : DatabaseSchema) (world : FactSet) (header : List ℕ)
        → IsSeatServed schema world header old.seat
        → OwnRun schema world 0 asks old.seat new.seat new.answers.items

-- so were those of all users, each at his place
abbrev pub AllRunOwn : {D : Type 0} {g h : _} → List NamedAsk → List (DeskPost D g h)
    → List (DeskPost D g h) → Type 0
AllRunOwn {D} {g} {h} asks olds news =
    (k : ℕ) (d : DeskPost D g h) → k < length olds
    → RunsOwn asks (slice_index_or olds k d) (slice_index_or news k d)

module _ (schema : DatabaseSchema) (world : FactSet) where
  -- asks were answered one after the other, and these are the answers, in any order
  pub record AreAnswered {D : Type 0} {g h : _} (asks : List NamedAsk)
      (old new : List (DeskSeat D g h)) (answers : List Answer) : Type 0 where
    pub replies : List (Option Reply)
    pub each : TellsEach schema world asks old new replies
    pub all : IsPermutation (answers_from 0 asks replies) answers
