-- Users at their desks, and what a call, a close and an opening make of a desk and of its disk.
use Rattle.std.specs.Prelude.{◌≡◌, ℕ, ◌≤◌, ◌*◌, ◌^◌, Bool, true, false, List, [], ◌∷◌}
use Rattle.std.specs.Prelude.{bytes_eq, Option, Some, None, Result, Ok, Err, string_bytes}
use Rattle.outside.specs.Disk.{Elapses}
use Rattle.outside.specs.declared.disk.Disk.{Ghosts as DiskGhosts}
use Rattle.cqe_base.specs.declared.user.Purpose.{Purpose}
use Rattle.cqe_base.specs.Schema.{Text, DatabaseSchema}
use Rattle.cqe_base.specs.Facts.{FactSet}
use Rattle.cqe_base.specs.History.{History, profile_of}
use Rattle.cqe_base.specs.Run.{Reply, UserState}
use Rattle.cqe_base.specs.Transcript.{NamedUser}
use Rattle.cqe_base.specs.declared.user.User.{User}
use Rattle.censors.specs.Admitting.{admission_of}
use Rattle.log_journal.specs.Walk.{AreThere}
use Rattle.user_desk.specs.Causes.{IsStanding}
use Rattle.cqe_base.specs.Censor.{IsLegal}
use Rattle.cqe_base.specs.Limits.{KeepsSizes}
use Rattle.user_desk.specs.Standings.{is_sealed}
use Rattle.user_desk.specs.Lives.{Holds, Restarts}
use Rattle.user_desk.specs.declared.standing.DeskError.{DeskError}
use Rattle.user_desk.specs.declared.standing.Standing.{Standing}
use Rattle.user_desk.specs.declared.standing.Standing.TheVariants.{Open, Closed, Sealed}
use Rattle.desk_counter.specs.declared.item.Fixed.{Fixed}
use Rattle.desk_counter.specs.Lives.{IsCallOf}
use Rattle.desk_counter.specs.Items.{history_of, has_broke}
use Rattle.turnstile.specs.Passes.{mine, turns}
use Rattle.desk_counter.specs.Closed as counter
use Rattle.desk_counter.specs.Counters.{first_pairs}
use Rattle.desk_counter.specs.Sole.{counter_in, pass_in, kept_in, pairs_of_sole, sole_state}
use Rattle.desk_counter.specs.Sole.{IsSoleIn, IsAsOpened}
use Rattle.desk_counter.specs.declared.sole.SoleOf.{SoleOf}
use Rattle.desk_counter.specs.declared.ticketed_desk.TicketedDesk.{TicketedDesk}
use Rattle.desk_counter.specs.declared.item.TurnItem.{TurnItem}
use Rattle.desk_crew.specs.Seats.{DeskSeat}
use Rattle.desk_crew.specs.declared.seat.Returned.{Returned}

-- users as they begin a batch, before their journals are opened
abbrev pub named_user : User → NamedUser
named_user user = record { name = string_bytes user.name; profile = profile_of user; opened = [] }

-- why a journal is refused at an opening with this standing
abbrev pub refusal_of : Standing → Option DeskError
refusal_of Open = None
refusal_of (Closed admission) = None
refusal_of (Sealed why) = Some why

-- the first refusal, of those before and the one of this standing
abbrev pub first_refusal : Option DeskError → Standing → Option DeskError
first_refusal (Some why) standing = Some why
first_refusal None standing = refusal_of standing

-- a seat's user
abbrev pub seat_user : {D : Type 0} {g h : _} → DeskSeat D g h → User
seat_user seat = seat.user.now

-- the name of its user
abbrev pub seat_name : {D : Type 0} {g h : _} → DeskSeat D g h → Text
seat_name seat = string_bytes seat.user.now.name

-- the name of its journal on the shelf
abbrev pub seat_journal : {D : Type 0} {g h : _} → DeskSeat D g h → Text
seat_journal seat = string_bytes seat.journal

-- what no call changes of its desk
abbrev pub seat_kept : {D : Type 0} {g h : _} → DeskSeat D g h → Fixed D
seat_kept seat = kept_in seat.desk

-- its desk's standing
abbrev pub seat_standing : {D : Type 0} {g h : _} → DeskSeat D g h → Standing
seat_standing seat = (seat_kept seat).standing

-- its desk's entries
abbrev pub seat_history : {D : Type 0} {g h : _} → DeskSeat D g h → History
seat_history seat = history_of (pairs_of_sole seat.desk)

-- the state that its desk shows
abbrev pub seat_state : {D : Type 0} {g h : _} → DeskSeat D g h → UserState
seat_state seat = sole_state seat.desk

-- whether an append failed
abbrev pub seat_broke : {D : Type 0} {g h : _} → DeskSeat D g h → Bool
seat_broke seat = has_broke (pairs_of_sole seat.desk)

-- its desk is in this state
abbrev pub IsSeatIn : {D : Type 0} {g h : _} → DeskSeat D g h → UserState → Type 0
IsSeatIn seat state = IsSoleIn seat.desk state

-- its disk as its desk was opened
abbrev pub seat_disk : {D : Type 0} {g h : _} → DeskSeat D g h → D
seat_disk seat = (seat_kept seat).disk

-- nothing was appended since its desk was opened
abbrev pub IsSeatAsOpened : {D : Type 0} {g h : _} → DeskSeat D g h → Type 0
IsSeatAsOpened seat = IsAsOpened (seat_kept seat) (pairs_of_sole seat.desk)

-- whether its user has this name
abbrev pub is_named : {D : Type 0} {g h : _} → Text → DeskSeat D g h → Bool
is_named name seat = bytes_eq (seat_name seat) name

-- the disk of an opening, as a desk was opened or handed back
abbrev pub disk_seated : {D : Type 0} {g h : _} → Result (DeskSeat D g h) (Returned D) → D
disk_seated (Ok seat) = seat_disk seat
disk_seated (Err returned) = returned.disk

-- the name of its journal
abbrev pub journal_seated : {D : Type 0} {g h : _} → Result (DeskSeat D g h) (Returned D) → Text
journal_seated (Ok seat) = seat_journal seat
journal_seated (Err returned) = string_bytes returned.journal

-- an opening leaves a disk as it was: it reads the same, no crash leaves anything new, at no moment
-- of it either, its count of faults didn't fall, it comes from where it came, each mark that might
-- be told still may, and where what was told of lay there, it does now
pub record IsLeftOpen {D : Type 0} (Disk : DiskGhosts D)
    (old new : D) : Type 0 where
  pub reads_same : Disk.reads new ≡ Disk.reads old
  pub images : (c : List ℕ) → Disk.image new c → Disk.image old c
  pub later : Disk.faults old ≤ Disk.faults new
  pub comes : Disk.origin new ≡ Disk.origin old
  pub still_told : Disk.tellable old ≤ Disk.tellable new
  pub there : Disk.tells → AreThere (Disk.heard old) (Disk.reads old)
      → AreThere (Disk.heard new) (Disk.reads new)
  pub time : Elapses (Disk.moment old) (Disk.moment new) (Disk.image_since old)
      (Disk.image_since new)
  pub rests : (c : List ℕ) → Disk.image_since new (Disk.moment old) c → Disk.image old c

-- a desk leaves this disk as it is closed
abbrev pub IsClosed : {D : Type 0} {g h : _} → DiskGhosts D
    → SoleOf (TicketedDesk D g) TurnItem (Fixed D) h → D → Type 0
IsClosed Disk desk disk =
    counter.IsClosed Disk (kept_in desk) (first_pairs (counter_in desk)) (mine (pass_in desk))
    (pairs_of_sole desk) disk

-- a desk was closed, and an opening left its disk as this one
pub record IsLeftBy {D : Type 0} {g h : _} (Disk : DiskGhosts D)
    (desk : SoleOf (TicketedDesk D g) TurnItem (Fixed D) h) (now : D) : Type 0 where
  pub closed : D
  pub is_closed : IsClosed Disk desk closed
  pub left : IsLeftOpen Disk closed now

module _ (schema : DatabaseSchema) (world : FactSet) where
  -- a seat's user got this reply to a call, and all but his desk's state is as it was
  pub record IsToldAt {D : Type 0} {g h : _} (purpose : Purpose) (text : Text) (told_reply : Reply)
      (old new : DeskSeat D g h) : Type 0 where
    pub user_is : seat_user new ≡ seat_user old
    pub admission_is : new.admission ≡ old.admission
    pub journal_is : seat_journal new ≡ seat_journal old
    pub refusal_is : new.refusal ≡ old.refusal
    pub kept_is : seat_kept new ≡ seat_kept old
    pub settled : (state : UserState) → IsSeatIn old state
        → IsCallOf schema world (profile_of (seat_user old)) (IsSeatIn new) state purpose text
        told_reply

  -- a call for a name goes to the first seat of that name, and to no other; without such a seat
  -- there is no reply
  pub data Tells {D : Type 0} {g h : _} (name : Text) (purpose : Purpose) (text : Text)
      : List (DeskSeat D g h) → List (DeskSeat D g h) → Option Reply → Type 0 where
    nobody : Tells name purpose text [] [] None
    here : {old new : DeskSeat D g h} {others : List (DeskSeat D g h)} {told_reply : Reply}
        → is_named name old ≡ true → IsToldAt purpose text told_reply old new
        → Tells name purpose text (old ∷ others) (new ∷ others) (Some told_reply)
    further : {seat : DeskSeat D g h} {others after : List (DeskSeat D g h)}
        {told_reply : Option Reply}
        → is_named name seat ≡ false → Tells name purpose text others after told_reply
        → Tells name purpose text (seat ∷ others) (seat ∷ after) told_reply

module _ (schema : DatabaseSchema) (world : FactSet) (header : List ℕ) where
  -- a seat's desk is of this schema, this world, this header, and of its user, whose admission the
  -- seat has
  pub record IsSeatServed {D : Type 0} {g h : _} (seat : DeskSeat D g h) : Type 0 where
    pub schema_is : (seat_kept seat).schema ≡ schema
    pub world_is : (seat_kept seat).world ≡ world
    pub header_is : (seat_kept seat).header ≡ header
    pub user_is : (seat_kept seat).user ≡ profile_of (seat_user seat)
    pub admission_is : seat.admission ≡ admission_of schema world (profile_of (seat_user seat))

  module _ {D : Type 0} (Disk : DiskGhosts D) where
    -- a seat was opened from this disk, behind an earlier refusal if there was one: its standing
    -- has its cause, and it is a restart of each state that the disk holds
    pub record IsOpenedFrom {g h : _} (disk : D) (before : Option DeskError)
        (seat : DeskSeat D g h) : Type 0 where
      pub served : IsSeatServed seat
      pub standing : IsStanding schema world (profile_of (seat_user seat)) Disk.tells header
          (Disk.reads disk) (seat_history seat) (Disk.faults disk) (Disk.faults (seat_disk seat))
          (seat_standing seat)
      pub restarted : Disk.tells → (state : UserState)
          → Holds schema world (profile_of (seat_user seat)) header state (Disk.reads disk)
          → Restarts schema world (profile_of (seat_user seat)) (IsSeatIn seat) state
          (Disk.faults disk)
          (Disk.faults (seat_disk seat))
      pub refusal : seat.refusal ≡ first_refusal before (seat_standing seat)
      pub fresh : IsSeatAsOpened seat
      pub opening_is : (seat_kept seat).opening ≡ seat_history seat
      pub legal : IsLegal schema world (profile_of (seat_user seat)) (seat_history seat)
      pub sizes : KeepsSizes schema (profile_of (seat_user seat)) (seat_history seat)
      -- what was put under its counter is what its pass has seen, which has all turns and nothing
      -- of its own
      pub first_is : first_pairs (counter_in seat.desk) ≡ pairs_of_sole seat.desk
      pub mine_is : mine (pass_in seat.desk) ≡ []
      pub turns_are : turns (pass_in seat.desk) ≡ 65 * 2 ^ 57
      -- each image of its disk holds the state that its desk shows, unless its journal was refused
      pub holds : Disk.tells → is_sealed (seat_standing seat) ≡ false → (c : List ℕ)
          → Disk.image (seat_disk seat) c
          → Holds schema world (profile_of (seat_user seat)) header (seat_state seat) c

    -- a seat was closed and opened again
    pub record IsReopened {g h : _} (old new : DeskSeat D g h) : Type 0 where
      pub user_is : seat_user new ≡ seat_user old
      pub journal_is : seat_journal new ≡ seat_journal old
      pub closed : D
      pub is_closed : IsClosed Disk old.desk closed
      pub opened : IsOpenedFrom closed old.refusal new
      pub left : IsLeftOpen Disk closed (seat_disk new)

    -- all were
    abbrev pub AreReopened : {g h : _} → List (DeskSeat D g h) → List (DeskSeat D g h) → Type 0
    AreReopened [] [] = Unit {0}
    AreReopened (old ∷ olds) (new ∷ news) = IsReopened old new × AreReopened olds news
    AreReopened olds news = ⊥
