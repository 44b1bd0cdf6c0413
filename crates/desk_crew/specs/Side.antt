-- Journals that are opened side by side.
use Rattle.std.specs.Prelude.{◌≡◌, ◌≤◌, ◌<◌, ℕ, Bool, true, false, List, [], length, map}
use Rattle.std.specs.Prelude.{string_bytes, slice_index_or, Option, Some, None, Result, Ok, Err}
use Rattle.std.specs.Prelude.{IfOk, IfSome, IsSome}
use Rattle.std.specs.List.{AllByRecursion, AllZip}
use Rattle.outside.specs.Disk.{HeardNothing}
use Rattle.outside.specs.Shelf.{IsTaken}
use Rattle.outside.specs.declared.disk.Disk.{Ghosts as DiskGhosts}
use Rattle.cqe_base.specs.Schema.{Text, DatabaseSchema}
use Rattle.cqe_base.specs.Facts.{FactSet}
use Rattle.cqe_base.specs.History.{profile_of}
use Rattle.cqe_base.specs.Limits.{KeepsLimits}
use Rattle.cqe_base.specs.declared.user.User.{User}
use Rattle.censors.specs.Admitting.{admission_of}
use Rattle.log_journal.specs.Names.{journal_name}
use Rattle.user_desk.specs.declared.standing.DeskError.{DeskError}
use Rattle.desk_counter.specs.declared.item.TurnItem.{TurnItem}
use Rattle.desk_counter.specs.declared.item.Fixed.{Fixed}
use Rattle.desk_counter.specs.declared.ticketed_desk.Owned.{Ghosts as OwnedGhosts}
use Rattle.desk_counter.specs.declared.ticketed_desk.TicketedDesk.{TicketedDesk}
use Rattle.desk_crew.specs.Crew.{seat_user, seat_journal, seat_disk, disk_seated, journal_seated}
use Rattle.desk_crew.specs.Crew.{IsLeftOpen, IsLeftBy, IsClosed, IsOpenedFrom}
use Rattle.desk_crew.specs.Seats.{DeskSeat}
use Rattle.desk_crew.specs.declared.opening.Opening.{Opening}
use Rattle.desk_crew.specs.declared.seat.Returned.{Returned}

-- where a journal is: open at a desk over disks of this type, or on its disk, with its name
abbrev pub DeskPlace : (D : Type 0) (g : DiskGhosts D)
    → OwnedGhosts (TicketedDesk D g) TurnItem (Fixed D) → Type 0
DeskPlace D g h = Result (DeskSeat D g h) (Returned D)

-- an opening whose value is such a desk
abbrev pub DeskOpening : (D : Type 0) (g : DiskGhosts D)
    → OwnedGhosts (TicketedDesk D g) TurnItem (Fixed D) → Type 0
DeskOpening D g h = Opening (TicketedDesk D g) D TurnItem (Fixed D) h

-- where its journal is, if it isn't amid the opening alone
abbrev pub place_of : {D : Type 0} {g h : _} → DeskOpening D g h → Option (DeskPlace D g h)
place_of opening = opening.place

-- the place of a journal that is open
abbrev pub at_seat : {D : Type 0} {g h : _} → DeskSeat D g h → Option (DeskPlace D g h)
at_seat seat = Some (Ok seat)

-- whether a journal isn't open
abbrev pub is_shut : {D : Type 0} {g h : _} → Option (DeskPlace D g h) → Bool
is_shut None = true
is_shut (Some (Ok seat)) = false
is_shut (Some (Err closed)) = true

-- a journal is on its disk, of which something holds
abbrev pub AtDisk : {D : Type 0} {g h : _} → (Returned D → Type 0) → Option (DeskPlace D g h)
    → Type 0
AtDisk P None = ⊥
AtDisk P (Some (Ok seat)) = ⊥
AtDisk P (Some (Err closed)) = P closed

-- something holds of its disk, where it is on it
abbrev pub IfAtDisk : {D : Type 0} {g h : _} → (Returned D → Type 0) → Option (DeskPlace D g h)
    → Type 0
IfAtDisk P None = Unit {0}
IfAtDisk P (Some (Ok seat)) = Unit {0}
IfAtDisk P (Some (Err closed)) = P closed

-- a journal is on its disk
abbrev pub IsAtDisk : {D : Type 0} {g h : _} → DeskOpening D g h → Type 0
IsAtDisk opening = AtDisk (λ closed. Unit {0}) opening.place

-- it is open or on its disk
abbrev pub HasPlace : {D : Type 0} {g h : _} → DeskOpening D g h → Type 0
HasPlace opening = IsSome opening.place

-- the name of a journal on the shelf
abbrev pub place_journal : {D : Type 0} {g h : _} → Option (DeskPlace D g h) → Text
place_journal None = []
place_journal (Some place) = journal_seated place

-- the name of the journal of an opening
abbrev pub opening_journal : {D : Type 0} {g h : _} → DeskOpening D g h → Text
opening_journal opening = place_journal opening.place

-- the names of several
abbrev pub opening_journals : {D : Type 0} {g h : _} → List (DeskOpening D g h) → List Text
opening_journals openings = map opening_journal openings

-- the count of its disk's faults, as its desk was opened or as it is
abbrev pub place_faults : {D : Type 0} {g h : _} → (D → ℕ) → Option (DeskPlace D g h) → ℕ
place_faults faults None = 0
place_faults faults (Some place) = faults (disk_seated place)

-- the count of faults of the disk of an opening
abbrev pub opening_faults : {D : Type 0} {g h : _} → (D → ℕ) → DeskOpening D g h → ℕ
opening_faults faults opening = place_faults faults opening.place

-- the count of faults under the name of each journal is at most that
abbrev pub OpeningsLater : {D : Type 0} {g h : _} → (D → ℕ) → (Text → ℕ)
    → List (DeskOpening D g h) → Type 0
OpeningsLater faults count openings =
    AllByRecursion (λ opening. count (opening_journal opening) ≤ opening_faults faults opening)
    openings

-- where its disk comes from
abbrev pub place_origin : {D : Type 0} {g h : _} → (D → List (List ℕ)) → Option (DeskPlace D g h)
    → List (List ℕ)
place_origin origin None = []
place_origin origin (Some place) = origin (disk_seated place)

-- the disk of a journal comes from where the shelf knows the one under its name to come from
abbrev pub IsOwn : {D : Type 0} {g h : _} → (D → List (List ℕ)) → (Text → List (List ℕ))
    → DeskOpening D g h → Type 0
IsOwn origin known opening = place_origin origin opening.place ≡ known (opening_journal opening)

-- so it is with each
abbrev pub OpeningsOwn : {D : Type 0} {g h : _} → (D → List (List ℕ)) → (Text → List (List ℕ))
    → List (DeskOpening D g h) → Type 0
OpeningsOwn origin known openings = AllByRecursion (IsOwn origin known) openings

-- a journal was shut with this disk: its desk was closed, or it was on it
abbrev pub IsShut : {D : Type 0} {g h : _} → DiskGhosts D → DeskPlace D g h → D → Type 0
IsShut Disk (Ok seat) disk = IsClosed Disk seat.desk disk
IsShut Disk (Err closed) disk = disk ≡ closed.disk

-- its disk is this one, as its desk or its opening left it
abbrev pub IsLeftFrom : {D : Type 0} {g h : _} → DiskGhosts D → Option (DeskPlace D g h) → D
    → Type 0
IsLeftFrom Disk None disk = ⊥
IsLeftFrom Disk (Some (Ok seat)) disk = IsLeftBy Disk seat.desk disk
IsLeftFrom Disk (Some (Err closed)) disk = IsLeftOpen Disk closed.disk disk

module _ {D : Type 0} (told : Type 0) (Disk : DiskGhosts D) where
  -- a journal's disk is back
  pub record IsPutBack {g h : _} (disk : Text → Option D) (count : Text → ℕ)
      (opening : DeskOpening D g h) : Type 0 where
    pub now : D
    pub left : IsLeftFrom Disk opening.place now
    pub held : told → disk (opening_journal opening) ≡ Some now
    pub counted : count (opening_journal opening) ≡ Disk.faults now

  -- all are
  abbrev pub ArePutBack : {g h : _} → (Text → Option D) → (Text → ℕ)
      → List (DeskOpening D g h) → Type 0
  ArePutBack disk count openings = AllByRecursion (IsPutBack disk count) openings

  -- a disk was taken from the shelf under a name
  pub record IsTakenDisk (disk : Text → Option D) (count : Text → ℕ) (journal : Text)
      (closed : Returned D) : Type 0 where
    pub journal_is : string_bytes closed.journal ≡ journal
    pub from : told → IsTaken Disk.reads Disk.image (disk journal) closed.disk
    pub unheard : HeardNothing (Disk.heard closed.disk)
    pub counted : Disk.faults closed.disk ≡ count journal

  -- a user's journal was taken from the shelf, to be opened
  pub record IsTakenFor {g h : _} (directory : Text) (disk : Text → Option D) (count : Text → ℕ)
      (user : User) (opening : DeskOpening D g h) : Type 0 where
    pub user_is : opening.user.now ≡ user
    pub admission_is : opening.admission ≡ None
    pub before_is : opening.before ≡ None
    pub taken : AtDisk (IsTakenDisk disk count
        (journal_name directory (string_bytes user.name))) opening.place

module _ {D : Type 0} (Disk : DiskGhosts D) where
  -- a seat's desk was closed, and its disk has the name of its journal
  pub record IsClosedDisk {g h : _} (seat : DeskSeat D g h) (closed : Returned D) : Type 0 where
    pub journal_is : string_bytes closed.journal ≡ seat_journal seat
    pub is_closed : IsClosed Disk seat.desk closed.disk

  -- a seat's desk was closed, to be opened again
  pub record IsClosedOf {g h : _} (seat : DeskSeat D g h) (opening : DeskOpening D g h) :
      Type 0 where
    pub user_is : opening.user.now ≡ seat_user seat
    pub admission_is : opening.admission ≡ Some seat.admission
    pub before_is : opening.before ≡ seat.refusal
    pub closed : AtDisk (IsClosedDisk seat) opening.place

module _ (schema : DatabaseSchema) (world : FactSet) where
  -- an opening's user keeps the limits
  abbrev pub KeepsOpening : {D : Type 0} {g h : _} → DeskOpening D g h → Type 0
  KeepsOpening opening = KeepsLimits schema (profile_of opening.user.now)

  -- where it is known whether he is admitted, it is so
  pub record IsKnown {D : Type 0} {g h : _} (opening : DeskOpening D g h) : Type 0 where
    pub known : IfSome opening.admission
        (λ admission. admission ≡ admission_of schema world (profile_of opening.user.now))

  module _ (header : List ℕ) {D : Type 0} (Disk : DiskGhosts D) where
    -- a user's journal was tried from this disk, behind an earlier refusal if there was one: it is
    -- open, or its disk is as an opening leaves it
    pub record IsPlaced {g h : _} (user : User) (journal : Text) (before : Option DeskError)
        (disk : D) (place : DeskPlace D g h) : Type 0 where
      pub journal_is : journal_seated place ≡ journal
      pub left : IsLeftOpen Disk disk (disk_seated place)
      pub user_is : IfOk place (λ seat. seat_user seat ≡ user)
      pub opened : IfOk place (IsOpenedFrom schema world header Disk disk before)

    -- so it is once it was tried from its disk; and it stays where it was open
    abbrev pub IsTriedAt : {g h : _} → User → Option DeskError → DeskPlace D g h
        → DeskPlace D g h → Type 0
    IsTriedAt user before (Ok seat) now = now ≡ Ok seat
    IsTriedAt user before (Err closed) now =
        IsPlaced user (string_bytes closed.journal) before closed.disk now

    -- where its place was there before, it is there now, and was tried so
    abbrev pub IsTriedFrom : {g h : _} → User → Option DeskError → Option (DeskPlace D g h)
        → Option (DeskPlace D g h) → Type 0
    IsTriedFrom {g} {h} user before None new = Unit {0}
    IsTriedFrom {g} {h} user before (Some place) new =
        (now : DeskPlace D g h) × (new ≡ Some now) × IsTriedAt user before place now

    -- a journal was tried
    pub record IsTried {g h : _} (old new : DeskOpening D g h) : Type 0 where
      pub tried : IsTriedFrom old.user.now old.before old.place new.place

    -- each was, place by place
    abbrev pub AreTried : {g h : _} → List (DeskOpening D g h) → List (DeskOpening D g h) → Type 0
    AreTried {g} {h} olds news =
        (k : ℕ) (d : DeskOpening D g h) → k < length olds
        → IsTried (slice_index_or olds k d) (slice_index_or news k d)

    -- a user's seat was opened from this disk
    pub record IsSeatOn {g h : _} (user : User) (before : Option DeskError)
        (seat : DeskSeat D g h) (closed : Returned D) : Type 0 where
      pub user_is : seat_user seat ≡ user
      pub journal_is : seat_journal seat ≡ string_bytes closed.journal
      pub opened : IsOpenedFrom schema world header Disk closed.disk before seat
      pub left : IsLeftOpen Disk closed.disk (seat_disk seat)

    -- a seat is that of an opening
    abbrev pub IsSeatFrom : {g h : _} → DeskOpening D g h → DeskSeat D g h → Type 0
    IsSeatFrom opening seat =
        IfAtDisk (IsSeatOn opening.user.now opening.before seat) opening.place

    -- so they are, place by place
    abbrev pub AreSeatsFrom : {g h : _} → List (DeskOpening D g h) → List (DeskSeat D g h) → Type 0
    AreSeatsFrom openings seats = AllZip IsSeatFrom openings seats
