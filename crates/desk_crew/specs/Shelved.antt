-- The disks of users on their shelf.
use Rattle.std.specs.Prelude.{◌≡◌, ◌⊎◌, ℕ, ◌≤◌, Bool, true, false, List, [], ◌∷◌, Option, Some}
use Rattle.std.specs.Prelude.{None, map, option_map, string_bytes, IfSome}
use Rattle.std.specs.List.{AllByRecursion}
use Rattle.outside.specs.Disk.{HeardNothing}
use Rattle.outside.specs.declared.disk.Disk.{Ghosts as DiskGhosts}
use Rattle.outside.specs.Shelf.{IsTaken, bytes_on, image_on, since_on, is_among}
use Rattle.outside.specs.declared.shelf.Shelf.{Ghosts as ShelfGhosts}
use Rattle.cqe_base.specs.Schema.{Text, DatabaseSchema}
use Rattle.cqe_base.specs.Facts.{FactSet}
use Rattle.cqe_base.specs.declared.user.User.{User}
use Rattle.log_journal.specs.Names.{journal_name}
use Rattle.log_journal.specs.Records.{Recorded}
use Rattle.log_journal.specs.Walk.{AreThere}
use Rattle.desk_crew.specs.Crew.{seat_user, seat_journal, seat_disk}
use Rattle.desk_crew.specs.Crew.{IsLeftOpen, IsLeftBy, IsOpenedFrom}
use Rattle.desk_crew.specs.Seats.{DeskSeat}

-- The journals of users by their names, in a call: the bytes that were read of each as the call
-- began, none where there was no disk, and what a crash could leave then; the count of its disk's
-- faults then, and as the call ended; the bytes that are read then, and what a crash may leave; the
-- moments at which the call began and ended, by the clock of its disk, where there was one; what a
-- crash could leave at the moments since one of that clock, as the call ended; and the number below
-- which the marks of its records may be told then, 0 where there is no disk.
pub record Journals : Type 1 where
  pub bytes : Text → List ℕ
  pub image_before : Text → List ℕ → Type 0
  pub before : Text → ℕ
  pub now : Text → ℕ
  pub reads : Text → List ℕ
  pub image : Text → List ℕ → Type 0
  pub began : Text → Option ℕ
  pub ended : Text → Option ℕ
  pub since : Text → ℕ → List ℕ → Type 0
  pub told : Text → ℕ

-- the number below which the marks of a disk's records may be told, 0 where there is no disk
abbrev pub told_on : {D : Type 0} → (D → ℕ) → Option D → ℕ
told_on told None = 0
told_on told (Some disk) = told disk

-- the journals of users in a directory, by the disks and the counts under their names as a call
-- began and as it ended
abbrev pub journals_by : {D : Type 0} → (D → List ℕ) → (D → List ℕ → Type 0) → (D → ℕ)
    → (D → ℕ → List ℕ → Type 0) → (D → ℕ) → Text → (Text → Option D) → (Text → Option D)
    → (Text → ℕ) → (Text → ℕ) → Journals
journals_by reads image moment since told directory disk disk' count count' = record {
  bytes = λ name. bytes_on reads (disk (journal_name directory name));
  image_before = λ name. image_on image (disk (journal_name directory name));
  before = λ name. count (journal_name directory name);
  now = λ name. count' (journal_name directory name);
  reads = λ name. bytes_on reads (disk' (journal_name directory name));
  image = λ name. image_on image (disk' (journal_name directory name));
  began = λ name. option_map moment (disk (journal_name directory name));
  ended = λ name. option_map moment (disk' (journal_name directory name));
  since = λ name. since_on since (disk' (journal_name directory name));
  told = λ name. told_on told (disk' (journal_name directory name));
}

-- the same by a shelf as a call began and as it ended
abbrev pub journals_on : {F D : Type 0} → ShelfGhosts F D → DiskGhosts D → Text → F → F → Journals
journals_on Shelf Disk directory old new =
    journals_by Disk.reads Disk.image Disk.moment Disk.image_since Disk.tellable directory
    (Shelf.disk old) (Shelf.disk new) (Shelf.disk_faults old) (Shelf.disk_faults new)

-- The journal of this name was first opened in the call at a moment of its disk's clock. Up to it
-- no crash could leave anything new; since then each leaves bytes of this kind; and where no
-- opening held, none left anything new.
pub record StandsAllAlong (journals : Journals) (name : Text) (is_opened : Bool)
    (stands : List ℕ → Type 0) : Type 0 where
  pub opening : ℕ
  pub before : IfSome (journals.began name) (λ begun. (begun ≤ opening)
      × ((c : List ℕ) → journals.since name begun c
      → journals.image_before name c ⊎ journals.since name opening c))
  pub behind : is_opened ≡ true → (c : List ℕ) → journals.since name opening c → stands c
  pub never : is_opened ≡ false → (c : List ℕ) → journals.since name opening c
      → journals.image_before name c

-- The journal of this name was closed at a moment of its disk's clock, not before it was first
-- opened, at this one, and not behind the call's end. Since it was first opened a crash leaves
-- bytes of the first kind, or such as it could leave since the journal was closed; and these are
-- all of the second kind.
pub record ClosedBehind (journals : Journals) (name : Text) (opening : ℕ)
    (up_to since_then : List ℕ → Type 0) : Type 0 where
  pub closing : ℕ
  pub later : opening ≤ closing
  pub within : IfSome (journals.ended name) (λ ended. closing ≤ ended)
  pub before : (c : List ℕ) → journals.since name opening c
      → up_to c ⊎ journals.since name closing c
  pub behind : (c : List ℕ) → journals.since name closing c → since_then c

-- the journal of this name reads as it did, and no crash leaves anything new of it, nor did one at
-- a moment of the call, where it was there as the call began
abbrev pub KeepsJournal : Journals → Text → Type 0
KeepsJournal journals name = (journals.reads name ≡ journals.bytes name)
    × ((c : List ℕ) → journals.image name c → journals.image_before name c)
    × IfSome (journals.began name)
    (λ begun. (c : List ℕ) → journals.since name begun c → journals.image_before name c)

-- all do
abbrev pub KeepsJournals : Journals → Type 0
KeepsJournals journals = (name : Text) → KeepsJournal journals name

-- all but those of these names do
abbrev pub KeepsJournalsBut : List Text → Journals → Type 0
KeepsJournalsBut names journals =
    (name : Text) → is_among names name ≡ false → KeepsJournal journals name

-- what was told of records of a disk, nothing where there is none
abbrev pub heard_on : {D : Type 0} → (D → ℕ → Recorded → Type 0) → Option D → ℕ → Recorded → Type 0
heard_on heard None number one = ⊥
heard_on heard (Some disk) number one = heard disk number one

-- each record that was told of lies on the disk
abbrev pub ThereOn : {D : Type 0} → DiskGhosts D → Option D → Type 0
ThereOn Disk disk = AreThere (heard_on Disk.heard disk) (bytes_on Disk.reads disk)

-- so it is with the disk of each name with which it was so
abbrev pub StaysThere : {D : Type 0} → DiskGhosts D → (Text → Option D) → (Text → Option D) → Type 0
StaysThere Disk old new =
    Disk.tells → (name : Text) → ThereOn Disk (old name) → ThereOn Disk (new name)

-- the names of the seats' journals
abbrev pub journals : {D : Type 0} {g h : _} → List (DeskSeat D g h) → List Text
journals seats = map seat_journal seats

-- the count of faults under the name of each seat's journal is at most that of its disk as its desk
-- was opened
abbrev pub AreLater : {D : Type 0} {g h : _} → (D → ℕ) → (Text → ℕ) → List (DeskSeat D g h) → Type 0
AreLater faults count seats =
    AllByRecursion (λ seat. count (seat_journal seat) ≤ faults (seat_disk seat)) seats

-- what was told of the disk of each seat lay there as its desk was opened
abbrev pub SeatsThere : {D : Type 0} {g h : _} → DiskGhosts D → List (DeskSeat D g h) → Type 0
SeatsThere Disk seats = AllByRecursion
    (λ seat. AreThere (Disk.heard (seat_disk seat)) (Disk.reads (seat_disk seat))) seats

-- the disk of each seat comes from where the shelf knows the one under its journal's name to come
-- from
abbrev pub AreOwn : {D : Type 0} {g h : _} → (D → List (List ℕ)) → (Text → List (List ℕ))
    → List (DeskSeat D g h) → Type 0
AreOwn origin known seats =
    AllByRecursion (λ seat. origin (seat_disk seat) ≡ known (seat_journal seat)) seats

module _ {D : Type 0} (told : Type 0) (Disk : DiskGhosts D) where
  -- a seat's disk is back, as its desk left it or as one more opening did
  pub record IsBack {g h : _} (disk : Text → Option D) (count : Text → ℕ) (seat : DeskSeat D g h) :
      Type 0 where
    pub now : D
    pub left : IsLeftBy Disk seat.desk now
    pub held : told → disk (seat_journal seat) ≡ Some now
    pub counted : count (seat_journal seat) ≡ Disk.faults now

  -- all are
  abbrev pub AreBack : {g h : _} → (Text → Option D) → (Text → ℕ) → List (DeskSeat D g h) → Type 0
  AreBack disk count seats = AllByRecursion (IsBack disk count) seats

  module _ (schema : DatabaseSchema) (world : FactSet) (header directory : List ℕ) where
    -- a user's journal was taken from the shelf and opened
    pub record IsSeatOf {g h : _} (disk : Text → Option D) (count : Text → ℕ) (user : User)
        (seat : DeskSeat D g h) : Type 0 where
      pub user_is : seat_user seat ≡ user
      pub journal_is : seat_journal seat ≡ journal_name directory (string_bytes user.name)
      pub taken : D
      pub from : told → IsTaken Disk.reads Disk.image (disk (seat_journal seat)) taken
      pub unheard : HeardNothing (Disk.heard taken)
      pub counted : Disk.faults taken ≡ count (seat_journal seat)
      pub opened : IsOpenedFrom schema world header Disk taken None seat
      pub left : IsLeftOpen Disk taken (seat_disk seat)

    -- those of all users were
    abbrev pub AreSeatsOf : {g h : _} → (Text → Option D) → (Text → ℕ) → List User
        → List (DeskSeat D g h) → Type 0
    AreSeatsOf disk count [] [] = Unit {0}
    AreSeatsOf disk count (user ∷ users) (seat ∷ seats) =
        IsSeatOf disk count user seat × AreSeatsOf disk count users seats
    AreSeatsOf disk count users seats = ⊥
