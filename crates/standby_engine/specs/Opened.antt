-- The journals of a standby that were opened, and those that were refused.
use Rattle.std.specs.Prelude.{◌≡◌, ◌≢◌, ℕ, false, List, [], ◌∷◌, map, Option, Some, None}
use Rattle.std.specs.Prelude.{string_bytes}
use Rattle.std.specs.List.{AllByRecursion, AllZip}
use Rattle.outside.specs.Shelf.{IsTaken, SameBytes, NoNewImages, NoNewMoments}
use Rattle.outside.specs.declared.disk.Disk.{Ghosts as DiskGhosts}
use Rattle.cqe_base.specs.declared.user.User.{User}
use Rattle.log_journal.specs.Journal.{disk_of, is_broken, count_of}
use Rattle.log_journal.specs.Names.{journal_name}
use Rattle.log_journal.specs.Opening.{IsOnlyRead, IsRefused}
use Rattle.log_journal.specs.Records.{Recorded, IsJournal}
use Rattle.log_journal.specs.declared.header.OpenError.TheVariants.{Memory}
use Rattle.user_desk.specs.declared.standing.DeskError.{DeskError}
use Rattle.user_desk.specs.declared.standing.DeskError.TheVariants.{Journal}
use Rattle.standby_core.specs.Copies.{copy_in, held_name}
use Rattle.standby_core.specs.Lasting.{Lasts}
use Rattle.standby_core.specs.declared.book.Held.{Held}
use Rattle.standby_engine.specs.declared.opening.Given.{Given}
use Rattle.standby_engine.specs.declared.opening.Place.{Place}
use Rattle.standby_engine.specs.declared.opening.Place.TheVariants.{Opened, Refused}

-- Under all names the same bytes are read, and no crash leaves anything new, at no moment either.
abbrev pub AllStay : {D : Type 0} → DiskGhosts D → (List ℕ → Option D) → (List ℕ → Option D)
    → Type 0
AllStay Disk old new = SameBytes Disk.reads old new × NoNewImages Disk.image old new
    × NoNewMoments Disk.moment Disk.image_since Disk.image old new

-- the name of the disk of a place
abbrev pub place_journal : {D : Type 0} {g : _} → Place D g → List ℕ
place_journal (Opened journal held) = string_bytes journal
place_journal (Refused journal disk why) = string_bytes journal

-- its disk
abbrev pub place_disk : {D : Type 0} {g : _} → Place D g → D
place_disk (Opened journal held) = disk_of held.journal
place_disk (Refused journal disk why) = disk

-- why it was refused
abbrev pub place_refusal : {D : Type 0} {g : _} → Place D g → Option DeskError
place_refusal (Opened journal held) = None
place_refusal (Refused journal disk why) = Some (Journal why)

-- the name of a disk that goes back
abbrev pub given_journal : {D : Type 0} → Given D → List ℕ
given_journal given = string_bytes given.journal

-- the disks of these come from where the shelf knows those under their names to come from
abbrev pub AreOwn : {D : Type 0} → (D → List (List ℕ)) → (List ℕ → List (List ℕ)) → List (Given D)
    → Type 0
AreOwn origin known all = map origin (map (λ one. one.disk) all) ≡ map known (map given_journal all)

-- so do those of these places
abbrev pub PlacesOwn : {D : Type 0} {g : _} → (D → List (List ℕ)) → (List ℕ → List (List ℕ))
    → List (Place D g) → Type 0
PlacesOwn origin known places =
    map origin (map place_disk places) ≡ map known (map place_journal places)

-- the journals among places that were opened, in order
abbrev pub opened_in : {D : Type 0} {g : _} → List (Place D g) → List (Held D g)
opened_in [] = []
opened_in (Opened journal held ∷ places) = held ∷ opened_in places
opened_in (Refused journal disk why ∷ places) = opened_in places

-- the names of their disks
abbrev pub names_in : {D : Type 0} {g : _} → List (Place D g) → List (List ℕ)
names_in [] = []
names_in (Opened journal held ∷ places) = string_bytes journal ∷ names_in places
names_in (Refused journal disk why ∷ places) = names_in places

-- the disks of the others, with their names
abbrev pub others_in : {D : Type 0} {g : _} → List (Place D g) → List (Given D)
others_in [] = []
others_in (Opened journal held ∷ places) = others_in places
others_in (Refused journal disk why ∷ places) =
    record { journal = journal; disk = disk } ∷ others_in places

-- A disk that was opened is a journal with these first records, and lasts so from then on.
abbrev pub IsOpenedAs : {D : Type 0} {g : _} → DiskGhosts D → List ℕ → D → Place D g
    → List Recorded → Type 0
IsOpenedAs Disk header taken (Opened journal held) first =
    IsJournal header first (Disk.reads taken)
    × Lasts Disk header (disk_of held.journal) (disk_of held.journal) (copy_in Disk.reads held)
IsOpenedAs Disk header taken (Refused journal disk why) first = Unit {0}

-- no append of it failed yet, and the count is that of its records; or the refusal has its cause
abbrev pub IsFreshOrRefused : {D : Type 0} {g : _} → DiskGhosts D → List ℕ → D → Place D g
    → Type 0
IsFreshOrRefused Disk header taken (Opened journal held) =
    (is_broken held.journal ≡ false) × (held.count ≡ count_of held.journal)
IsFreshOrRefused Disk header taken (Refused journal disk why) =
    IsRefused Disk.tells header (Disk.reads taken) (Disk.faults taken) (Disk.faults disk) why

-- it wasn't refused since memory was wanting
abbrev pub HasMemory : {D : Type 0} {g : _} → Place D g → Type 0
HasMemory (Opened journal held) = Unit {0}
HasMemory (Refused journal disk why) = why ≢ Memory

-- an opened journal is that of the user of this name
abbrev pub IsNamed : {D : Type 0} {g : _} → Place D g → List ℕ → Type 0
IsNamed (Opened journal held) name = held_name held ≡ name
IsNamed (Refused journal disk why) name = Unit {0}

module _ {D : Type 0} (told : Type 0) (Disk : DiskGhosts D) where
  -- a disk is back under its name
  pub record IsGiven (disk : List ℕ → Option D) (count : List ℕ → ℕ) (given : Given D) :
      Type 0 where
    pub held : told → disk (given_journal given) ≡ Some given.disk
    pub counted : count (given_journal given) ≡ Disk.faults given.disk

  -- these disks are back, each under its name
  abbrev pub AreGiven : (List ℕ → Option D) → (List ℕ → ℕ) → List (Given D) → Type 0
  AreGiven disk count all = AllByRecursion (IsGiven disk count) all

  module _ (header : List ℕ) where
    -- The disk of this name was taken and opened as the journal of a user of the other, or refused;
    -- either way it was only read.
    pub record IsPlaceUnder {g : _} (disk : List ℕ → Option D) (count : List ℕ → ℕ)
        (journal name : List ℕ) (place : Place D g) : Type 0 where
      pub journal_is : place_journal place ≡ journal
      pub named : IsNamed place name
      pub memory : HasMemory place
      pub taken : D
      pub from : told → IsTaken Disk.reads Disk.image (disk journal) taken
      pub counted : Disk.faults taken ≡ count journal
      pub opened : Disk.tells → (first : List Recorded)
          × IsOpenedAs Disk header taken place first
      pub sound : IsFreshOrRefused Disk header taken place
      pub only : IsOnlyRead (Disk.reads taken) (Disk.reads (place_disk place)) (Disk.image taken)
          (Disk.image (place_disk place)) (Disk.moment taken) (Disk.moment (place_disk place))
          (Disk.image_since taken) (Disk.image_since (place_disk place)) (Disk.faults taken)
          (Disk.faults (place_disk place))

    module _ (directory : List ℕ) where
      -- so it was with a user's journal
      abbrev pub IsPlaceOf : {g : _} → (List ℕ → Option D) → (List ℕ → ℕ) → User → Place D g
          → Type 0
      IsPlaceOf disk count user place =
          IsPlaceUnder disk count (journal_name directory (string_bytes user.name))
          (string_bytes user.name) place

      -- and with those of all users
      abbrev pub ArePlacesOf : {g : _} → (List ℕ → Option D) → (List ℕ → ℕ) → List User
          → List (Place D g) → Type 0
      ArePlacesOf disk count users places = AllZip (IsPlaceOf disk count) users places
