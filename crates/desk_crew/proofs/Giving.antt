-- Disks that are to be given back, and that were.
use Rattle.std.proofs.Common.{◌≡◌, ℕ, ◌≤◌, Bool, false, List, map, All}
use Rattle.std.specs.Prelude.{Option}
use Rattle.std.specs.List.{AllByRecursion}
use Rattle.outside.specs.Shelf.{SameBeside, AllOut, AllIn, NoneOut, NoneFell, NoNewSince, bytes_on, image_on}
use Rattle.outside.specs.declared.disk.Disk.{Ghosts as DiskGhosts}
use Rattle.cqe_base.specs.Schema.{Text, DatabaseSchema, has_duplicate}
use Rattle.cqe_base.specs.Facts.{FactSet}
use Rattle.desk_crew.specs.Crew.{seat_journal, seat_disk}
use Rattle.desk_crew.specs.Seats.{DeskSeat}
use Rattle.desk_crew.specs.Shelved.{IsBack, ThereOn}
use Rattle.desk_crew.specs.Side.{DeskOpening, IsAtDisk, opening_journal, opening_faults, IsPutBack, KeepsOpening, IsKnown}

-- the disks of these can be given back under their names: they are out, and their counts are no less
pub record CanReturn {X : Type 0} (name : X → Text) (least : X → ℕ) (xs : List X) (is_out : Text → Bool) (count : Text → ℕ) : Type 0 where
  pub distinct : has_duplicate (map name xs) ≡ false
  pub out : AllOut (map name xs) is_out
  pub later : AllByRecursion (λ x. count (name x) ≤ least x) xs

-- all of these were
pub record AreReturned {D X : Type 0} (name : X → Text) (Back : (Text → Option D) → (Text → ℕ) → X → Type 0) (xs : List X) (disk disk' : Text → Option D)
    (is_out is_out' : Text → Bool) (count count' : Text → ℕ) : Type 0 where
  pub back : AllByRecursion (Back disk' count') xs
  pub inside : AllIn (map name xs) is_out'
  pub others_out : SameBeside (map name xs) is_out is_out'
  pub disks : SameBeside (map name xs) disk disk'
  pub counts : SameBeside (map name xs) count count'

-- the disks of these seats can be given back
abbrev pub CanGive : {D : Type 0} {g h : _} → DiskGhosts D → List (DeskSeat D g h) → (Text → Bool) → (Text → ℕ) → Type 0
CanGive {D} {g} {h} Disk seats is_out count = CanReturn seat_journal (λ (seat : DeskSeat D g h). Disk.faults (seat_disk seat)) seats is_out count

-- and were
abbrev pub AreGiven : {D : Type 0} {g h : _} → Type 0 → DiskGhosts D → List (DeskSeat D g h) → (Text → Option D) → (Text → Option D) → (Text → Bool)
    → (Text → Bool) → (Text → ℕ) → (Text → ℕ) → Type 0
AreGiven told Disk seats disk disk' is_out is_out' count count' =
    AreReturned seat_journal (IsBack told Disk) seats disk disk' is_out is_out' count count'

-- the disks of these journals can be given back
abbrev pub CanPutBack : {D : Type 0} {g h : _} → DiskGhosts D → List (DeskOpening D g h) → (Text → Bool) → (Text → ℕ) → Type 0
CanPutBack {D} {g} {h} Disk openings is_out count =
    CanReturn opening_journal (λ (opening : DeskOpening D g h). opening_faults Disk.faults opening) openings is_out count

-- and were
abbrev pub WerePutBack : {D : Type 0} {g h : _} → Type 0 → DiskGhosts D → List (DeskOpening D g h) → (Text → Option D) → (Text → Option D) → (Text → Bool)
    → (Text → Bool) → (Text → ℕ) → (Text → ℕ) → Type 0
WerePutBack told Disk openings disk disk' is_out is_out' count count' =
    AreReturned opening_journal (IsPutBack told Disk) openings disk disk' is_out is_out' count count'

-- these journals are on their disks, and ready to be opened: their users keep the limits, and what is known of their admission is so
pub record AreReady {D : Type 0} {g h : _} (schema : DatabaseSchema) (world : FactSet) (Disk : DiskGhosts D) (openings : List (DeskOpening D g h))
    (is_out : Text → Bool) (count : Text → ℕ) : Type 0 where
  pub limits : All (KeepsOpening schema world) openings
  pub known : All (IsKnown schema world) openings
  pub closed : AllByRecursion IsAtDisk openings
  pub can : CanPutBack Disk openings is_out count

-- what stands under a name reads as before, and no crash leaves anything new of it, at no moment either; and where what was told of lay there, it does now
abbrev pub Same : {D : Type 0} → DiskGhosts D → (Text → Option D) → (Text → Option D) → Text → Type 0
Same Disk old new name =
    (bytes_on Disk.reads (new name) ≡ bytes_on Disk.reads (old name)) × ((c : List ℕ) → image_on Disk.image (new name) c → image_on Disk.image (old name) c)
    × NoNewSince Disk.moment Disk.image_since Disk.image (old name) (new name)
    × (Disk.tells → ThereOn Disk (old name) → ThereOn Disk (new name))

-- behind a refusal all disks are on the shelf, as they were
pub record AreUnopened {D : Type 0} (told : Type 0) (Disk : DiskGhosts D) (names : List Text) (disk disk' : Text → Option D) (is_out' : Text → Bool)
    (count count' : Text → ℕ) : Type 0 where
  pub inside : NoneOut is_out'
  pub same : told → (name : Text) → Same Disk disk disk' name
  pub disks : SameBeside names disk disk'
  pub counts : NoneFell count count'
  pub other_counts : SameBeside names count count'

-- behind a run no disk but these was touched, and all are back
pub record AllReturned {D : Type 0} (names : List Text) (disk disk' : Text → Option D) (is_out' : Text → Bool) (count count' : Text → ℕ) : Type 0 where
  pub disks : SameBeside names disk disk'
  pub inside : NoneOut is_out'
  pub counts : NoneFell count count'
  pub other_counts : SameBeside names count count'
