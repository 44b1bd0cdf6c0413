-- What a call of a shelf does to what stands under its names.
use Rattle.std.specs.Prelude.{◌≡◌, ◌⊎◌, ◌++◌, ◌∷◌, ℕ, ◌≤◌, List, [], Bool, true, false, bytes_eq}
use Rattle.std.specs.Prelude.{Option, Some, None, IfSome}
use Rattle.std.specs.List.{list_any}
use Rattle.outside.specs.Disk.{Only}
use Rattle.outside.specs.Faults.{Rose}

-- Under every name the same stands as before.
abbrev pub SameNames : {A : Type 0} → (List ℕ → A) → (List ℕ → A) → Type 0
SameNames old new = (name : List ℕ) → new name ≡ old name

-- Under every name but this one the same stands as before.
abbrev pub SameOthers : {A : Type 0} → List ℕ → (List ℕ → A) → (List ℕ → A) → Type 0
SameOthers name old new = (other : List ℕ) → bytes_eq other name ≡ false → new other ≡ old other

-- Whether a name is among these.
abbrev pub is_among : List (List ℕ) → List ℕ → Bool
is_among names name = list_any (bytes_eq name) names

-- Under every name but these the same stands as before.
abbrev pub SameBeside : {A : Type 0} → List (List ℕ) → (List ℕ → A) → (List ℕ → A) → Type 0
SameBeside names old new = (name : List ℕ) → is_among names name ≡ false → new name ≡ old name

-- The file of this name was looked at behind those before, or no further one was.
abbrev pub Looks : List ℕ → List (List ℕ) → List (List ℕ) → Type 0
Looks name old new = (new ≡ old) ⊎ (new ≡ old ++ name ∷ [])

-- The bytes that a disk reads; none where there is no disk.
abbrev pub bytes_on : {D : Type 0} → (D → List ℕ) → Option D → List ℕ
bytes_on reads None = []
bytes_on reads (Some disk) = reads disk

-- What a crash may leave of it.
abbrev pub image_on : {D : Type 0} → (D → List ℕ → Type 0) → Option D → List ℕ → Type 0
image_on image None bytes = bytes ≡ []
image_on image (Some disk) bytes = image disk bytes

-- What a crash could leave of it at the moments since one of its clock.
abbrev pub since_on : {D : Type 0} → (D → ℕ → List ℕ → Type 0) → Option D → ℕ → List ℕ → Type 0
since_on since None moment bytes = bytes ≡ []
since_on since (Some disk) moment bytes = since disk moment bytes

-- The disk that was held, or where none was held, one without bytes.
abbrev pub IsTaken : {D : Type 0} → (D → List ℕ) → (D → List ℕ → Type 0) → Option D → D → Type 0
IsTaken reads image (Some held) disk = disk ≡ held
IsTaken reads image None disk = (reads disk ≡ []) × Only [] (image disk)

-- The disks of all names read the same as before.
abbrev pub SameBytes : {D : Type 0} → (D → List ℕ) → (List ℕ → Option D) → (List ℕ → Option D)
    → Type 0
SameBytes reads old new = (name : List ℕ) → bytes_on reads (new name) ≡ bytes_on reads (old name)

-- No disk has an image that it hadn't before.
abbrev pub NoNewImages : {D : Type 0} → (D → List ℕ → Type 0) → (List ℕ → Option D)
    → (List ℕ → Option D) → Type 0
NoNewImages image old new =
    (name : List ℕ) (c : List ℕ) → image_on image (new name) c → image_on image (old name) c

-- A disk that was held had no image since, at no moment of its clock, that it hadn't then.
abbrev pub NoNewSince : {D : Type 0} → (D → ℕ) → (D → ℕ → List ℕ → Type 0)
    → (D → List ℕ → Type 0) → Option D → Option D → Type 0
NoNewSince moment since image old new = IfSome old
    (λ held. (c : List ℕ) → since_on since new (moment held) c → image held c)

-- So it is with the disks of all names.
abbrev pub NoNewMoments : {D : Type 0} → (D → ℕ) → (D → ℕ → List ℕ → Type 0)
    → (D → List ℕ → Type 0) → (List ℕ → Option D) → (List ℕ → Option D) → Type 0
NoNewMoments moment since image old new =
    (name : List ℕ) → NoNewSince moment since image (old name) (new name)

-- What stays the same of a shelf, so that who lent it something knows what he has back: the names
-- of the references by which it reaches that, what says where the disks come from that it was lent,
-- one by one, and the same of the disk of each name.
pub record Lent : Type 0 where
  pub names : List ℕ
  pub origins : List (List (List ℕ))
  pub origin : List ℕ → List (List ℕ)

-- nothing was lent to it, and its disks say nothing of where they come from
abbrev pub nothing_lent : Lent
nothing_lent = record { names = []; origins = []; origin = λ name. [] }

-- No disk is out.
abbrev pub NoneOut : (List ℕ → Bool) → Type 0
NoneOut is_out = (name : List ℕ) → is_out name ≡ false

-- The disks of these names are all out.
abbrev pub AllOut : List (List ℕ) → (List ℕ → Bool) → Type 0
AllOut names is_out = (name : List ℕ) → is_among names name ≡ true → is_out name ≡ true

-- They are all on the shelf.
abbrev pub AllIn : List (List ℕ) → (List ℕ → Bool) → Type 0
AllIn names is_out = (name : List ℕ) → is_among names name ≡ true → is_out name ≡ false

-- The disks of these names are out, and no others.
abbrev pub AreOut : List (List ℕ) → (List ℕ → Bool) → Type 0
AreOut names is_out = (name : List ℕ) → is_out name ≡ is_among names name

-- No count of a disk's faults fell.
abbrev pub NoneFell : (List ℕ → ℕ) → (List ℕ → ℕ) → Type 0
NoneFell old new = (name : List ℕ) → old name ≤ new name

-- The count of some disk rose.
abbrev pub SomeRose : (List ℕ → ℕ) → (List ℕ → ℕ) → Type 0
SomeRose old new = (name : List ℕ) × Rose (old name) (new name)
