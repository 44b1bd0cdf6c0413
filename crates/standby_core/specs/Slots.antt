-- The mirrors of journals by the names of their disks, and the disks of a shelf with them.
use Rattle.std.specs.Prelude.{◌≡◌, ℕ, List, [], ◌∷◌, ◌++◌, map, Option, Some, None, option_map}
use Rattle.std.specs.Prelude.{string_bytes, Bool, true, false, is_some}
use Rattle.std.specs.List.{AllByRecursion, sum_by}
use Rattle.outside.specs.Dials.{Exchange, faults_under}
use Rattle.outside.specs.Shelf.{Lent}
use Rattle.standby_core.specs.declared.mirrored_disk.MirroredDisk.{MirroredDisk}
use Rattle.standby_core.specs.declared.slot.Place.{Place}
use Rattle.standby_core.specs.declared.slot.Slot.{Slot}
use Rattle.standby_core.specs.MirroredDisks.{mirrored, told_by}
use Rattle.standby_core.specs.Named.{first_named}
use Rattle.standby_core.specs.Mirrors.{texts_of}
use Rattle.standby_core.specs.Places.{mirror_in, faults_in, there_in, exchanged_in, answered_in}
use Rattle.standby_core.specs.Places.{is_away, IsUnused}

-- the name of a slot
abbrev pub slot_name : {C : Type 0} {g : _} → Slot C g → List ℕ
slot_name slot = string_bytes slot.journal

-- what stands under a name
abbrev pub place_at : {C : Type 0} {g : _} → List (Slot C g) → List ℕ → Option (Place C g)
place_at slots name = option_map (λ slot. slot.place) (first_named slot_name slots name)

-- the disk that a shelf holds under a name, with what stands there among the mirrors
abbrev pub mirrored_at : {D C : Type 0} {g : _} → Option D → Option (Place C g)
    → Option (MirroredDisk D C g)
mirrored_at disk place = option_map (λ d. mirrored d (mirror_in place)) disk

-- the number below which the marks may be told of a disk with what stands there, 0 where there is
-- no disk
abbrev pub marks_told : {D C : Type 0} {g : _} → (C → ℕ) → Option D → Option (Place C g) → ℕ
marks_told answered None place = 0
marks_told answered (Some disk) place = told_by answered (mirror_in place)

-- the number that was last answered to the dial of a slot's mirror, where that is there
abbrev pub slot_answered : {C : Type 0} {g : _} → (C → ℕ) → Slot C g → ℕ
slot_answered answered slot = answered_in answered slot.place

-- what says where the disk with a slot's mirror comes from, as that was made
abbrev pub slot_texts : {C : Type 0} {g : _} → (C → List ℕ) → (C → List ℕ) → Slot C g
    → List (List ℕ)
slot_texts name address slot = texts_of name address slot.made.value

-- the same of the slot of a name, where there is one
abbrev pub made_at : {C : Type 0} {g : _} → (C → List ℕ) → (C → List ℕ) → List (Slot C g) → List ℕ
    → Option (List (List ℕ))
made_at name address slots wanted =
    option_map (slot_texts name address) (first_named slot_name slots wanted)

-- with what says it of the disk below
abbrev pub with_made : Option (List (List ℕ)) → List (List ℕ) → List (List ℕ)
with_made None below = []
with_made (Some made) below = made ++ below

-- the mirrors were made alike, one by one and name by name
pub record SameMade {C : Type 0} {g : _} (name address : C → List ℕ) (old new : List (Slot C g)) :
    Type 0 where
  pub all : map (slot_texts name address) new ≡ map (slot_texts name address) old
  pub each : (wanted : List ℕ) → made_at name address new wanted ≡ made_at name address old wanted

-- what stays the same of a shelf with mirrors: the names of the references to what was lent to it,
-- how each mirror was made, and what says where its disks come from
abbrev pub mirrored_lent : ℕ → ℕ → List (List (List ℕ)) → (List ℕ → Option (List (List ℕ))) → Lent
    → Lent
mirrored_lent shelf mirrors made by_name below = record {
  names = shelf ∷ mirrors ∷ below.names;
  origins = made;
  origin = λ name. with_made (by_name name) (below.origin name);
}

-- the faults of the dials of several mirrors, by the names of their slots
abbrev pub faults_of : {C : Type 0} {g : _} → (C → ℕ) → List (Slot C g) → List ℕ → ℕ
faults_of faults slots =
    faults_under slot_name (λ slot. faults_in faults (Some slot.place)) slots

-- none of these mirrors was taken yet
abbrev pub AreUnused : {C : Type 0} {g : _} → Type 0 → (C → ℕ) → (C → List Exchange)
    → List (Slot C g) → Type 0
AreUnused told faults exchanged slots =
    AllByRecursion (λ slot. IsUnused told faults exchanged slot.place) slots

-- how many mirrors are there
abbrev pub there_among : {C : Type 0} {g : _} → List (Slot C g) → ℕ
there_among slots = sum_by (λ slot. there_in slot.place) slots

-- what the dials of the mirrors exchanged that are there, those of the last first
abbrev pub exchanged_among : {C : Type 0} {g : _} → (C → List Exchange) → List (Slot C g)
    → List Exchange
exchanged_among exchanged [] = []
exchanged_among exchanged (slot ∷ slots) =
    exchanged_among exchanged slots ++ exchanged_in exchanged slot.place

-- each disk that is out has a place among the mirrors
abbrev pub HavePlaces : {C : Type 0} {g : _} → (List ℕ → Bool) → List (Slot C g) → Type 0
HavePlaces is_out slots =
    (name : List ℕ) → is_out name ≡ true → is_some (place_at slots name) ≡ true

-- and no other mirror is out
abbrev pub HaveMirrors : {C : Type 0} {g : _} → (List ℕ → Bool) → List (Slot C g) → Type 0
HaveMirrors is_out slots =
    (name : List ℕ) → is_out name ≡ false → is_away (place_at slots name) ≡ false
