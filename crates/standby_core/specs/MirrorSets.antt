-- The mirrors of users' journals.
use Rattle.std.specs.Prelude.{◌≡◌, ℕ, List, Option}
use Rattle.outside.specs.Dials.{Exchange}
use Rattle.log_journal.specs.Walk.{AreThere}
use Rattle.standby_core.specs.declared.mirrors.Mirrors.{Mirrors}
use Rattle.standby_core.specs.declared.slot.Slot.{Slot}
use Rattle.standby_core.specs.MirroredDisks.{heard_by}
use Rattle.standby_core.specs.Places.{mirror_in, faults_in, count_in}
use Rattle.standby_core.specs.Slots.{place_at, marks_told}

-- the places of mirrors, each under its name
abbrev pub slots_of : {C : Type 0} {g : _} → Mirrors C g → List (Slot C g)
slots_of mirrors = mirrors.slots.items

-- the faults of the dial of a name
abbrev pub dial_faults : {C : Type 0} {g : _} → (C → ℕ) → Mirrors C g → List ℕ → ℕ
dial_faults faults mirrors name = faults_in faults (place_at (slots_of mirrors) name)

-- the number below which the marks may be told of the disk that a shelf holds under a name
abbrev pub dial_marks : {D C : Type 0} {g : _} → (C → ℕ) → (List ℕ → Option D) → Mirrors C g
    → List ℕ → ℕ
dial_marks answered disk mirrors name =
    marks_told answered (disk name) (place_at (slots_of mirrors) name)

-- the records that the dials told of lie among the bytes under their names, each at its number
abbrev pub DialsLie : {C : Type 0} {g : _} → Type 0 → (C → List Exchange) → Mirrors C g
    → (List ℕ → List ℕ) → Type 0
DialsLie told exchanged mirrors bytes = (name : List ℕ) → AreThere
    (heard_by told exchanged (mirror_in (place_at (slots_of mirrors) name))) (bytes name)

-- none of them has exchanged anything
abbrev pub DialsSilent : {C : Type 0} {g : _} → Type 0 → (C → List Exchange) → Mirrors C g → Type 0
DialsSilent told exchanged mirrors =
    told → (name : List ℕ) → count_in exchanged (place_at (slots_of mirrors) name) ≡ 0
