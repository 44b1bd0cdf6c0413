-- What stands under the name of a disk: its mirror, or that it is out.
use Rattle.std.specs.Prelude.{◌≡◌, ℕ, Bool, true, false, List, [], length, Option, Some}
use Rattle.std.specs.Prelude.{None}
use Rattle.outside.specs.Dials.{Exchange}
use Rattle.standby_core.specs.declared.mirror.Mirror.{Mirror}
use Rattle.standby_core.specs.declared.slot.Place.{Place}
use Rattle.standby_core.specs.declared.slot.Place.TheVariants.{New, Out, Back}
use Rattle.standby_core.specs.MirroredDisks.{faults_by, exchanged_by}
use Rattle.standby_core.specs.Mirrors.{dial_of, texts_of}

-- the mirror that is there
abbrev pub mirror_in : {C : Type 0} {g : _} → Option (Place C g) → Option (Mirror C g)
mirror_in (Some (New mirror)) = Some mirror
mirror_in (Some (Back mirror)) = Some mirror
mirror_in _ = None

-- the mirror that is there and wasn't taken yet
abbrev pub new_in : {C : Type 0} {g : _} → Option (Place C g) → Option (Mirror C g)
new_in (Some (New mirror)) = Some mirror
new_in _ = None

-- what says where a disk with this mirror comes from, and without one these texts
abbrev pub texts_or : {C : Type 0} {g : _} → (C → List ℕ) → (C → List ℕ) → List (List ℕ)
    → Option (Mirror C g) → List (List ℕ)
texts_or name address made None = made
texts_or name address made (Some mirror) = texts_of name address mirror

-- whether a mirror was there and is out
abbrev pub is_away : {C : Type 0} {g : _} → Option (Place C g) → Bool
is_away (Some (New mirror)) = false
is_away (Some (Back mirror)) = false
is_away (Some Out) = true
is_away None = false

-- how many mirrors are there: one or none
abbrev pub there_in : {C : Type 0} {g : _} → Place C g → ℕ
there_in (New mirror) = 1
there_in (Back mirror) = 1
there_in Out = 0

-- what the dial of the mirror that is there has exchanged
abbrev pub exchanged_in : {C : Type 0} {g : _} → (C → List Exchange) → Place C g → List Exchange
exchanged_in exchanged (New mirror) = exchanged (dial_of mirror)
exchanged_in exchanged (Back mirror) = exchanged (dial_of mirror)
exchanged_in exchanged Out = []

-- the number that was last answered to its dial, 0 at first
abbrev pub answered_in : {C : Type 0} {g : _} → (C → ℕ) → Place C g → ℕ
answered_in answered (New mirror) = answered (dial_of mirror)
answered_in answered (Back mirror) = answered (dial_of mirror)
answered_in answered Out = 0

-- how much the dial of the mirror exchanged that is there
abbrev pub count_in : {C : Type 0} {g : _} → (C → List Exchange) → Option (Place C g) → ℕ
count_in exchanged place = length (exchanged_by exchanged (mirror_in place))

-- the faults of its dial; a mirror that was taken and isn't back had none
abbrev pub faults_in : {C : Type 0} {g : _} → (C → ℕ) → Option (Place C g) → ℕ
faults_in faults place = faults_by faults (mirror_in place)

-- its mirror is there and wasn't taken yet: no fault of its dial was counted, and it exchanged
-- nothing
pub record IsUnused {C : Type 0} {g : _} (told : Type 0) (faults : C → ℕ)
    (exchanged : C → List Exchange) (place : Place C g) : Type 0 where
  pub there : there_in place ≡ 1
  pub faultless : faults_in faults (Some place) ≡ 0
  pub silent : told → exchanged_in exchanged place ≡ []
