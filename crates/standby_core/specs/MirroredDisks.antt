-- What a mirrored disk shows.
use Rattle.std.specs.Prelude.{◌≡◌, ℕ, ◌^◌, List, [], ◌++◌, Option, Some, None}
use Rattle.std.specs.List.{slice_get}
use Rattle.outside.specs.Dials.{Exchange}
use Rattle.standby_core.specs.declared.mirror.Mirror.{Mirror}
use Rattle.standby_core.specs.declared.mirrored_disk.MirroredDisk.{MirroredDisk}
use Rattle.standby_core.specs.Calls.{TellsOf}
use Rattle.standby_core.specs.Mirrors.{dial_of, header_of, user_of, texts_of}

-- the disk under it
abbrev pub inner_of : {D C : Type 0} {g : _} → MirroredDisk D C g → D
inner_of disk = disk.inner

-- its mirror, where it has one
abbrev pub mirror_of : {D C : Type 0} {g : _} → MirroredDisk D C g → Option (Mirror C g)
mirror_of disk = disk.mirror

-- the disk of these two
abbrev pub mirrored : {D C : Type 0} {g : _} → D → Option (Mirror C g) → MirroredDisk D C g
mirrored inner mirror = record { inner = inner; mirror = mirror }

-- what says where it comes from: what does of its mirror, and what does of the disk under it
abbrev pub origin_with : {C : Type 0} {g : _} → (C → List ℕ) → (C → List ℕ)
    → Option (Mirror C g) → List (List ℕ) → List (List ℕ)
origin_with name address None below = []
origin_with name address (Some mirror) below = texts_of name address mirror ++ below

-- the marks of records with lower numbers may be told: all where there is no mirror
abbrev pub told_by : {C : Type 0} {g : _} → (C → ℕ) → Option (Mirror C g) → ℕ
told_by answered None = 2 ^ 64
told_by answered (Some mirror) = answered (dial_of mirror)

-- how often its dial failed
abbrev pub faults_by : {C : Type 0} {g : _} → (C → ℕ) → Option (Mirror C g) → ℕ
faults_by faults None = 0
faults_by faults (Some mirror) = faults (dial_of mirror)

-- what its dial exchanged
abbrev pub exchanged_by : {C : Type 0} {g : _} → (C → List Exchange) → Option (Mirror C g)
    → List Exchange
exchanged_by exchanged None = []
exchanged_by exchanged (Some mirror) = exchanged (dial_of mirror)

-- an exchange of its dial, where they are told, told of this record with this number
abbrev pub heard_by : {C : Type 0} {g : _} → Type 0 → (C → List Exchange) → Option (Mirror C g) → ℕ
    → ℕ × List ℕ → Type 0
heard_by told exchanged None number record' = ⊥
heard_by told exchanged (Some mirror) number record' = told × (place : ℕ) × (one : Exchange)
    × (slice_get (exchanged (dial_of mirror)) place ≡ Some one)
    × TellsOf (header_of mirror) (user_of mirror) number record' one
