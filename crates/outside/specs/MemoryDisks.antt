-- The disks of a shelf in memory, by what stands at the place of a name.
use Rattle.std.specs.Prelude.{ℕ, Bool, true, false, Option, Some, None}
use Rattle.outside.specs.declared.memory_disk.MemoryDisk.{MemoryDisk}
use Rattle.outside.specs.declared.memory_shelf.Place.{Place}
use Rattle.outside.specs.declared.memory_shelf.Place.TheVariants.{Here, Out}
use Rattle.outside.specs.MemoryDisk.{memory_faults}

-- the disk that stands there
abbrev pub held_at : Option Place → Option MemoryDisk
held_at (Some (Here disk)) = Some disk
held_at place = None

-- it was taken and isn't back
abbrev pub out_at : Option Place → Bool
out_at (Some (Out faults)) = true
out_at place = false

-- its count of faults, as it was when it was last there
abbrev pub faults_at : Option Place → ℕ
faults_at (Some (Here disk)) = memory_faults disk
faults_at (Some (Out faults)) = faults
faults_at None = 0
