-- What a disk in memory shows.
use Rattle.std.specs.Prelude.{◌≡◌, ℕ, List, [], length}
use Rattle.outside.specs.declared.memory_disk.Call.{Call}
use Rattle.outside.specs.declared.memory_disk.MemoryDisk.{MemoryDisk}
use Rattle.outside.specs.Disk.{Only}
use Rattle.outside.specs.Record.{IsImage, IsImageSince}

-- the bytes that it reads
abbrev pub memory_bytes : MemoryDisk → List ℕ
memory_bytes disk = disk.bytes.items

-- its record of calls
abbrev pub memory_calls : MemoryDisk → List Call
memory_calls disk = disk.calls.items

-- its count of faults
abbrev pub memory_faults : MemoryDisk → ℕ
memory_faults disk = disk.faults

-- what a crash may leave of it now
abbrev pub IsMemoryImage : MemoryDisk → List ℕ → Type 0
IsMemoryImage disk c = IsImage disk.first.items disk.calls.items c

-- its clock: how many calls are in the record
abbrev pub memory_moment : MemoryDisk → ℕ
memory_moment disk = length disk.calls.items

-- what a crash might have left at a moment since that one
abbrev pub IsMemoryImageSince : MemoryDisk → ℕ → List ℕ → Type 0
IsMemoryImageSince disk t c = IsImageSince disk.first.items disk.calls.items t c

-- it has these bytes, all of them synced, and was never called
pub record IsFresh (bytes : List ℕ) (disk : MemoryDisk) : Type 0 where
  pub reads : memory_bytes disk ≡ bytes
  pub synced : Only bytes (IsMemoryImage disk)
  pub uncalled : memory_calls disk ≡ []
  pub faultless : memory_faults disk ≡ 0
