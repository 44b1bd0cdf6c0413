-- What a shelf in memory shows.
use Rattle.std.specs.Prelude.{ℕ, Bool, List, Option, map, string_bytes}
use Rattle.outside.specs.MemoryFiles.{file_among}
use Rattle.outside.specs.Places.{at_name}
use Rattle.outside.specs.MemoryDisks.{held_at, out_at, faults_at}
use Rattle.outside.specs.declared.memory_disk.MemoryDisk.{MemoryDisk}
use Rattle.outside.specs.declared.memory_shelf.MemoryShelf.{MemoryShelf}

-- its files, each a name and its bytes
abbrev pub files_of : MemoryShelf → List (List ℕ × List ℕ)
files_of shelf = map (λ file. (string_bytes file.name, file.bytes.items)) shelf.files.items

-- its count of faults
abbrev pub shelf_faults : MemoryShelf → ℕ
shelf_faults shelf = shelf.faults

-- the names of the files that were looked at, in order
abbrev pub files_looked_at : MemoryShelf → List (List ℕ)
files_looked_at shelf = map string_bytes shelf.looked.items

-- the bytes of the first file of a name
abbrev pub file_named : MemoryShelf → List ℕ → Option (List ℕ)
file_named shelf name = file_among shelf.files.items name

-- the disk that it holds under a name
abbrev pub disk_named : MemoryShelf → List ℕ → Option MemoryDisk
disk_named shelf name = held_at (at_name shelf.disks name)

-- the disk of this name was taken and isn't back
abbrev pub is_disk_out : MemoryShelf → List ℕ → Bool
is_disk_out shelf name = out_at (at_name shelf.disks name)

-- the count of faults of the disk of a name
abbrev pub disk_faults_of : MemoryShelf → List ℕ → ℕ
disk_faults_of shelf name = faults_at (at_name shelf.disks name)
