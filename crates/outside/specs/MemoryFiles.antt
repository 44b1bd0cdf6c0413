-- Files in memory.
use Rattle.std.specs.Prelude.{ℕ, List, [], ◌∷◌, Option, Some, None, bytes_eq, if◌then◌else◌}
use Rattle.std.specs.Prelude.{string_bytes}
use Rattle.outside.specs.declared.memory_shelf.MemoryFile.{MemoryFile}

-- the bytes of the first of these files that has this name
abbrev pub file_among : List MemoryFile → List ℕ → Option (List ℕ)
file_among [] name = None
file_among (file ∷ files) name =
    if bytes_eq (string_bytes file.name) name then Some file.bytes.items else file_among files name
