-- What the record of a memory disk's calls says of its bytes and of what a crash may leave.
use Rattle.std.specs.Prelude.{◌≡◌, ◌⊎◌, ℕ, ◌+◌, ◌≤◌, Bool, true, false, List, [], ◌∷◌, ◌++◌, length}
use Rattle.std.specs.Prelude.{take, drop, nat_le, if◌then◌else◌}
use Rattle.outside.specs.Disk.{Torn}
use Rattle.outside.specs.declared.memory_disk.Call.{Call}
use Rattle.outside.specs.declared.memory_disk.Operation.{Operation}
use Rattle.outside.specs.declared.memory_disk.Operation.TheVariants.{Write, Sync}

-- the bytes with a piece written over them, which begins at most at their end
abbrev pub overwritten : List ℕ → ℕ → List ℕ → List ℕ
overwritten bytes at piece =
    if nat_le at (length bytes) then take at bytes ++ piece ++ drop (at + length piece) bytes
    else bytes

-- the bytes after one call
abbrev pub bytes_after_operation : List ℕ → Operation → Bool → List ℕ
bytes_after_operation bytes (Write at piece) false = overwritten bytes at piece.items
bytes_after_operation bytes _ _ = bytes

-- the images after one call, from the bytes and the images before it
abbrev pub image_after_operation : List ℕ → (List ℕ → Type 0) → Operation → Bool → List ℕ → Type 0
image_after_operation bytes image (Write at piece) failed c =
    (d : List ℕ) × image d × Torn at (length piece.items) d c
image_after_operation bytes image Sync false c = c ≡ bytes
image_after_operation bytes image _ _ c = image c

-- the bytes after these calls
abbrev pub bytes_after : List ℕ → List Call → List ℕ
bytes_after bytes [] = bytes
bytes_after bytes (call ∷ calls) =
    bytes_after (bytes_after_operation bytes call.operation call.failed) calls

-- the images after these calls
abbrev pub image_after : List ℕ → (List ℕ → Type 0) → List Call → List ℕ → Type 0
image_after bytes image [] c = image c
image_after bytes image (call ∷ calls) c =
    image_after (bytes_after_operation bytes call.operation call.failed)
    (image_after_operation bytes image call.operation call.failed) calls c

-- what a crash may leave after these calls on a disk that had these bytes at first, all of them
-- synced
abbrev pub IsImage : List ℕ → List Call → List ℕ → Type 0
IsImage first calls c = image_after first (λ d. d ≡ first) calls c

-- an image after t or more of these calls
abbrev pub IsImageSince : List ℕ → List Call → ℕ → List ℕ → Type 0
IsImageSince first calls t c =
    (k : ℕ) × (t ≤ k) × (k ≤ length calls) × IsImage first (take k calls) c

-- a call that was refused is in the record, or isn't where there was no memory for it
abbrev pub IsRefusal : List Call → Operation → List Call → Type 0
IsRefusal old operation new =
    (new ≡ old) ⊎ (new ≡ old ++ record { operation = operation; failed = true } ∷ [])

-- a call that changes no bytes
abbrev pub IsReading : Operation → Type 0
IsReading (Write at piece) = ⊥
IsReading _ = Unit {0}
