-- What reading a text leaves of its source.
use Rattle.std.specs.Prelude.{◌≡◌, ◌<◌, ◌≤◌, ℕ, List, length, drop}
use Rattle.dossier_engine.specs.declared.input.Input.{Input}
use Rattle.dossier_engine.specs.declared.input.Input.TheVariants.{Whole, TooLong, Fault, Memory}

-- what is left of a source from which bytes were taken to its end, or up to the first that is one
-- too many
abbrev pub IsRead : (left left' : List ℕ) → Type 0
IsRead left left' = left' ≡ drop 67108865 left

-- what came of reading a text, by what was left in the source before
abbrev pub ReadsInput : Input → (left left' : List ℕ) → Type 0
ReadsInput (Whole bytes) left left' = (bytes.items ≡ left) × IsRead left left'
ReadsInput TooLong left left' = (67108864 < length left) × IsRead left left'
ReadsInput Fault left left' = Unit {0}
ReadsInput Memory left left' = Unit {0}

-- a text that was read isn't too long
abbrev pub IsWithin : Input → Type 0
IsWithin (Whole bytes) = length bytes.items ≤ 67108864
IsWithin TooLong = Unit {0}
IsWithin Fault = Unit {0}
IsWithin Memory = Unit {0}
