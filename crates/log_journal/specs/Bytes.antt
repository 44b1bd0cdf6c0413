-- Where the closed gate of a journal stands, and what an append makes of the bytes round it.
use Rattle.std.specs.Prelude.{◌≡◌, ◌≢◌, ◌⊎◌, true, ℕ, ◌+◌, ◌<◌, ◌≤◌, ◌^◌, List, [], ◌∷◌, ◌++◌}
use Rattle.std.specs.Prelude.{length, take, drop, get_or}
use Rattle.std.specs.List.{list_all}
use Rattle.log_journal.specs.Records.{Recorded, record_bytes, is_record, written}
use Rattle.log_journal.specs.Walk.{records}

-- These bytes are these records of so many kinds, each behind its open gate.
pub record IsFront (kinds : ℕ) (front : List ℕ) (all : List Recorded) : Type 0 where
  pub is : front ≡ written all
  pub each : list_all (is_record kinds) all ≡ true

-- The closed gate behind the header and whole records is at this place.
pub record EndsAt (bytes : List ℕ) (gate : ℕ) : Type 0 where
  pub behind : 72 ≤ gate
  pub within : gate < length bytes
  pub front : IsFront 5 (drop 72 (take gate bytes)) (records bytes)
  pub closed : get_or bytes gate 1 ≢ 1
  pub fits : length bytes < 2 ^ 64

-- what an append writes behind the gate: the record, and the next gate, which is closed
abbrev pub piece_of : ℕ → List ℕ → List ℕ
piece_of kind text = record_bytes kind text ++ 0 ∷ []

-- the bytes with this byte at the gate and a piece behind it
abbrev pub with_piece : List ℕ → ℕ → ℕ → List ℕ → List ℕ
with_piece bytes gate byte piece =
    take gate bytes ++ byte ∷ piece ++ drop (gate + 1 + length piece) bytes

-- All stays up to the gate, it among them, or the piece stands whole behind a gate of any value.
abbrev pub IsBetween : List ℕ → ℕ → List ℕ → List ℕ → Type 0
IsBetween bytes gate piece c = (take (gate + 1) c ≡ take (gate + 1) bytes)
    ⊎ ((byte : ℕ) × (rest : List ℕ) × (c ≡ take gate bytes ++ byte ∷ piece ++ rest))
