-- How a reader walks through the bytes of a journal, from gate to gate.
use Rattle.std.specs.Prelude.{◌≡◌, ◌↔◌, ℕ, zero, suc, ◌+◌, ◌*◌, ◌≤◌, Bool, ◌&&◌, List, [], ◌∷◌}
use Rattle.std.specs.Prelude.{length, take, drop, Option, Some, None, nat_le, nat_lt, ◌==◌}
use Rattle.std.specs.Prelude.{if◌then◌else◌, slice_get}
use Rattle.log_journal.specs.Records.{Recorded, IsJournal}

-- a length as two bytes, the higher first
abbrev pub length_of : ℕ → ℕ → ℕ
length_of high low = 256 * high + low

-- A gate is the byte before a record: of value 1 it opens one, of any other it ends them. These are
-- the records from a gate on, behind some bytes that are passed over.
abbrev pub opened : ℕ → List ℕ → List Recorded
opened (suc n) (byte ∷ rest) = opened n rest
opened zero (gate ∷ kind ∷ high ∷ low ∷ rest) =
    if gate == 1 then (kind, take (length_of high low) rest) ∷ opened (length_of high low) rest
    else []
opened skipped rest = []

-- the records that are found behind the header
abbrev pub records : List ℕ → List Recorded
records bytes = opened 0 (drop 72 bytes)

-- the record of this number, counted from 0, is this one
abbrev pub IsNumbered : List ℕ → ℕ → Recorded → Type 0
IsNumbered bytes number one = slice_get (records bytes) number ≡ Some one

-- each record that was heard is one of them, with its number
abbrev pub AreThere : (ℕ → Recorded → Type 0) → List ℕ → Type 0
AreThere heard bytes =
    (number : ℕ) (one : Recorded) → heard number one → IsNumbered bytes number one

-- one of so many kinds and a length of at most 4,096, whose lower byte is a byte, and the text lies
-- there with the next gate
abbrev pub is_whole : ℕ → ℕ → ℕ → ℕ → List ℕ → Bool
is_whole kinds kind high low rest =
    ((nat_le 1 kind && nat_le kind kinds) && nat_lt low 256)
    && (nat_le (length_of high low) 4096 && nat_lt (length_of high low) (length rest))

-- the number of the first opened record that isn't whole, where records are of so many kinds and
-- the next has this number
abbrev pub damaged : ℕ → ℕ → ℕ → List ℕ → Option ℕ
damaged kinds number (suc n) (byte ∷ rest) = damaged kinds number n rest
damaged kinds number zero (gate ∷ kind ∷ high ∷ low ∷ rest) =
    if gate == 1 then
    (if is_whole kinds kind high low rest then damaged kinds (number + 1) (length_of high low) rest
    else Some number)
    else None
damaged kinds number zero (gate ∷ rest) = if gate == 1 then Some number else None
damaged kinds number skipped rest = None

-- the walk finds this header, no damage, and these records of five kinds
pub record IsWalked (header : List ℕ) (all : List Recorded) (bytes : List ℕ) : Type 0 where
  pub long : 73 ≤ length bytes
  pub begins : take 72 bytes ≡ header
  pub whole : damaged 5 0 0 (drop 72 bytes) ≡ None
  pub are : records bytes ≡ all

-- bytes are a journal exactly where the walk finds its header, no damage, and its records
abbrev pub JournalsAreWalked : Type 0
JournalsAreWalked =
    (header : List ℕ) (all : List Recorded) (bytes : List ℕ)
    → IsJournal header all bytes ↔ IsWalked header all bytes
