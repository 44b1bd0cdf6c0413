-- The records of a journal, and the bytes that it is.
use Rattle.std.specs.Prelude.{◌≡◌, ◌≢◌, ◌⊎◌, ℕ, ◌+◌, ◌/◌, ◌%◌, ◌≤◌, max, Bool, true, ◌&&◌}
use Rattle.std.specs.Prelude.{List, [], ◌∷◌, ◌++◌, length, nat_le}
use Rattle.std.specs.List.{list_all}

-- a record: its kind and its text
abbrev pub Recorded : Type 0
Recorded = ℕ × List ℕ

-- its bytes: its kind, the length of its text as two bytes, the higher first, and its text
abbrev pub record_bytes : ℕ → List ℕ → List ℕ
record_bytes kind text = kind ∷ length text / 256 ∷ length text % 256 ∷ text

-- its kind is one of so many, numbered from 1, and its text has at most 4,096 bytes
abbrev pub is_record : ℕ → Recorded → Bool
is_record kinds one = (nat_le 1 one.0 && nat_le one.0 kinds) && nat_le (length one.1) 4096

-- records one behind the other, each behind an open gate, a byte 1
abbrev pub written : List Recorded → List ℕ
written [] = []
written (one ∷ more) = 1 ∷ record_bytes one.0 one.1 ++ written more

-- The bytes are a journal with this header of 72 bytes and these records of five kinds: the header,
-- the records, the closed gate, which is any byte but 1, and any rest, which says nothing.
pub record IsJournal (header : List ℕ) (all : List Recorded) (bytes : List ℕ) : Type 0 where
  pub size : length header ≡ 72
  pub each : list_all (is_record 5) all ≡ true
  pub gate : ℕ
  pub rest : List ℕ
  pub closed : gate ≢ 1
  pub is : bytes ≡ header ++ written all ++ gate ∷ rest

-- how many bytes a journal of these records needs: header, records, and closed gate
abbrev pub needed_bytes : List Recorded → ℕ
needed_bytes all = 73 + length (written all)

-- Whatever journal the old bytes are, the new ones are it with this record more; and they are no
-- more than the old ones, or than such a journal needs.
abbrev pub Adds : List ℕ → Recorded → List ℕ → Type 0
Adds old added new = (header : List ℕ) (before : List Recorded) → IsJournal header before old
    → IsJournal header (before ++ added ∷ []) new
    × (length new ≤ max (length old) (needed_bytes (before ++ added ∷ [])))

-- Whatever journal the old bytes are, the new ones are it as it was, or with this record more.
abbrev pub KeepsOrAdds : List ℕ → Recorded → List ℕ → Type 0
KeepsOrAdds old added new =
    (header : List ℕ) (before : List Recorded) → IsJournal header before old
    → IsJournal header before new ⊎ IsJournal header (before ++ added ∷ []) new
