-- The header of a journal, and why its bytes are refused.
use Rattle.std.specs.Prelude.{◌≡◌, ◌≢◌, ◌⊎◌, ℕ, ◌<◌, ◌≤◌, true, List, [], ◌∷◌, ◌++◌, length}
use Rattle.std.specs.Prelude.{take, drop, Some}
use Rattle.std.specs.List.{list_all}
use Rattle.outside.specs.Disk.{Elapses}
use Rattle.outside.specs.Faults.{Rose}
use Rattle.log_journal.specs.Records.{Recorded, is_record, IsJournal}
use Rattle.log_journal.specs.Walk.{length_of, damaged}
use Rattle.log_journal.specs.Bytes.{EndsAt}
use Rattle.log_journal.specs.declared.header.Header.{Header}
use Rattle.log_journal.specs.declared.header.Record.{Record}
use Rattle.log_journal.specs.declared.header.OpenError.{OpenError}
use Rattle.log_journal.specs.declared.header.OpenError.TheVariants.{NotAJournal, OtherPolicy}
use Rattle.log_journal.specs.declared.header.OpenError.TheVariants.{Damaged, DiskFault, Memory}
use Rattle.log_journal.specs.declared.header.OpenError.TheVariants.{OldVersion}

-- the first eight bytes of a journal, `CQEJRNL2`
abbrev pub first_eight : List ℕ
first_eight = 67 ∷ 81 ∷ 69 ∷ 74 ∷ 82 ∷ 78 ∷ 76 ∷ 50 ∷ []

-- those of a journal of version 1, `CQEJRNL1`
abbrev pub old_eight : List ℕ
old_eight = 67 ∷ 81 ∷ 69 ∷ 74 ∷ 82 ∷ 78 ∷ 76 ∷ 49 ∷ []

-- eight bytes, then the digests of the policy and of the facts
abbrev pub headed : List ℕ → Header → List ℕ
headed first header = first ++ header.policy ++ header.facts

-- the header of a journal
abbrev pub header_bytes : Header → List ℕ
header_bytes header = headed first_eight header

-- the header of version 1 that has the digests of this one
abbrev pub old_header : List ℕ → List ℕ
old_header header = old_eight ++ drop 8 header

-- The bytes are a journal with this header, and its records are of so many kinds.
abbrev pub IsJournalOf : ℕ → List ℕ → List Recorded → List ℕ → Type 0
IsJournalOf kinds header all bytes =
    IsJournal header all bytes × (list_all (is_record kinds) all ≡ true)

-- The bytes are a journal of version 1 with the digests of this header: there were four kinds.
abbrev pub IsOldJournal : List ℕ → List Recorded → List ℕ → Type 0
IsOldJournal header all bytes = IsJournalOf 4 (old_header header) all bytes

-- the kind and the text of a record
abbrev pub recorded : Record → Recorded
recorded record' = (record'.kind, record'.text.items)

-- one of so many kinds, numbered from 1, and a text of at most 4,096 bytes
pub record IsRecord (kinds : ℕ) (record' : Record) : Type 0 where
  pub kind_from : 1 ≤ record'.kind
  pub kind_to : record'.kind ≤ kinds
  pub short : length record'.text.items ≤ 4096

-- Where a journal is to have this header and records of so many kinds, the bytes show this reason
-- to refuse them, and none that stands before it. A journal of version 1 is told apart from what is
-- none, whatever its digests are.
abbrev pub RefusesOf : ℕ → List ℕ → List ℕ → OpenError → Type 0
RefusesOf kinds header bytes NotAJournal =
    (length bytes < 73) ⊎ ((take 8 bytes ≢ take 8 header) × (take 8 bytes ≢ old_eight))
RefusesOf kinds header bytes OldVersion =
    (73 ≤ length bytes) × (take 8 bytes ≢ take 8 header) × (take 8 bytes ≡ old_eight)
RefusesOf kinds header bytes OtherPolicy =
    (73 ≤ length bytes) × (take 8 bytes ≡ take 8 header) × (take 72 bytes ≢ header)
RefusesOf kinds header bytes (Damaged number) =
    (73 ≤ length bytes) × (take 72 bytes ≡ header)
    × (damaged kinds 0 0 (drop 72 bytes) ≡ Some number)
RefusesOf kinds header bytes DiskFault = ⊥
RefusesOf kinds header bytes Memory = ⊥

-- so it is where a journal is to have this header of version 2
abbrev pub Refuses : List ℕ → List ℕ → OpenError → Type 0
Refuses header bytes why = RefusesOf 5 header bytes why

-- and where it is to be one of version 1 with the digests of this header
abbrev pub RefusesOld : List ℕ → List ℕ → OpenError → Type 0
RefusesOld header bytes why = RefusesOf 4 (old_header header) bytes why

-- Why an opening was refused: want of memory, a fault of the disk, whose count of faults rose, or
-- the bytes, where clauses are told of them. To who reads version 1 nothing is old.
abbrev pub IsRefusedOf : ℕ → Type 0 → List ℕ → List ℕ → ℕ → ℕ → OpenError → Type 0
IsRefusedOf kinds told header bytes before now Memory = Unit {0}
IsRefusedOf kinds told header bytes before now DiskFault = Rose before now
IsRefusedOf kinds told header bytes before now OldVersion =
    (take 8 header ≢ old_eight) × (told → RefusesOf kinds header bytes OldVersion)
IsRefusedOf kinds told header bytes before now why = told → RefusesOf kinds header bytes why

-- so it is of a journal of version 2
abbrev pub IsRefused : Type 0 → List ℕ → List ℕ → ℕ → ℕ → OpenError → Type 0
IsRefused told header bytes before now why = IsRefusedOf 5 told header bytes before now why

-- and of one of version 1
abbrev pub IsRefusedOld : Type 0 → List ℕ → List ℕ → ℕ → ℕ → OpenError → Type 0
IsRefusedOld told header bytes before now why =
    IsRefusedOf 4 told (old_header header) bytes before now why

-- it comes from the header, not from a record or from outside
abbrev pub IsOfHeader : OpenError → Type 0
IsOfHeader NotAJournal = Unit {0}
IsOfHeader OldVersion = Unit {0}
IsOfHeader OtherPolicy = Unit {0}
IsOfHeader why = ⊥

-- it comes from outside of the bytes: a fault of the disk, or want of memory
abbrev pub IsOutside : OpenError → Type 0
IsOutside DiskFault = Unit {0}
IsOutside Memory = Unit {0}
IsOutside why = ⊥

-- the bytes behind an open gate are a whole record of one of so many kinds, and then these bytes
-- from the next gate on
pub record StartsWithRecord (kinds : ℕ) (bytes : List ℕ) (kind : ℕ) (text rest : List ℕ) :
    Type 0 where
  pub high : ℕ
  pub low : ℕ
  pub split : bytes ≡ kind ∷ high ∷ low ∷ text ++ rest
  pub size : length text ≡ length_of high low
  pub low_byte : low < 256
  pub kind_from : 1 ≤ kind
  pub kind_to : kind ≤ kinds
  pub short : length text ≤ 4096
  pub gate : 0 < length rest

-- the first byte is an open gate, and behind it this whole record
pub record HasRecord (kinds : ℕ) (bytes : List ℕ) (record' : Record) : Type 0 where
  pub behind : List ℕ
  pub rest : List ℕ
  pub gate : bytes ≡ 1 ∷ behind
  pub starts : StartsWithRecord kinds behind record'.kind record'.text.items rest

-- Why no record was read at a gate: want of memory, a fault of the disk, or that the record of this
-- number isn't whole.
abbrev pub IsStopped : ℕ → Type 0 → List ℕ → ℕ → ℕ → ℕ → OpenError → Type 0
IsStopped kinds told bytes number before now Memory = Unit {0}
IsStopped kinds told bytes number before now DiskFault = Rose before now
IsStopped kinds told bytes number before now (Damaged other) =
    (other ≡ number) × (told → (n : ℕ) → damaged kinds n 0 bytes ≡ Some n)
IsStopped kinds told bytes number before now why = ⊥

-- A disk before and after calls that only read it.
pub record IsOnlyRead (old new : List ℕ) (image image' : List ℕ → Type 0) (before now : ℕ)
    (past since : ℕ → List ℕ → Type 0) (faults faults' : ℕ) : Type 0 where
  pub reads : new ≡ old
  pub images : (c : List ℕ) → image' c → image c
  pub moments : (c : List ℕ) → since before c → image c
  pub time : Elapses before now past since
  pub count : faults ≤ faults'

-- Why not all records were read: want of memory, a fault of the disk, or that the record of this
-- number isn't whole.
abbrev pub IsCutShort : ℕ → Type 0 → List ℕ → ℕ → ℕ → OpenError → Type 0
IsCutShort kinds told bytes before now Memory = Unit {0}
IsCutShort kinds told bytes before now DiskFault = Rose before now
IsCutShort kinds told bytes before now (Damaged number) =
    told → damaged kinds 0 0 (drop 72 bytes) ≡ Some number
IsCutShort kinds told bytes before now why = ⊥

-- these are its records, of so many kinds, and the closed gate stands at this place
pub record IsRead (kinds : ℕ) (bytes : List ℕ) (all : List Recorded) (gate : ℕ) : Type 0 where
  pub journal : IsJournalOf kinds (take 72 bytes) all bytes
  pub ends : EndsAt bytes gate
