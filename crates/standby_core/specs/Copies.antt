-- The copy of a user's journal at a standby, and what becomes of it as records come.
use Rattle.std.specs.Prelude.{◌≡◌, ℕ, ◌+◌, ◌==◌, Bool, true, List, [], ◌∷◌, take, string_bytes}
use Rattle.std.specs.Prelude.{Option, Some, None, bytes_eq, if◌then◌else◌}
use Rattle.outside.specs.Shelf.{SameOthers}
use Rattle.log_journal.specs.Records.{Recorded}
use Rattle.log_journal.specs.Walk.{records}
use Rattle.log_journal.specs.Journal.{disk_of, is_broken}
use Rattle.replica.specs.Replica.{records_after}
use Rattle.standby_core.specs.Frames.{Carried}
use Rattle.standby_core.specs.Named.{first_named}
use Rattle.standby_core.specs.declared.book.Held.{Held}

-- the copy of a user's journal: his name, how many records it has, the records, where clauses are
-- told of them, and whether an append of it failed
pub record Copy : Type 0 where
  pub name : List ℕ
  pub count : ℕ
  pub records : List Recorded
  pub failed : Bool

-- the copy that a journal is: as many of the records that its disk reads as it counts; behind an
-- append that failed one more may stand there
abbrev pub copy_in : {D : Type 0} {g : _} → (D → List ℕ) → Held D g → Copy
copy_in reads held = record {
  name = string_bytes held.name;
  count = held.count;
  records = take held.count (records (reads (disk_of held.journal)));
  failed = is_broken held.journal;
}

-- the copy of a name
abbrev pub copy_at : List Copy → List ℕ → Option Copy
copy_at copies name = first_named (λ copy. copy.name) copies name

-- the copy after a record comes: where its number is the count, it joins the records
abbrev pub copy_after : Copy → Carried → Copy
copy_after copy one = record copy {
  count = if one.number == copy.count then copy.count + 1 else copy.count;
  records = records_after copy.records one.number (one.kind, one.text);
}

-- the copy after an append to it fails: it keeps its records
abbrev pub copy_failed : Copy → Copy
copy_failed copy = record copy { failed = true }

-- the copies after a record comes for one of them
abbrev pub copies_after : List Copy → Carried → List Copy
copies_after [] one = []
copies_after (copy ∷ copies) one =
    if bytes_eq copy.name one.name then copy_after copy one ∷ copies
    else copy ∷ copies_after copies one

-- so many records has the copy of a name
abbrev pub HasCount : List Copy → List ℕ → ℕ → Type 0
HasCount copies name count =
    (copy : Copy) × (copy_at copies name ≡ Some copy) × (copy.count ≡ count)

-- an append to the copy of a name failed
abbrev pub HasFailed : List Copy → List ℕ → Type 0
HasFailed copies name = (copy : Copy) × (copy_at copies name ≡ Some copy) × (copy.failed ≡ true)

-- an append to the copy of a name failed, and the copies of all other names are the same
abbrev pub FailsAlone : List Copy → List Copy → List ℕ → Type 0
FailsAlone copies copies' name =
    ((copy : Copy) × (copy_at copies name ≡ Some copy)
    × (copy_at copies' name ≡ Some (copy_failed copy)))
    × SameOthers name (copy_at copies) (copy_at copies')

-- the name of a journal's user
abbrev pub held_name : {D : Type 0} {g : _} → Held D g → List ℕ
held_name held = string_bytes held.name

-- where its disk comes from
abbrev pub held_origin : {D : Type 0} {g : _} → (D → List (List ℕ)) → Held D g → List (List ℕ)
held_origin origin held = origin (disk_of held.journal)

-- the count of faults of the disk of a name
abbrev pub faults_held : {D : Type 0} {g : _} → (D → ℕ) → Option (Held D g) → ℕ
faults_held faults None = 0
faults_held faults (Some held) = faults (disk_of held.journal)
