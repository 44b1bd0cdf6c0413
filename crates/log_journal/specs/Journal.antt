-- What a journal shows.
use Rattle.std.specs.Prelude.{ℕ, ◌+◌, ◌≤◌, Bool, length, Result, Ok, Err}
use Rattle.log_journal.specs.declared.journal.Journal.{Journal}
use Rattle.log_journal.specs.declared.header.Refused.{Refused}

-- its disk
abbrev pub disk_of : {D : Type 0} {g : _} → Journal D g → D
disk_of journal = journal.disk

-- an append of it failed at the disk
abbrev pub is_broken : {D : Type 0} {g : _} → Journal D g → Bool
is_broken journal = journal.broken

-- how many records it has
abbrev pub count_of : {D : Type 0} {g : _} → Journal D g → ℕ
count_of journal = journal.count

-- how many bytes of room it has
abbrev pub room_of : {D : Type 0} {g : _} → Journal D g → ℕ
room_of journal = length journal.room.items

-- it has room for the first write of an append of a text of this length
abbrev pub HasRoom : {D : Type 0} {g : _} → Journal D g → ℕ → Type 0
HasRoom journal size = size + 4 ≤ room_of journal

-- the disk after an opening, in the journal or handed back
abbrev pub disk_after : {D E R : Type 0} {g : _} → Result (Journal D g × R) (Refused D E) → D
disk_after (Ok opened) = opened.0.disk
disk_after (Err refused) = refused.disk
