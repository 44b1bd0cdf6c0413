-- What a standby has of each user.
use Rattle.std.specs.Prelude.{ℕ, List, map}
use Rattle.standby_core.specs.Copies.{Copy, copy_in, held_name, faults_held}
use Rattle.standby_core.specs.Named.{first_named}
use Rattle.standby_core.specs.declared.book.Held.{Held}
use Rattle.standby_core.specs.declared.book.StandbyBook.{StandbyBook}

-- the journals of a book
abbrev pub held_in : {D : Type 0} {g : _} → StandbyBook D g → List (Held D g)
held_in book = book.journals.items

-- the copies of a book
abbrev pub copies_in : {D : Type 0} {g : _} → (D → List ℕ) → StandbyBook D g → List Copy
copies_in reads book = map (copy_in reads) book.journals.items

-- the count of faults of the disk of a name
abbrev pub book_faults : {D : Type 0} {g : _} → (D → ℕ) → StandbyBook D g → List ℕ → ℕ
book_faults faults book name = faults_held faults (first_named held_name book.journals.items name)
