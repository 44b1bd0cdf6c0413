-- The names of the disks on which journals lie.
use Rattle.std.specs.Prelude.{◌≡◌, ℕ, List, ◌++◌, codes, bytes_eq}

-- the name of the disk with the journal of a user, in a directory
abbrev pub journal_name : List ℕ → List ℕ → List ℕ
journal_name directory name = directory ++ (codes "/" ++ (name ++ codes ".log"))

-- In one directory the journals of two users have the same name exactly where the users have.
abbrev pub JournalsDiffer : Type 0
JournalsDiffer = (directory first second : List ℕ)
    → bytes_eq (journal_name directory first) (journal_name directory second)
    ≡ bytes_eq first second
