-- What becomes of the disks of users whose journals are made.
use Rattle.std.specs.Prelude.{◌≡◌, ◌≢◌, ℕ, ◌<◌, List, [], ◌∷◌, ◌++◌, false, bytes_eq, map}
use Rattle.std.specs.Prelude.{string_bytes, slice_get, Option, Some}
use Rattle.outside.specs.Shelf.{bytes_on, NoNewSince}
use Rattle.outside.specs.Disk.{Only}
use Rattle.outside.specs.declared.disk.Disk.{Ghosts as DiskGhosts}
use Rattle.cqe_base.specs.declared.user.User.{User}
use Rattle.log_journal.specs.Records.{Recorded, IsJournal}
use Rattle.log_journal.specs.Names.{journal_name}

-- the names of users in memory, as bytes
abbrev pub user_names : List User → List (List ℕ)
user_names users = map (λ user. string_bytes user.name) users

module _ {D : Type 0} (Disk : DiskGhosts D) (header : List ℕ) where
  -- The disk is a journal with this header, in each image. One that was empty is an empty journal,
  -- and another has its bytes.
  pub record IsMade (before : List ℕ) (disk : D) : Type 0 where
    pub durable : Only (Disk.reads disk) (Disk.image disk)
    pub journal : (all : List Recorded) × IsJournal header all (Disk.reads disk)
    pub empty : before ≡ []
        → (Disk.reads disk ≡ header ++ 0 ∷ []) × IsJournal header [] (Disk.reads disk)
    pub kept : before ≢ [] → Disk.reads disk ≡ before

  -- The same of what stands under a name. Where it had bytes, no moment of the making left anything
  -- that a crash couldn't have left before.
  pub record IsMadeAt (before after : Option D) : Type 0 where
    pub disk : D
    pub stands : after ≡ Some disk
    pub made : IsMade (bytes_on Disk.reads before) disk
    pub rests : bytes_on Disk.reads before ≢ []
        → NoNewSince Disk.moment Disk.image_since Disk.image before after

  -- Of these users the first are ready, and no disk is touched but those of the first of them.
  pub record Readies (directory : List ℕ) (names : List (List ℕ)) (old new : List ℕ → Option D)
      (ready touched : ℕ) : Type 0 where
    pub are : (i : ℕ) (name : List ℕ) → i < ready → slice_get names i ≡ Some name
        → IsMadeAt (old (journal_name directory name)) (new (journal_name directory name))
    pub others : (other : List ℕ)
        → ((i : ℕ) (name : List ℕ) → i < touched → slice_get names i ≡ Some name
        → bytes_eq other (journal_name directory name) ≡ false) → new other ≡ old other
