-- The command `migrate`: the old journals of a policy's users in one directory, moved to another.
-- Ends: Migrate, Files, Memory.
use Rattle.std.specs.Prelude.{◌<◌, ◌++◌, List, ℕ, length, map, Vec}
use Rattle.std.specs.declared.alloc.Global.{Global}
use Rattle.outside.specs.Shelf.{SameBeside}
use Rattle.cqe_base.specs.Facts.{FactSet}
use Rattle.cqe_base.specs.Schema.{Text}
use Rattle.cqe_base.specs.declared.user.User.{User}
use Rattle.command_words.specs.Readings.{FileNames}
use Rattle.log_journal.specs.Names.{journal_name}
use Rattle.migrate_engine.specs.Ends.{EndsMigrate}
use Rattle.migrate_engine.specs.declared.end.MigrateEnd.{MigrateEnd}
use Rattle.migrate_engine.specs.declared.end.MigrateEnd.TheVariants as migrate_end
use Rattle.policy_files.specs.Policies.{PolicyValue}
use Rattle.policy_files.specs.Users.{names_of}
use Rattle.cqe_top.specs.declared.end.CommandEnd.{CommandEnd}
use Rattle.cqe_top.specs.declared.end.CommandEnd.TheVariants as command_end
use Rattle.cqe_top.specs.Files.{SayOn, LooksAtBoth, IsUnread, AreUsersOf, journals_of}
use Rattle.cqe_top.specs.Ready.{CanBeMoved}
use Rattle.cqe_top.specs.Reports.{IsDoneUnlessMemory}
use Rattle.cqe_top.specs.Scene.{Scene, ShelfScene, HasRisen}
use Rattle.cqe_top.specs.Scene.{SameShelf, SameInput, SameOutput, SameLinks}
use Rattle.cqe_top.specs.Files.{change_on}

-- a user at whose disks it stopped, and who is named, is one of these
abbrev pub IsAtOneOf : List User → MigrateEnd → Type 0
IsAtOneOf users (migrate_end.Refused user why) = user < length users
IsAtOneOf users (migrate_end.NotEmpty user) = user < length users
IsAtOneOf users end = Unit {0}

module _ (shelf : ShelfScene) (files : FileNames) (to : Text) where
  -- no count of a disk's faults changed but those of the journals of these users in one of both
  -- directories
  abbrev pub CountsOnlyBoth : List Text → Type 0
  CountsOnlyBoth names =
      SameBeside (map (journal_name files.directory) names ++ map (journal_name to) names)
      shelf.disk_faults shelf.disk_faults'

  -- With `Done` each new journal of these users of the policy has the records of his old one, and
  -- nothing lies behind them. Else it stopped at the first who can't be served, whose new disk has
  -- other bytes than before only where it failed. At no moment since eight shut bytes were synced
  -- to a new disk did it open with fewer records. In each end an old journal has the bytes that it
  -- had, and no moment of the call left others.
  pub record MovesJournals (users : Vec User Global) (end : MigrateEnd) (policy : PolicyValue)
      (world : FactSet) (header : List ℕ) : Type 0 where
    pub of_policy : AreUsersOf users policy
    pub moves : EndsMigrate shelf.tells shelf.Disk header files.directory to
        (names_of policy.users) (change_on shelf) end
    pub counts : CountsOnlyBoth (names_of policy.users)

  -- it ran over files that were read
  pub record RunsMigrate (users : Vec User Global) (end : MigrateEnd) : Type 0 where
    pub over_files : shelf.tells → SayOn shelf files (MovesJournals users end)
    pub looks : shelf.tells → LooksAtBoth shelf files
    pub within : IsAtOneOf users.items end

  -- the ends that it may have
  abbrev pub MigrateEnds : CommandEnd → Type 0
  MigrateEnds (command_end.Migrate users engine_end) = RunsMigrate users engine_end
  MigrateEnds (command_end.Files why) = IsUnread shelf files why
  MigrateEnds command_end.Memory = SameShelf shelf
  MigrateEnds end = ⊥

  -- where no fault comes (of the users' disks `CanBeMoved` says it), all journals are moved if they
  -- can be, unless memory is wanting
  abbrev pub MigrateSucceeds : CommandEnd → Type 0
  MigrateSucceeds end =
      shelf.tells
      → SayOn shelf files (CanBeMoved (journals_of shelf files)
      (journals_of shelf (record files { directory = to })))
      → (HasRisen shelf.faults → ⊥) → IsDoneUnlessMemory end

-- `migrate` over the files of these names, to this directory; it has no input and no output
pub record OfMigrate (s : Scene) (files : FileNames) (to : Text) (end : CommandEnd)
    : Type 0 where
  pub ends : MigrateEnds s.shelf files to end
  pub reads_nothing : SameInput s.input
  pub writes_nothing : SameOutput s.output
  pub listens_nowhere : SameLinks s.links
  pub succeeds : MigrateSucceeds s.shelf files to end
