-- The command `init`: an empty journal on the disk of each user of a policy, where that is empty.
-- Ends: Init, Files, Memory.
use Rattle.std.specs.Prelude.{◌<◌, List, ℕ, length, Vec}
use Rattle.std.specs.declared.alloc.Global.{Global}
use Rattle.cqe_base.specs.Facts.{FactSet}
use Rattle.cqe_base.specs.declared.user.User.{User}
use Rattle.command_words.specs.Readings.{FileNames}
use Rattle.init_engine.specs.Ends.{EndsInit}
use Rattle.init_engine.specs.declared.end.InitEnd.{InitEnd}
use Rattle.init_engine.specs.declared.end.InitEnd.TheVariants as init_end
use Rattle.policy_files.specs.Policies.{PolicyValue}
use Rattle.policy_files.specs.Users.{names_of}
use Rattle.cqe_top.specs.declared.end.CommandEnd.{CommandEnd}
use Rattle.cqe_top.specs.declared.end.CommandEnd.TheVariants as command_end
use Rattle.cqe_top.specs.Files.{SayOn, LooksAtBoth, IsUnread, AreUsersOf, journals_of}
use Rattle.cqe_top.specs.Files.{CountsOnlyJournals}
use Rattle.cqe_top.specs.Ready.{CanBeMade}
use Rattle.cqe_top.specs.Reports.{IsDoneUnlessMemory}
use Rattle.cqe_top.specs.Scene.{Scene, ShelfScene, HasRisen}
use Rattle.cqe_top.specs.Scene.{SameShelf, SameInput, SameOutput, SameLinks}
use Rattle.cqe_top.specs.Files.{change_on}

-- a user whose journal is refused is one of these
abbrev pub NamesOneOf : List User → InitEnd → Type 0
NamesOneOf users (init_end.Refused user why) = user < length users
NamesOneOf users end = Unit {0}

module _ (shelf : ShelfScene) (files : FileNames) where
  -- the journals of these users of the policy were made, or it stopped at the first whose journal
  -- can't be made; no count changed but those of their disks
  pub record Makes (users : Vec User Global) (end : InitEnd) (policy : PolicyValue)
      (world : FactSet) (header : List ℕ) : Type 0 where
    pub of_policy : AreUsersOf users policy
    pub makes : EndsInit shelf.tells shelf.Disk header files.directory
        (names_of policy.users) (change_on shelf) end
    pub counts : CountsOnlyJournals shelf files policy

  -- it ran over files that were read
  pub record RunsInit (users : Vec User Global) (end : InitEnd) : Type 0 where
    pub over_files : shelf.tells → SayOn shelf files (Makes users end)
    pub looks : shelf.tells → LooksAtBoth shelf files
    pub within : NamesOneOf users.items end

  -- the ends that it may have
  abbrev pub InitEnds : CommandEnd → Type 0
  InitEnds (command_end.Init users engine_end) = RunsInit users engine_end
  InitEnds (command_end.Files why) = IsUnread shelf files why
  InitEnds command_end.Memory = SameShelf shelf
  InitEnds end = ⊥

  -- where no fault comes (of the users' disks `CanBeMade` says it), the journals of all users are
  -- made if they can be, unless memory is wanting
  abbrev pub InitSucceeds : CommandEnd → Type 0
  InitSucceeds end =
      shelf.tells → SayOn shelf files (CanBeMade (journals_of shelf files))
      → (HasRisen shelf.faults → ⊥) → IsDoneUnlessMemory end

-- `init` over the files of these names; it has no input and no output
pub record OfInit (s : Scene) (files : FileNames) (end : CommandEnd) : Type 0 where
  pub ends : InitEnds s.shelf files end
  pub reads_nothing : SameInput s.input
  pub writes_nothing : SameOutput s.output
  pub listens_nowhere : SameLinks s.links
  pub succeeds : InitSucceeds s.shelf files end
