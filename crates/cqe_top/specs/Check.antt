-- The command `check`: the dossier of one user, from the input, and whether it is sound, to the
-- output.
-- Ends: Check, Nobody, Files, Memory.
use Rattle.std.specs.Prelude.{◌≡◌, ℕ, List, [], Some, IsOk}
use Rattle.cqe_base.specs.Facts.{FactSet}
use Rattle.cqe_base.specs.Schema.{Text}
use Rattle.command_words.specs.Readings.{FileNames}
use Rattle.dossier_engine.specs.Checks.{EndsCheck, JudgesInput, IsSilentCheck, checked_bytes}
use Rattle.dossier_engine.specs.declared.end.CheckEnd.{CheckEnd}
use Rattle.policy_files.specs.Policies.{PolicyUser, PolicyValue}
use Rattle.cqe_top.specs.declared.end.CommandEnd.{CommandEnd}
use Rattle.cqe_top.specs.declared.end.CommandEnd.TheVariants as command_end
use Rattle.cqe_top.specs.Files.{SayOn, LooksAtBoth, IsUnread}
use Rattle.cqe_top.specs.Reports.{IsDoneUnlessMemory}
use Rattle.cqe_top.specs.Scene.{Scene, ShelfScene, Input, Output, HasRisen, SameDisks}
use Rattle.cqe_top.specs.Scene.{SameShelf, SameInput, SameOutput, SameLinks}
use Rattle.cqe_top.specs.Files.{FindsNobody, user_named}

-- a policy file and a facts file, without a directory of journals
abbrev pub two_files : Text → Text → FileNames
two_files policy facts = record { policy = policy; facts = facts; directory = [] }

-- the policy has a user of this name, and these bytes are a dossier of his that isn't refused
abbrev pub CanBeChecked : List ℕ → Text → PolicyValue → FactSet → List ℕ → Type 0
CanBeChecked bytes name policy world header =
    (user : PolicyUser) × (user_named name policy.users ≡ Some user)
    × IsOk (checked_bytes policy.schema world user.name user.profile bytes)

module _ (shelf : ShelfScene) (input : Input) (output : Output) (files : FileNames) (user : Text)
  where
    -- The policy has a user of the name, and the check of his dossier ended so. With `Done` he is
    -- admissible, and the history that the input shows is sound and hides soundly. What it says of
    -- the input it says whatever the output tells.
    abbrev pub ChecksOverFiles : CheckEnd → PolicyValue → FactSet → List ℕ → Type 0
    ChecksOverFiles end policy world header =
        (one : PolicyUser) × (user_named user policy.users ≡ Some one)
        × (input.tells
        → JudgesInput policy.schema world one.name one.profile end input.left input.left')
        × (input.tells → output.tells
        → EndsCheck policy.schema world one.name one.profile end input.left input.left'
        output.written output.written')

    -- It ran over files that were read, and no disk was touched. But where it is done, or a write
    -- failed, the output is as it was.
    pub record RunsCheck (end : CheckEnd) : Type 0 where
      pub over_files : shelf.tells → SayOn shelf files (ChecksOverFiles end)
      pub looks : shelf.tells → LooksAtBoth shelf files
      pub disks : SameDisks shelf
      pub silent : IsSilentCheck end → SameOutput output

    -- the ends that it may have
    abbrev pub CheckEnds : CommandEnd → Type 0
    CheckEnds (command_end.Check engine_end) = RunsCheck engine_end
    CheckEnds command_end.Nobody = FindsNobody shelf output files user × SameInput input
    CheckEnds (command_end.Files why) =
        IsUnread shelf files why × SameInput input × SameOutput output
    CheckEnds command_end.Memory = SameShelf shelf × SameInput input × SameOutput output
    CheckEnds end = ⊥

    -- where no fault comes, a dossier that isn't refused is accepted unless memory is wanting
    abbrev pub CheckSucceeds : CommandEnd → Type 0
    CheckSucceeds end =
        shelf.tells → input.tells
        → SayOn shelf files (CanBeChecked input.left user)
        → (HasRisen shelf.faults → ⊥) → (HasRisen input.faults → ⊥)
        → (HasRisen output.faults → ⊥) → IsDoneUnlessMemory end

-- `check` of a dossier of the user of this name, over the policy file and the facts file of these
-- names; it takes no journal
pub record OfCheck (s : Scene) (policy facts user : Text) (end : CommandEnd) : Type 0 where
  pub ends : CheckEnds s.shelf s.input s.output (two_files policy facts) user end
  pub listens_nowhere : SameLinks s.links
  pub succeeds : CheckSucceeds s.shelf s.input s.output (two_files policy facts) user end
