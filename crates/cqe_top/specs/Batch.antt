-- The command `batch`: a script of many users, over their journals, from the input to the output.
-- Ends: Batch, Files, Memory.
use Rattle.std.specs.Prelude.{List, ℕ, IsOk, Vec}
use Rattle.std.specs.declared.alloc.Global.{Global}
use Rattle.batch_engine.specs.Batch as batch
use Rattle.batch_engine.specs.BatchLines.{batch_of}
use Rattle.batch_engine.specs.declared.run.BatchEnd.{BatchEnd}
use Rattle.cqe_base.specs.Facts.{FactSet}
use Rattle.cqe_base.specs.declared.user.User.{User}
use Rattle.command_words.specs.Readings.{FileNames}
use Rattle.policy_files.specs.Policies.{PolicyValue}
use Rattle.cqe_top.specs.declared.end.CommandEnd.{CommandEnd}
use Rattle.cqe_top.specs.declared.end.CommandEnd.TheVariants as command_end
use Rattle.cqe_top.specs.Files.{SayOn, LooksAtBoth, IsUnread, TouchesOnlyJournals, journals_of}
use Rattle.cqe_top.specs.Files.{AreUsersOf, new_users}
use Rattle.cqe_top.specs.Ready.{CanBeOpened}
use Rattle.cqe_top.specs.Reports.{IsDoneUnlessMemory}
use Rattle.cqe_top.specs.Scene.{Scene, ShelfScene, Input, Output, HasRisen}
use Rattle.cqe_top.specs.Scene.{SameDisks, SameShelf, SameInput, SameOutput, SameLinks}

module _ (shelf : ShelfScene) (input : Input) (output : Output) (files : FileNames) where
  -- the script was read and answered over the journals of these users of the policy, or not to its
  -- end
  pub record AnswersOverFiles (users : Vec User Global) (end : BatchEnd) (policy : PolicyValue)
      (world : FactSet) (header : List ℕ) : Type 0 where
    pub of_policy : AreUsersOf users policy
    pub touches : TouchesOnlyJournals shelf files policy
    -- what it leaves of the journals, whatever the script and the output tell
    pub journals : batch.LeavesJournals policy.schema world header (journals_of shelf files)
        (new_users policy) end
    pub answers : input.tells → output.tells
        → batch.EndsBatch policy.schema world header (journals_of shelf files) (new_users policy)
        end input.left input.left' output.written output.written'

  -- It ran over files that were read. Where the script is refused or can't be read, no journal was
  -- opened, and no disk is changed; there and behind a fault of the shelf the output is as it was.
  pub record RunsBatch (users : Vec User Global) (end : BatchEnd) : Type 0 where
    pub over_files : shelf.tells → SayOn shelf files (AnswersOverFiles users end)
    pub looks : shelf.tells → LooksAtBoth shelf files
    pub unopened : batch.IsUnopened end → SameDisks shelf
    pub silent : batch.IsSilent end → SameOutput output

  -- the ends that it may have
  abbrev pub BatchEnds : CommandEnd → Type 0
  BatchEnds (command_end.Batch users engine_end) = RunsBatch users engine_end
  BatchEnds (command_end.Files why) = IsUnread shelf files why × SameInput input × SameOutput output
  BatchEnds command_end.Memory = SameShelf shelf × SameInput input × SameOutput output
  BatchEnds end = ⊥

  -- where no fault comes (of the users' disks `CanBeOpened` says it), a script that is right is
  -- answered whole over journals that can be opened, unless memory is wanting
  abbrev pub BatchSucceeds : CommandEnd → Type 0
  BatchSucceeds end =
      shelf.tells → input.tells → output.tells → IsOk (batch_of input.left)
      → SayOn shelf files (CanBeOpened (journals_of shelf files))
      → (HasRisen shelf.faults → ⊥) → (HasRisen input.faults → ⊥) → (HasRisen output.faults → ⊥)
      → IsDoneUnlessMemory end

-- `batch` over the files of these names, with however many workers
pub record OfBatch (s : Scene) (files : FileNames) (end : CommandEnd) : Type 0 where
  pub ends : BatchEnds s.shelf s.input s.output files end
  pub listens_nowhere : SameLinks s.links
  pub succeeds : BatchSucceeds s.shelf s.input s.output files end
