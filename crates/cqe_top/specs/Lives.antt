-- Calls over the same journals, of which each begins with what a crash left of the one before.
use Rattle.std.specs.Prelude.{◌≡◌, ◌⊎◌, ℕ, List, Option, Some, Vec}
use Rattle.std.specs.declared.alloc.Global.{Global}
use Rattle.std.specs.List.{AllByRecursion}
use Rattle.cqe_base.specs.Facts.{FactSet}
use Rattle.cqe_base.specs.Schema.{Text}
use Rattle.cqe_base.specs.declared.user.User.{User}
use Rattle.user_desk.specs.Joining.{Span, IsSpanOver}
use Rattle.desk_crew.specs.Shelved.{Journals, KeepsJournals}
use Rattle.batch_engine.specs.Batch.{EndsBatch}
use Rattle.batch_engine.specs.Joining.{BatchesJoin, CutBatchesJoin, LateBatchesJoin}
use Rattle.batch_engine.specs.declared.run.BatchEnd.{BatchEnd}
use Rattle.command_words.specs.Readings.{Reading, FileNames, reading_of, runs_batch, runs_audit}
use Rattle.command_words.specs.Readings.{runs_serve, runs_dossier, runs_mirrored_batch}
use Rattle.command_words.specs.Readings.{runs_mirrored_serve}
use Rattle.policy_files.specs.Policies.{PolicyUser, PolicyValue}
use Rattle.cqe_top.specs.declared.end.CommandEnd.TheVariants as command_end
use Rattle.cqe_top.specs.Files.{both, said_on, SayOn, journals_of, new_users}
use Rattle.cqe_top.specs.Promise.{Promise}
use Rattle.cqe_top.specs.Scene.{Scene, Output}

-- ---- two batches, with what they told

-- the shelf, the input and the output tell their content
abbrev pub TellsAll : Scene → Type 0
TellsAll s = s.shelf.tells × s.input.tells × s.output.tells

module _ (s : Scene) (files : FileNames) (policy : PolicyValue) (world : FactSet)
    (header : List ℕ) where
  -- what this end of a batch says of what was answered: all items, or the first of them
  abbrev pub IsEndOf : BatchEnd → Type 0
  IsEndOf end = EndsBatch policy.schema world header (journals_of s.shelf files) (new_users policy)
      end s.input.left s.input.left' s.output.written s.output.written'

-- Both batches came to these ends over journals of the policy's users. What was answered in both is
-- to a user one run, where the second call began with what a crash left of his journal as the first
-- ended, or at a moment of it: with all events up to the end of a stretch, where that had come.
pub record AreJoined (s s' : Scene) (files : FileNames) (end end' : BatchEnd) (policy : PolicyValue)
    (world : FactSet) (header : List ℕ) : Type 0 where
  pub one : IsEndOf s files policy world header end
  pub two : IsEndOf s' files policy world header end'
  pub joined : BatchesJoin policy.schema world header (new_users policy)
      (journals_of s.shelf files) (journals_of s'.shelf files)
  pub cut : CutBatchesJoin policy.schema world header (new_users policy)
      (journals_of s.shelf files) (journals_of s'.shelf files)
  pub late : LateBatchesJoin policy.schema world header (new_users policy)
      (journals_of s.shelf files) (journals_of s'.shelf files)

-- Whatever `top` promised of two calls of `batch` over the same files that came to any ends, they
-- are joined.
abbrev pub BatchCallsJoin : Scene → Output → Scene → Output → Type 0
BatchCallsJoin s complaints s' complaints' =
    (words words' : List Text) (status status' : ℕ) (files : FileNames) (workers workers' : ℕ)
    (users users' : Vec User Global) (end end' : BatchEnd)
    (one : Promise words s complaints status) (two : Promise words' s' complaints' status')
    → reading_of words ≡ Some (runs_batch files workers)
    → reading_of words' ≡ Some (runs_batch files workers')
    → one.end ≡ command_end.Batch users end → two.end ≡ command_end.Batch users' end'
    → TellsAll s → TellsAll s' → said_on s'.shelf files ≡ said_on s.shelf files
    → SayOn s.shelf files (AreJoined s s' files end end')

-- ---- calls of several kinds, with the histories that they leave

-- a crash may leave these bytes of the journal of a name: as the call ends, or at a moment of it
abbrev pub IsLeft : Journals → Text → List ℕ → Type 0
IsLeft journals name left = journals.image name left
    ⊎ ((begun : ℕ) × (journals.began name ≡ Some begun) × journals.since name begun left)

module _ (journals : Journals) (policy : PolicyValue) (world : FactSet) (header : List ℕ) where
  -- These bytes of a user's journal a crash could leave as the call began; or the call is a part of
  -- his history, and they are what that part leaves.
  abbrev pub LeavesPart : PolicyUser → List ℕ → Type 0
  LeavesPart user left = journals.image_before user.name left
      ⊎ ((span : Span) × (span.left ≡ left)
      × IsSpanOver policy.schema world user.profile header (journals.bytes user.name) span)

  -- all journals were kept; or this holds of whatever bytes a crash leaves of a user's journal
  abbrev pub LeavesParts : Type 0
  LeavesParts = KeepsJournals journals
      ⊎ AllByRecursion (λ user. (left : List ℕ) → IsLeft journals user.name left
      → LeavesPart user left) policy.users

-- a command that uses the journals of these files: a batch or a server, each with a standby or
-- without, an audit or a dossier
abbrev pub UsesJournals : FileNames → Option Reading → Type 0
UsesJournals files (Some (runs_batch its workers)) = its ≡ files
UsesJournals files (Some (runs_audit its user json)) = its ≡ files
UsesJournals files (Some (runs_serve its address workers limit)) = its ≡ files
UsesJournals files (Some (runs_dossier its user)) = its ≡ files
UsesJournals files (Some (runs_mirrored_batch its workers standby)) = its ≡ files
UsesJournals files (Some (runs_mirrored_serve its address workers limit standby)) = its ≡ files
UsesJournals files reading = ⊥

-- Whatever `top` promised of a call that uses the journals of files that can be read, it is to each
-- user a part of his history, or leaves nothing new.
abbrev pub CallsAreParts : Scene → Output → Type 0
CallsAreParts s complaints =
    (words : List Text) (status : ℕ) (files : FileNames) (policy : PolicyValue) (world : FactSet)
    (header : List ℕ)
    → Promise words s complaints status → UsesJournals files (reading_of words) → s.shelf.tells
    → said_on s.shelf files ≡ both policy world header
    → LeavesParts (journals_of s.shelf files) policy world header
