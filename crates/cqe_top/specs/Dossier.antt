-- The command `dossier`: the history of one user with what shows each reply, to the output.
-- Ends: Dossier, Nobody, Files, Memory.
use Rattle.std.specs.Prelude.{◌≡◌, ◌≤◌, ℕ, List, length, Some, Ok}
use Rattle.outside.specs.Disk.{Only}
use Rattle.outside.specs.Shelf.{SameOthers, SameBytes, NoNewImages, NoNewMoments}
use Rattle.outside.specs.Shelf.{bytes_on, image_on}
use Rattle.cqe_base.specs.Facts.{FactSet}
use Rattle.cqe_base.specs.Schema.{Text}
use Rattle.command_words.specs.Readings.{FileNames}
use Rattle.dossier_engine.specs.Checks.{checked_bytes}
use Rattle.dossier_engine.specs.Ends.{EndsDossier, JudgesDossier, IsDossierOf, IsSilent}
use Rattle.dossier_engine.specs.declared.end.DossierEnd.{DossierEnd}
use Rattle.dossier_engine.specs.declared.end.DossierEnd.TheVariants as dossier_end
use Rattle.log_journal.specs.Names.{journal_name}
use Rattle.policy_files.specs.Policies.{PolicyUser, PolicyValue}
use Rattle.user_desk.specs.declared.standing.Standing.TheVariants.{Open}
use Rattle.cqe_top.specs.declared.end.CommandEnd.{CommandEnd}
use Rattle.cqe_top.specs.declared.end.CommandEnd.TheVariants as command_end
use Rattle.cqe_top.specs.Files.{SayOn, LooksAtBoth, IsUnread, journals_of}
use Rattle.cqe_top.specs.Reports.{IsDoneUnlessMemory}
use Rattle.cqe_top.specs.Scene.{Scene, ShelfScene, Output, HasRisen}
use Rattle.cqe_top.specs.Scene.{SameShelf, SameInput, SameOutput, SameLinks}
use Rattle.cqe_top.specs.Files.{FindsNobody, user_named}
use Rattle.cqe_top.specs.Ready.{CanBeAudited}

module _ (shelf : ShelfScene) (files : FileNames) where
  -- Each text that is the dossier of this user as one who is served is accepted, where it isn't too
  -- long: it shows the entries that the bytes of his journal stand for.
  abbrev pub ServedIsAccepted : PolicyValue → FactSet → List ℕ → PolicyUser → Type 0
  ServedIsAccepted policy world header one =
      let journals = journals_of shelf files in
      (text : Text)
      → (is : IsDossierOf policy.schema world header one.name one.profile (journals.bytes one.name)
      (journals.before one.name) (journals.now one.name) Open text)
      → length text ≤ 67108864
      → checked_bytes policy.schema world one.name one.profile text ≡ Ok is.entries

module _ (shelf : ShelfScene) (output : Output) (files : FileNames) (user : Text) where
  -- The policy has a user of the name, and the writing of his dossier ended so. What it says of his
  -- journal it says whatever the output tells. Each text that is his dossier as one who is served
  -- is accepted, where it isn't too long.
  abbrev pub ShowsOverFiles : DossierEnd → PolicyValue → FactSet → List ℕ → Type 0
  ShowsOverFiles end policy world header =
      let journals = journals_of shelf files in
      (one : PolicyUser) × (user_named user policy.users ≡ Some one)
      × JudgesDossier policy.schema world header one.name one.profile (journals.bytes one.name)
      (journals.before one.name) (journals.now one.name) end
      × (output.tells
      → EndsDossier policy.schema world header one.name one.profile (journals.bytes one.name)
      (journals.before one.name) (journals.now one.name) end output.written output.written')
      × ServedIsAccepted shelf files policy world header one

  -- It ran over files that were read. It looks at his journal alone: the other disks are untouched,
  -- and all have the bytes that they had and may be left by a crash only as before, at no moment of
  -- the call otherwise either.
  -- Behind a fault of the shelf and where memory was wanting the output is as it was.
  pub record RunsDossier (name : Text) (end : DossierEnd) : Type 0 where
    pub name_is : name ≡ user
    pub over_files : shelf.tells → SayOn shelf files (ShowsOverFiles end)
    pub looks : shelf.tells → LooksAtBoth shelf files
    pub others : shelf.tells
        → SameOthers (journal_name files.directory user) shelf.disk shelf.disk'
    pub other_counts : SameOthers (journal_name files.directory user) shelf.disk_faults
        shelf.disk_faults'
    pub bytes : shelf.tells → SameBytes shelf.Disk.reads shelf.disk shelf.disk'
    pub images : shelf.tells → NoNewImages shelf.Disk.image shelf.disk shelf.disk'
    pub moments : shelf.tells
        → NoNewMoments shelf.Disk.moment shelf.Disk.image_since shelf.Disk.image shelf.disk
        shelf.disk'
    -- where it was done, a crash leaves just the bytes that the dossier shows
    pub durable : shelf.tells → end ≡ dossier_end.Done
        → Only (bytes_on shelf.Disk.reads (shelf.disk (journal_name files.directory user)))
        (image_on shelf.Disk.image (shelf.disk' (journal_name files.directory user)))
    pub silent : IsSilent end → SameOutput output

  -- the ends that it may have
  abbrev pub DossierEnds : CommandEnd → Type 0
  DossierEnds (command_end.Dossier name engine_end) = RunsDossier name.now engine_end
  DossierEnds command_end.Nobody = FindsNobody shelf output files user
  DossierEnds (command_end.Files why) = IsUnread shelf files why × SameOutput output
  DossierEnds command_end.Memory = SameShelf shelf × SameOutput output
  DossierEnds end = ⊥

  -- where no fault comes (of the user's disk `CanBeAudited` says it), the dossier of a user whose
  -- journal can be opened is written unless memory is wanting
  abbrev pub DossierSucceeds : CommandEnd → Type 0
  DossierSucceeds end =
      shelf.tells → SayOn shelf files (CanBeAudited (journals_of shelf files) user)
      → (HasRisen shelf.faults → ⊥) → (HasRisen output.faults → ⊥) → IsDoneUnlessMemory end

-- `dossier` of the user of this name, over the files of these names; it has no input
pub record OfDossier (s : Scene) (files : FileNames) (user : Text) (end : CommandEnd)
    : Type 0 where
  pub ends : DossierEnds s.shelf s.output files user end
  pub reads_nothing : SameInput s.input
  pub listens_nowhere : SameLinks s.links
  pub succeeds : DossierSucceeds s.shelf s.output files user end
