-- The command `audit`: what the journal of one user holds, to the output.
-- Ends: Audit, Nobody, Files, Memory.
use Rattle.std.specs.Prelude.{◌≡◌, ℕ, Bool, List, Some}
use Rattle.outside.specs.Disk.{Only}
use Rattle.outside.specs.Shelf.{SameOthers, SameBytes, NoNewImages, NoNewMoments}
use Rattle.outside.specs.Shelf.{bytes_on, image_on}
use Rattle.audit_engine.specs.Ends.{EndsAudit, JudgesJournal, IsSilent}
use Rattle.audit_engine.specs.declared.end.AuditEnd.{AuditEnd}
use Rattle.audit_engine.specs.declared.end.AuditEnd.TheVariants as audit_end
use Rattle.cqe_base.specs.Facts.{FactSet}
use Rattle.cqe_base.specs.Schema.{Text}
use Rattle.command_words.specs.Readings.{FileNames}
use Rattle.log_journal.specs.Names.{journal_name}
use Rattle.policy_files.specs.Policies.{PolicyUser, PolicyValue}
use Rattle.cqe_top.specs.declared.end.CommandEnd.{CommandEnd}
use Rattle.cqe_top.specs.declared.end.CommandEnd.TheVariants as command_end
use Rattle.cqe_top.specs.Files.{SayOn, LooksAtBoth, IsUnread, journals_of}
use Rattle.cqe_top.specs.Reports.{IsDoneUnlessMemory}
use Rattle.cqe_top.specs.Scene.{Scene, ShelfScene, Output, HasRisen}
use Rattle.cqe_top.specs.Scene.{SameShelf, SameInput, SameOutput, SameLinks}
use Rattle.cqe_top.specs.Files.{FindsNobody, user_named}
use Rattle.cqe_top.specs.Ready.{CanBeAudited}

module _ (shelf : ShelfScene) (output : Output) (files : FileNames) (user : Text) (json : Bool)
  where
    -- The policy has a user of the name, and his audit ended so. What it says of his journal it
    -- says whatever the output tells.
    abbrev pub AuditsOverFiles : AuditEnd → PolicyValue → FactSet → List ℕ → Type 0
    AuditsOverFiles end policy world header =
        let journals = journals_of shelf files in
        (one : PolicyUser) × (user_named user policy.users ≡ Some one)
        × JudgesJournal policy.schema world header one.name one.profile (journals.bytes one.name)
        (journals.before one.name) (journals.now one.name) end
        × (output.tells
        → EndsAudit policy.schema world header one.name one.profile (journals.bytes one.name)
        (journals.before one.name) (journals.now one.name) json end output.written output.written')

    -- It ran over files that were read. It looks at his journal alone: the other disks are
    -- untouched, and all have the bytes that they had and may be left by a crash only as before, at
    -- no moment of the call otherwise either.
    -- Behind a fault of the shelf and where memory was wanting the output is as it was.
    pub record RunsAudit (name : Text) (end : AuditEnd) : Type 0 where
      pub name_is : name ≡ user
      pub over_files : shelf.tells → SayOn shelf files (AuditsOverFiles end)
      pub looks : shelf.tells → LooksAtBoth shelf files
      pub others : shelf.tells
          → SameOthers (journal_name files.directory user) shelf.disk shelf.disk'
      pub other_counts : SameOthers (journal_name files.directory user) shelf.disk_faults
          shelf.disk_faults'
      pub bytes : shelf.tells → SameBytes shelf.Disk.reads shelf.disk shelf.disk'
      pub images : shelf.tells → NoNewImages shelf.Disk.image shelf.disk shelf.disk'
      pub moments : shelf.tells
          → NoNewMoments shelf.Disk.moment shelf.Disk.image_since shelf.Disk.image shelf.disk
          shelf.disk'
      -- where it was done, a crash leaves just the bytes of which it was printed
      pub durable : shelf.tells → end ≡ audit_end.Done
          → Only (bytes_on shelf.Disk.reads (shelf.disk (journal_name files.directory user)))
          (image_on shelf.Disk.image (shelf.disk' (journal_name files.directory user)))
      pub silent : IsSilent end → SameOutput output

    -- the ends that it may have
    abbrev pub AuditEnds : CommandEnd → Type 0
    AuditEnds (command_end.Audit name engine_end) = RunsAudit name.now engine_end
    AuditEnds command_end.Nobody = FindsNobody shelf output files user
    AuditEnds (command_end.Files why) = IsUnread shelf files why × SameOutput output
    AuditEnds command_end.Memory = SameShelf shelf × SameOutput output
    AuditEnds end = ⊥

    -- where no fault comes (of the user's disk `CanBeAudited` says it), a user whose journal can be
    -- opened is audited unless memory is wanting
    abbrev pub AuditSucceeds : CommandEnd → Type 0
    AuditSucceeds end =
        shelf.tells → SayOn shelf files (CanBeAudited (journals_of shelf files) user)
        → (HasRisen shelf.faults → ⊥) → (HasRisen output.faults → ⊥) → IsDoneUnlessMemory end

-- `audit` of the user of this name, over the files of these names; it has no input
pub record OfAudit (s : Scene) (files : FileNames) (user : Text) (json : Bool) (end : CommandEnd)
    : Type 0 where
  pub ends : AuditEnds s.shelf s.output files user json end
  pub reads_nothing : SameInput s.input
  pub listens_nowhere : SameLinks s.links
  pub succeeds : AuditSucceeds s.shelf s.output files user json end
