-- What the program promises of a call. Memory may be wanting at any time; nothing here says when.
use Rattle.std.specs.Prelude.{◌≡◌, ℕ, List, Option, Some, None}
use Rattle.outside.specs.Shelf.{SameNames, NoneOut, NoneFell}
use Rattle.outside.specs.Streams.{AppendsUnless}
use Rattle.cqe_base.specs.Schema.{Text}
use Rattle.command_words.specs.Readings.{Reading, reading_of, runs_case, runs_init, runs_batch}
use Rattle.command_words.specs.Readings.{runs_audit, runs_selfrun, runs_serve, runs_migrate}
use Rattle.command_words.specs.Readings.{runs_dossier, runs_check, runs_mirrored_batch}
use Rattle.command_words.specs.Readings.{runs_mirrored_serve, runs_standby}
use Rattle.line_protocol.specs.Rests.{IsRest}
use Rattle.cqe_top.specs.declared.end.CommandEnd.{CommandEnd}
use Rattle.cqe_top.specs.declared.end.CommandEnd.TheVariants as command_end
use Rattle.cqe_top.specs.Audit.{OfAudit}
use Rattle.cqe_top.specs.Batch.{OfBatch}
use Rattle.cqe_top.specs.Case.{OfCase}
use Rattle.cqe_top.specs.Check.{OfCheck}
use Rattle.cqe_top.specs.Complaints.{complaint_of}
use Rattle.cqe_top.specs.Mirrored.{OfMirroredBatch, OfMirroredServe, with_exchange_faults}
use Rattle.cqe_top.specs.Dossier.{OfDossier}
use Rattle.cqe_top.specs.Init.{OfInit}
use Rattle.cqe_top.specs.Migrate.{OfMigrate}
use Rattle.cqe_top.specs.Reports.{status_of, report_of, FaultsHaveCauses}
use Rattle.cqe_top.specs.Scene.{Scene, ShelfScene, Output, HasRisen, HasNotFallen, IsUntouched}
use Rattle.cqe_top.specs.Selfrun.{OfSelfrun}
use Rattle.cqe_top.specs.Serve.{OfServe}
use Rattle.cqe_top.specs.Standby.{OfStandby}

-- words without a reading: nothing is done, as where memory is wanting for them
abbrev pub OfUsage : Scene → CommandEnd → Type 0
OfUsage s command_end.Usage = IsUntouched s
OfUsage s command_end.Memory = IsUntouched s
OfUsage s end = ⊥

-- what an end says by the reading of the words
abbrev pub OfReading : Scene → Option Reading → CommandEnd → Type 0
OfReading s None end = OfUsage s end
OfReading s (Some runs_case) end = OfCase s end
OfReading s (Some (runs_init files)) end = OfInit s files end
OfReading s (Some (runs_batch files workers)) end = OfBatch s files end
OfReading s (Some (runs_audit files user json)) end = OfAudit s files user json end
OfReading s (Some (runs_selfrun seed users asks)) end = OfSelfrun s seed users asks end
OfReading s (Some (runs_serve files address workers limit)) end =
    OfServe s files address workers limit end
OfReading s (Some (runs_migrate files to)) end = OfMigrate s files to end
OfReading s (Some (runs_dossier files user)) end = OfDossier s files user end
OfReading s (Some (runs_check policy facts user)) end = OfCheck s policy facts user end
OfReading s (Some (runs_mirrored_batch files workers standby)) end =
    OfMirroredBatch s files standby end
OfReading s (Some (runs_mirrored_serve files address workers limit standby)) end =
    OfMirroredServe s files address workers limit standby end
OfReading s (Some (runs_standby files address limit)) end = OfStandby s files address limit end

-- of a shelf, whatever comes: its files are what they were, no disk is out, and no count of faults
-- fell, neither that of a disk nor its own
pub record KeepsShelf (shelf : ShelfScene) : Type 0 where
  pub files : SameNames shelf.file shelf.file'
  pub inside : NoneOut shelf.is_out'
  pub disk_faults : NoneFell shelf.disk_faults shelf.disk_faults'
  pub faults : HasNotFallen shelf.faults

-- Whatever comes: the shelf is kept so, the input holds what it held, and what is left in it is the
-- rest of what was left before; as many doors are out as before, and as many dials aren't hung up;
-- and no count of faults fell, neither of the input nor of the output nor of the links, nor the
-- links' second count of any name.
pub record Always (s : Scene) : Type 0 where
  pub shelf : KeepsShelf s.shelf
  pub held : s.input.held' ≡ s.input.held
  pub left : s.input.tells → IsRest s.input.left s.input.left'
  pub doors : s.links.out' ≡ s.links.out
  pub dials : s.links.dialling' ≡ s.links.dialling
  pub input_faults : HasNotFallen s.input.faults
  pub output_faults : HasNotFallen s.output.faults
  pub links_faults : HasNotFallen s.links.faults
  pub exchange_faults : NoneFell s.links.exchange_faults s.links.exchange_faults'

-- So it was done: with exchanges that failed counted as faults of the disks of their names, all
-- holds that the reading says of this end; a fault that is told has its cause, and what holds
-- whatever comes does.
pub record Does (s : Scene) (reading : Option Reading) (end : CommandEnd) : Type 0 where
  pub command : OfReading (with_exchange_faults s reading) reading end
  pub cause : FaultsHaveCauses (with_exchange_faults s reading) end
  pub always : Always (with_exchange_faults s reading)

-- There is an end, of which all holds that the reading of the words says; where they name a standby
-- exchanges with it that failed are counted as faults of the users' disks, each of that whose name
-- its dial has. The status is that of this end, and so is the complaint: it was written whole, or
-- where the count of the complaints rose a part of it. A fault that is told has its cause. What
-- holds whatever comes does, and the count of the complaints didn't fall either.
pub record Promise (words : List Text) (s : Scene) (complaints : Output) (status : ℕ)
    : Type 0 where
  pub end : CommandEnd
  pub of_status : status ≡ status_of (report_of end)
  pub complaint : complaints.tells → AppendsUnless (complaint_of (report_of end))
      complaints.written complaints.written' (HasRisen complaints.faults)
  pub does : Does s (reading_of words) end
  pub complaints_faults : HasNotFallen complaints.faults
