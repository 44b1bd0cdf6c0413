-- Steps of the proof: what functions of this crate promise one another. Nothing of the promise
-- stands here.
use Rattle.std.specs.Prelude.{◌≡◌, ℕ, ◌+◌, ◌^◌, ◌≤◌, false, List, bytes_eq, Option, None}
use Rattle.std.specs.Prelude.{Result, Err}
use Rattle.cqe_base.specs.Facts.{FactSet}
use Rattle.cqe_base.specs.Schema.{Text}
use Rattle.command_words.specs.Readings.{Reading, FileNames, names_of_files, runs_case, runs_init}
use Rattle.command_words.specs.Readings.{runs_batch, runs_audit, runs_selfrun, runs_serve}
use Rattle.command_words.specs.Readings.{runs_migrate, runs_dossier, runs_check}
use Rattle.command_words.specs.Readings.{runs_mirrored_batch, runs_mirrored_serve, runs_standby}
use Rattle.desk_crew.specs.Shelved.{Journals, journals_by}
use Rattle.log_journal.specs.Names.{journal_name}
use Rattle.outside.specs.declared.disk.Disk.{Ghosts as DiskGhosts}
use Rattle.outside.specs.declared.shelf.Shelf.{Ghosts as ShelfGhosts}
use Rattle.policy_files.specs.declared.error.PolicyError.{PolicyError}
use Rattle.policy_files.specs.declared.error.FactsError.{FactsError}
use Rattle.policy_files.specs.Policies.{PolicyValue}
use Rattle.cqe_top.specs.declared.end.FileKind.{FileKind}
use Rattle.cqe_top.specs.declared.end.FilesEnd.{FilesEnd}
use Rattle.cqe_top.specs.declared.end.FilesEnd.TheVariants.{Missing, ShelfFault, Policy}
use Rattle.cqe_top.specs.declared.end.FilesEnd.TheVariants.{Facts, Memory}
use Rattle.cqe_top.specs.declared.over_files.Task.{Task}
use Rattle.cqe_top.specs.declared.mirrored.MirroredTask.{MirroredTask}
use Rattle.cqe_top.specs.declared.mirrored.MirroredTask.TheVariants as copied
use Rattle.cqe_top.specs.declared.over_files.Task.TheVariants.{Init, Batch, Migrate, Serve}
use Rattle.cqe_top.specs.declared.over_files.Task.TheVariants.{Standby}
use Rattle.cqe_top.specs.declared.for_user.UserTask.{UserTask}
use Rattle.cqe_top.specs.declared.for_user.UserTask.TheVariants.{Audit, Dossier, Check}
use Rattle.cqe_top.specs.declared.part.Part.{Part}
use Rattle.cqe_top.specs.declared.part.Part.TheVariants.{Case, Selfrun, OverFiles, ForUser}
use Rattle.cqe_top.specs.declared.part.Part.TheVariants.{Mirrored}

-- ---- why one file wasn't read

-- a file, of this kind and with this name, is not there; or the shelf failed at it
abbrev pub RefusesFile : FileKind → Text → Option (List ℕ) → FilesEnd → Type 0
RefusesFile file_kind name file (Missing missing) = (file ≡ None) × (missing.now ≡ name)
RefusesFile file_kind name file (ShelfFault failed) = failed ≡ file_kind
RefusesFile file_kind name file Memory = Unit {0}
RefusesFile file_kind name file end = ⊥

-- why bytes weren't read as a policy
abbrev pub RefusesPolicy : Result PolicyValue PolicyError → FilesEnd → Type 0
RefusesPolicy read (Policy why) = read ≡ Err why
RefusesPolicy read Memory = Unit {0}
RefusesPolicy read end = ⊥

-- why bytes weren't read as facts
abbrev pub RefusesFacts : Result FactSet FactsError → FilesEnd → Type 0
RefusesFacts read (Facts why) = read ≡ Err why
RefusesFacts read Memory = Unit {0}
RefusesFacts read end = ⊥

-- the shelf failed
abbrev pub IsShelfFault : FilesEnd → Type 0
IsShelfFault (ShelfFault kind) = Unit {0}
IsShelfFault end = ⊥

-- ---- what is done over files, as the words say it

-- the reading that a task over these files stands for
abbrev pub reading_over : FileNames → Task → Reading
reading_over files Init = runs_init files
reading_over files (Batch workers) = runs_batch files workers
reading_over files (Migrate to) = runs_migrate files to.now
reading_over files (Serve listening) =
    runs_serve files listening.address.now listening.workers listening.sessions
reading_over files (Standby copying) = runs_standby files copying.address.now copying.sessions

-- the reading that a task for the user of this name stands for
abbrev pub reading_for_user : FileNames → Text → UserTask → Reading
reading_for_user files user (Audit json) = runs_audit files user json
reading_for_user files user Dossier = runs_dossier files user
reading_for_user files user Check = runs_check files.policy files.facts user

-- the reading that a task with a standby at an address stands for
abbrev pub reading_mirrored : FileNames → MirroredTask → Text → Reading
reading_mirrored files (copied.Batch workers) standby = runs_mirrored_batch files workers standby
reading_mirrored files (copied.Serve listening) standby =
    runs_mirrored_serve files listening.address.now listening.workers listening.sessions standby

-- the reading that a part of a command stands for
abbrev pub reading_of_part : Part → Reading
reading_of_part Case = runs_case
reading_of_part (Selfrun words) = runs_selfrun words.seed words.users words.asks
reading_of_part (OverFiles files task) = reading_over (names_of_files files) task
reading_of_part (ForUser files user task) =
    reading_for_user (names_of_files files) user.now task
reading_of_part (Mirrored files task standby) =
    reading_mirrored (names_of_files files) task standby.now

-- the limits of the workers of a batch
pub record WorkersBounds (workers : ℕ) : Type 0 where
  pub some_worker : 1 ≤ workers
  pub few_workers : workers ≤ 64

-- the limits of the workers and of their connections
pub record ServesBounds (workers sessions : ℕ) : Type 0 where
  pub some_worker : 1 ≤ workers
  pub few_workers : workers ≤ 64
  pub some_session : 1 ≤ sessions
  pub few_sessions : sessions ≤ 2 ^ 30

-- the numbers of a batch and of a server are within them, and journals are moved to another
-- directory than that of these files
abbrev pub KeepsBounds : FileNames → Task → Type 0
KeepsBounds files Init = Unit {0}
KeepsBounds files (Batch workers) = WorkersBounds workers
KeepsBounds files (Migrate to) = bytes_eq files.directory to.now ≡ false
KeepsBounds files (Serve listening) = ServesBounds listening.workers listening.sessions
KeepsBounds files (Standby copying) = copying.sessions ≤ 2 ^ 30

-- the numbers of a batch and of a server with a standby are within their bounds
abbrev pub KeepsMirroredBounds : MirroredTask → Type 0
KeepsMirroredBounds (copied.Batch workers) = WorkersBounds workers
KeepsMirroredBounds (copied.Serve listening) = ServesBounds listening.workers listening.sessions

-- ---- journals that a standby copies

-- the counts of faults under names, with those of the dials of these names
abbrev pub mirrored_counts : (Text → ℕ) → (Text → ℕ) → Text → ℕ
mirrored_counts count failed name = count name + failed name

-- the journals of users in a directory, where so many exchanges with a standby failed for each
-- disk, and the marks with lower numbers than this may be told
abbrev pub mirrored_journals : {F D : Type 0} → ShelfGhosts F D → DiskGhosts D → Text → F → F
    → (Text → ℕ) → (Text → ℕ) → Journals
mirrored_journals Shelf Disk directory old new failed marks =
    record (journals_by Disk.reads Disk.image Disk.moment Disk.image_since Disk.tellable directory
    (Shelf.disk old) (Shelf.disk new) (Shelf.disk_faults old)
    (mirrored_counts (Shelf.disk_faults new) failed)) {
      told = λ name. marks (journal_name directory name);
    }
