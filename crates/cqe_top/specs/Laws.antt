-- What holds of any calls, by what `top` promises of each.
use Rattle.std.specs.Prelude.{ℕ, List}
use Rattle.outside.specs.declared.disk.Disk.{Ghosts as DiskGhosts}
use Rattle.outside.specs.declared.links.Links.{Ghosts as LinksGhosts}
use Rattle.outside.specs.declared.shelf.Shelf.{Ghosts as ShelfGhosts}
use Rattle.outside.specs.declared.stream.Sink.{Ghosts as SinkGhosts}
use Rattle.outside.specs.declared.stream.Source.{Ghosts as SourceGhosts}
use Rattle.cqe_base.specs.Facts.{FactSet}
use Rattle.cqe_base.specs.Schema.{Text}
use Rattle.command_words.specs.Readings.{FileNames}
use Rattle.policy_files.specs.Policies.{PolicyUser, PolicyValue}
use Rattle.cqe_top.specs.Around.{Around, scene_around, complaints_around}
use Rattle.cqe_top.specs.Calls.{AnyBatchesJoin, AnyCallsJoin}
use Rattle.cqe_top.specs.Dossiers.{WrittenIsFoundSound}
use Rattle.cqe_top.specs.Lives.{BatchCallsJoin, CallsAreParts}
use Rattle.cqe_top.specs.Takeovers.{StandbysKeep, TakeoversJoin}

module _ {F D S K E L Door Dial In Out : Type 0} (Shelf : ShelfGhosts F D) (Disk : DiskGhosts D)
    (Source : SourceGhosts S) (Sink : SinkGhosts K) (Complaints : SinkGhosts E)
    (Links : LinksGhosts L Door Dial In Out) where
  -- any two batches are joined
  abbrev pub TwoBatchesJoin : Type 0
  TwoBatchesJoin =
      (first second : Around F S K E L)
      → BatchCallsJoin (scene_around Shelf Disk Source Sink Complaints Links first)
      (complaints_around Shelf Disk Source Sink Complaints Links first)
      (scene_around Shelf Disk Source Sink Complaints Links second)
      (complaints_around Shelf Disk Source Sink Complaints Links second)

  -- each call that uses journals is to each user a part of his history
  abbrev pub EachCallIsPart : Type 0
  EachCallIsPart =
      (call : Around F S K E L)
      → CallsAreParts (scene_around Shelf Disk Source Sink Complaints Links call)
      (complaints_around Shelf Disk Source Sink Complaints Links call)

  -- a dossier that a call wrote is found sound by another
  abbrev pub DossiersAreFoundSound : Type 0
  DossiersAreFoundSound =
      (first second : Around F S K E L)
      → WrittenIsFoundSound (scene_around Shelf Disk Source Sink Complaints Links first)
      (complaints_around Shelf Disk Source Sink Complaints Links first)
      (scene_around Shelf Disk Source Sink Complaints Links second)
      (complaints_around Shelf Disk Source Sink Complaints Links second)

  -- What holds of calls of the program, of as many as each of these says, by what it promises of
  -- each of them: whatever files, policy, facts and header they have in common.
  pub record CallsHold : Type 0 where
    pub two_batches : TwoBatchesJoin
    pub parts : EachCallIsPart
    pub calls : (files : FileNames) (policy : PolicyValue) (world : FactSet) (header : List ℕ)
        → AnyCallsJoin Shelf Disk Source Sink Complaints Links files policy world header
    pub batches : (directory : Text) (policy : PolicyValue) (world : FactSet) (header : List ℕ)
        (user : PolicyUser) → AnyBatchesJoin Shelf Disk directory policy world header user
    pub standbys : (files : FileNames) (policy : PolicyValue) (world : FactSet)
        (header : List ℕ)
        → StandbysKeep Shelf Disk Source Sink Complaints Links files policy world header
    pub takeovers : (files : FileNames) (policy : PolicyValue) (world : FactSet)
        (header : List ℕ)
        → TakeoversJoin Shelf Disk Source Sink Complaints Links files policy world header
    pub dossiers : DossiersAreFoundSound
