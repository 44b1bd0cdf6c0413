-- The command `standby`: copies of the journals of another program, over the connections that it
-- opens at an address, one after the other.
-- Ends: Standby, Files, Memory.
use Rattle.std.specs.Prelude.{◌≡◌, ◌⊎◌, ◌+◌, ◌≤◌, ℕ, List, Vec}
use Rattle.std.specs.declared.alloc.Global.{Global}
use Rattle.cqe_base.specs.Facts.{FactSet}
use Rattle.cqe_base.specs.Schema.{Text}
use Rattle.cqe_base.specs.declared.user.User.{User}
use Rattle.command_words.specs.Readings.{FileNames}
use Rattle.log_journal.specs.Opening.{header_bytes}
use Rattle.log_journal.specs.declared.header.Header.{Header}
use Rattle.policy_files.specs.Policies.{PolicyValue}
use Rattle.standby_engine.specs.Standing as standing
use Rattle.standby_engine.specs.declared.run.CopyEnd.{CopyEnd}
use Rattle.cqe_top.specs.declared.end.CommandEnd.{CommandEnd}
use Rattle.cqe_top.specs.declared.end.CommandEnd.TheVariants as command_end
use Rattle.cqe_top.specs.Files.{SayOn, LooksAtBoth, IsUnread, TouchesOnlyJournals, journals_of}
use Rattle.cqe_top.specs.Files.{AreUsersOf}
use Rattle.cqe_top.specs.Ready.{CanBeMirrored}
use Rattle.cqe_top.specs.Reports.{IsDoneUnlessMemory}
use Rattle.cqe_top.specs.Scene.{Scene, ShelfScene, LinksScene, HasRisen, CallsNobody}
use Rattle.cqe_top.specs.Scene.{SameDisks, SameShelf, SameInput, SameOutput, SameLinks}
use Rattle.cqe_top.specs.Scene.{ListensAt}

module _ (shelf : ShelfScene) (links : LinksScene) (files : FileNames) (address : Text)
    (limit : ℕ) where
  -- Each connection was served by the copies of these users' journals. A copy begins with the
  -- records of its journal. As the call ends a crash leaves the records that the copy came to, and
  -- of one whose append failed maybe one more. At each moment since its journal was opened a crash
  -- leaves the records that it began with, and some first ones of those that came.
  pub record CopiesOverFiles (users : Vec User Global) (end : CopyEnd) (policy : PolicyValue)
      (world : FactSet) (header : List ℕ) : Type 0 where
    pub of_policy : AreUsersOf users policy
    pub touches : TouchesOnlyJournals shelf files policy
    pub journals : standing.LeavesCopies header (journals_of shelf files) users.items end
    pub serves : links.tells → (own : Header) × (header_bytes own ≡ header)
        × standing.EndsCopying own (journals_of shelf files) users.items links.given links.given'
        links.back links.back' end

  -- it ran over files that were read: it listens at the address alone, with one door, and takes at
  -- most so many connections
  pub record RunsStandby (users : Vec User Global) (end : CopyEnd) : Type 0 where
    pub over_files : shelf.tells → SayOn shelf files (CopiesOverFiles users end)
    pub looks : shelf.tells → LooksAtBoth shelf files
    pub listens : links.tells → (links.listened' ≡ links.listened) ⊎ ListensAt links address 1
    -- where it didn't listen it touched no disk
    pub unheard : links.tells → links.listened' ≡ links.listened → SameDisks shelf
    pub heard : links.tells → standing.HasListened end → ListensAt links address 1
    pub ends : links.tells → standing.HasListened end
        → (links.at_hand' ≡ 0) ⊎ (links.given' ≡ links.given + limit)
    pub left : links.tells → links.left ≡ links.at_hand → links.left' ≡ links.at_hand'
    pub left_all : links.tells → links.left ≡ links.at_hand
        → links.given' + links.left' ≡ links.given + links.left
    pub few_ended : links.ended' ≤ links.ended + 1
    pub limited : links.tells → links.given' ≤ links.given + limit

  -- the ends that it may have
  abbrev pub StandbyEnds : CommandEnd → Type 0
  StandbyEnds (command_end.Standby users engine_end) = RunsStandby users engine_end
  StandbyEnds (command_end.Files why) = IsUnread shelf files why × SameLinks links
  StandbyEnds command_end.Memory = SameShelf shelf × SameLinks links
  StandbyEnds end = ⊥

  -- where no fault comes (of the users' disks `CanBeMirrored` says it), it goes to its end over
  -- journals that can be opened, unless memory is wanting
  abbrev pub StandbySucceeds : CommandEnd → Type 0
  StandbySucceeds end =
      shelf.tells → links.tells → SayOn shelf files (CanBeMirrored (journals_of shelf files))
      → (HasRisen shelf.faults → ⊥) → (HasRisen links.faults → ⊥) → IsDoneUnlessMemory end

-- `standby` over the files of these names, at this address, for so many connections at most; it
-- reads no input and writes no output: its primary comes through the links
pub record OfStandby (s : Scene) (files : FileNames) (address : Text) (limit : ℕ)
    (end : CommandEnd) : Type 0 where
  pub ends : StandbyEnds s.shelf s.links files address limit end
  pub reads_nothing : SameInput s.input
  pub writes_nothing : SameOutput s.output
  pub calls_nobody : CallsNobody s.links
  pub succeeds : StandbySucceeds s.shelf s.links files address limit end
