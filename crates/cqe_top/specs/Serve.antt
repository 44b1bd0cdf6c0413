-- The command `serve`: connections at an address, side by side, over the journals of a policy's
-- users.
-- Ends: Serve, Files, Memory.
use Rattle.std.specs.Prelude.{◌≡◌, ◌⊎◌, ◌+◌, ◌<◌, ◌≤◌, ℕ, List, Vec}
use Rattle.std.specs.declared.alloc.Global.{Global}
use Rattle.cqe_base.specs.Facts.{FactSet}
use Rattle.cqe_base.specs.Schema.{Text}
use Rattle.cqe_base.specs.declared.user.User.{User}
use Rattle.command_words.specs.Readings.{FileNames}
use Rattle.policy_files.specs.Policies.{PolicyValue}
use Rattle.serve_engine.specs.Serving as serving
use Rattle.serve_engine.specs.Serving.{IsDone}
use Rattle.serve_engine.specs.declared.run.ServeEnd.{ServeEnd}
use Rattle.cqe_top.specs.declared.end.CommandEnd.{CommandEnd}
use Rattle.cqe_top.specs.declared.end.CommandEnd.TheVariants as command_end
use Rattle.cqe_top.specs.Files.{SayOn, LooksAtBoth, IsUnread, TouchesOnlyJournals, journals_of}
use Rattle.cqe_top.specs.Files.{AreUsersOf}
use Rattle.cqe_top.specs.Ready.{CanBeOpened}
use Rattle.cqe_top.specs.Reports.{IsDoneUnlessMemory}
use Rattle.cqe_top.specs.Scene.{Scene, ShelfScene, LinksScene, HasRisen, CallsNobody}
use Rattle.cqe_top.specs.Scene.{SameDisks, SameShelf, SameInput, SameOutput, SameLinks}
use Rattle.cqe_top.specs.Scene.{ListensAt}

-- The connections that were given in this call come up to the limit. With one more for each door
-- that answered in the call that no further one comes, they are at least the limit; with one more
-- for each worker, they are above it.
pub record IsLimitReached (links : LinksScene) (workers limit : ℕ) : Type 0 where
  pub with_ended : links.given + limit + links.ended ≤ links.given' + links.ended'
  pub with_workers : links.given + limit < links.given' + workers

-- no connection is at hand, or the limit is reached
abbrev pub IsServedOut : LinksScene → ℕ → ℕ → Type 0
IsServedOut links workers limit = (links.at_hand' ≡ 0) ⊎ IsLimitReached links workers limit

module _ (shelf : ShelfScene) (links : LinksScene) (files : FileNames) (address : Text)
    (workers limit : ℕ) where
  -- connections were served to these users of the policy, by the one history of each
  pub record ServesOverFiles (users : Vec User Global) (end : ServeEnd) (policy : PolicyValue)
      (world : FactSet) (header : List ℕ) : Type 0 where
    pub of_policy : AreUsersOf users policy
    pub touches : TouchesOnlyJournals shelf files policy
    -- what it leaves of the journals, whatever the links tell
    pub journals : serving.LeavesJournals policy.schema world header (journals_of shelf files)
        users.items end
    pub serves : links.tells
        → serving.EndsServing policy.schema world header (journals_of shelf files) users.items
        links.given links.given' links.back links.back' end

  -- it ran over files that were read: it listens at the address alone, with a door for each worker,
  -- and gives at most so many connections
  pub record RunsServe (users : Vec User Global) (end : ServeEnd) : Type 0 where
    pub over_files : shelf.tells → SayOn shelf files (ServesOverFiles users end)
    pub looks : shelf.tells → LooksAtBoth shelf files
    pub listens : links.tells
        → (links.listened' ≡ links.listened) ⊎ ListensAt links address workers
    -- where it didn't listen it touched no disk
    pub unheard : links.tells → links.listened' ≡ links.listened → SameDisks shelf
    pub heard : links.tells → IsDone end → ListensAt links address workers
    pub ends : links.tells → IsDone end → IsServedOut links workers limit
    -- The connections that are left are all at hand again, where they were so before, as they are
    -- where all doors are back. So where none is at hand none is left.
    pub left : links.tells → links.left ≡ links.at_hand → links.left' ≡ links.at_hand'
    -- and none is lost: what was given and what is left is as many as before
    pub left_all : links.tells → links.left ≡ links.at_hand
        → links.given' + links.left' ≡ links.given + links.left
    pub few_ended : links.ended' ≤ links.ended + workers
    pub limited : links.tells → links.given' ≤ links.given + limit

  -- the ends that it may have
  abbrev pub ServeEnds : CommandEnd → Type 0
  ServeEnds (command_end.Serve users engine_end) = RunsServe users engine_end
  ServeEnds (command_end.Files why) = IsUnread shelf files why × SameLinks links
  ServeEnds command_end.Memory = SameShelf shelf × SameLinks links
  ServeEnds end = ⊥

  -- where no fault comes (of the users' disks `CanBeOpened` says it), it serves to its end over
  -- journals that can be opened, unless memory is wanting
  abbrev pub ServeSucceeds : CommandEnd → Type 0
  ServeSucceeds end =
      shelf.tells → links.tells → SayOn shelf files (CanBeOpened (journals_of shelf files))
      → (HasRisen shelf.faults → ⊥) → (HasRisen links.faults → ⊥) → IsDoneUnlessMemory end

-- `serve` over the files of these names, at this address, with so many workers and for so many
-- connections at most; it reads no input and writes no output: its clients come through the links
pub record OfServe (s : Scene) (files : FileNames) (address : Text) (workers limit : ℕ)
    (end : CommandEnd) : Type 0 where
  pub ends : ServeEnds s.shelf s.links files address workers limit end
  pub reads_nothing : SameInput s.input
  pub writes_nothing : SameOutput s.output
  pub calls_nobody : CallsNobody s.links
  pub succeeds : ServeSucceeds s.shelf s.links files address workers limit end
