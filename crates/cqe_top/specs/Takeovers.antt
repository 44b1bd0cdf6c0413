-- A takeover: a standby's journals, and the calls that go on with them.
use Rattle.std.specs.Prelude.{◌≡◌, ◌⊎◌, ℕ, List, Some}
use Rattle.outside.specs.declared.disk.Disk.{Ghosts as DiskGhosts}
use Rattle.outside.specs.declared.links.Links.{Ghosts as LinksGhosts}
use Rattle.outside.specs.declared.shelf.Shelf.{Ghosts as ShelfGhosts}
use Rattle.outside.specs.declared.stream.Sink.{Ghosts as SinkGhosts}
use Rattle.outside.specs.declared.stream.Source.{Ghosts as SourceGhosts}
use Rattle.cqe_base.specs.Facts.{FactSet}
use Rattle.cqe_base.specs.History.{History}
use Rattle.cqe_base.specs.Schema.{Text}
use Rattle.command_words.specs.Readings.{FileNames, reading_of, runs_standby}
use Rattle.desk_crew.specs.Shelved.{Journals}
use Rattle.log_journal.specs.Records.{Recorded, IsJournal}
use Rattle.policy_files.specs.Policies.{PolicyUser, PolicyValue}
use Rattle.standby_engine.specs.Standing.{HasBeginning}
use Rattle.user_desk.specs.Causes.{Opens}
use Rattle.cqe_top.specs.Around.{Around, scene_around, complaints_around}
use Rattle.cqe_top.specs.Calls.{FollowsOn, EachFollows, OpensOn, LeaveOneHistory, Promised}
use Rattle.cqe_top.specs.Calls.{journals_at}
use Rattle.cqe_top.specs.Files.{both, said_on, journals_of}
use Rattle.cqe_top.specs.Lives.{IsLeft}
use Rattle.cqe_top.specs.Promise.{Promise}
use Rattle.cqe_top.specs.Files.{user_named}

-- the first bytes are a journal with this header, and so are the others, with the records of the
-- first in front
abbrev pub HasInFront : List ℕ → List ℕ → List ℕ → Type 0
HasInFront header before bytes =
    (first : List Recorded) × IsJournal header first before × HasBeginning header first bytes

module _ {F D S K E L Door Dial In Out : Type 0} (Shelf : ShelfGhosts F D) (Disk : DiskGhosts D)
    (Source : SourceGhosts S) (Sink : SinkGhosts K) (Complaints : SinkGhosts E)
    (Links : LinksGhosts L Door Dial In Out) (files : FileNames) (policy : PolicyValue)
    (world : FactSet) (header : List ℕ) where
  -- A call of `standby` over these files, which say this policy, these facts and this header: its
  -- words and its status, its objects, and what `top` promised.
  pub record PromisedStandby : Type 0 where
    pub words : List Text
    pub status : ℕ
    pub objects : Around F S K E L
    pub address : Text
    pub limit : ℕ
    pub read : reading_of words ≡ Some (runs_standby files address limit)
    pub said : said_on (scene_around Shelf Disk Source Sink Complaints Links objects).shelf files
        ≡ both policy world header
    pub promise : Promise words (scene_around Shelf Disk Source Sink Complaints Links objects)
        (complaints_around Shelf Disk Source Sink Complaints Links objects) status

  -- its journals
  abbrev pub journals_of_standby : PromisedStandby → Journals
  journals_of_standby call =
      journals_of (scene_around Shelf Disk Source Sink Complaints Links call.objects).shelf files

  -- Whatever a crash leaves of a user's journal as a standby ends, or could at a moment of it, it
  -- could leave as the call began; or it has the records of the journal in front.
  abbrev pub StandbysKeep : Type 0
  StandbysKeep =
      (call : PromisedStandby) (user : PolicyUser) (left : List ℕ)
      → Shelf.tells → user_named user.name policy.users ≡ Some user
      → IsLeft (journals_of_standby call) user.name left
      → (journals_of_standby call).image_before user.name left
      ⊎ HasInFront header ((journals_of_standby call).bytes user.name) left

  -- A takeover of a standby's journals by any number of calls, of which the first follows on what a
  -- crash could leave of the standby, and each on the one before. All that the standby may begin
  -- with opens a desk of the user with a history that goes on from these entries, and all that it
  -- could leave opens one with some history, as it does where its records come from a primary with
  -- a legal one. Then the calls leave one history, which goes on from these entries.
  abbrev pub TakeoversJoin : Type 0
  TakeoversJoin =
      (standby : PromisedStandby)
      (first : Promised Shelf Disk Source Sink Complaints Links files policy world header)
      (later : List (Promised Shelf Disk Source Sink Complaints Links files policy world header))
      (user : PolicyUser) (opened : History) (left : List ℕ)
      → Shelf.tells → user_named user.name policy.users ≡ Some user
      → FollowsOn (OpensOn policy world header user opened) (journals_of_standby standby) user.name
      → ((bytes : List ℕ) → IsLeft (journals_of_standby standby) user.name bytes
      → (entries : History) × Opens policy.schema world user.profile header entries bytes)
      → FollowsOn (IsLeft (journals_of_standby standby) user.name)
      (journals_at Shelf Disk Source Sink Complaints Links files policy world header first)
      user.name
      → EachFollows
      (journals_at Shelf Disk Source Sink Complaints Links files policy world header) user.name
      (λ call. IsLeft (journals_at Shelf Disk Source Sink Complaints Links files policy world
      header call) user.name) first later left
      → LeaveOneHistory policy world header user
      (journals_at Shelf Disk Source Sink Complaints Links files policy world header) opened left
      first later
