-- The commands `batch` and `serve` with a standby, which copies their journals. What is promised of
-- them is what is promised without one, where exchanges with the standby that failed are counted
-- with the faults of the users' disks, each with those of the disk whose name its dial has. And
-- each exchange calls the standby, and gives it the frame of a record that lies in the journal of a
-- user of the policy; and each user has no more entries than the standby answered that it has of
-- his.
use Rattle.std.specs.Prelude.{◌≡◌, ◌⊎◌, ℕ, ◌+◌, ◌-◌, ◌++◌, Bool, true, false, List, Option, Some}
use Rattle.std.specs.List.{AllByRecursion, slice_get}
use Rattle.outside.specs.Dials.{Exchange}
use Rattle.cqe_base.specs.Facts.{FactSet}
use Rattle.cqe_base.specs.Schema.{Text}
use Rattle.command_words.specs.Readings.{FileNames, Reading}
use Rattle.command_words.specs.Readings.{runs_mirrored_batch, runs_mirrored_serve}
use Rattle.log_journal.specs.Names.{journal_name}
use Rattle.log_journal.specs.Opening.{header_bytes}
use Rattle.log_journal.specs.Walk.{IsNumbered}
use Rattle.log_journal.specs.declared.header.Header.{Header}
use Rattle.policy_files.specs.Policies.{PolicyUser, PolicyValue}
use Rattle.standby_core.specs.Calls.{IsExchangeOf, IsAnsweredIn}
use Rattle.standby_core.specs.Users.{frame_user}
use Rattle.cqe_top.specs.declared.end.CommandEnd.{CommandEnd}
use Rattle.cqe_top.specs.declared.end.CommandEnd.TheVariants as command_end
use Rattle.cqe_top.specs.Batch.{BatchEnds, BatchSucceeds}
use Rattle.cqe_top.specs.Files.{IsUnread, SayOn, journals_of}
use Rattle.cqe_top.specs.Scene.{Scene, LinksScene, SameInput, SameLinks, SameOutput, SameShelf}
use Rattle.cqe_top.specs.Serve.{RunsServe, ServeSucceeds}

-- ---- exchanges that failed

-- whether the words name a standby that copies journals
abbrev pub has_standby : Option Reading → Bool
has_standby (Some (runs_mirrored_batch files workers standby)) = true
has_standby (Some (runs_mirrored_serve files address workers limit standby)) = true
has_standby reading = false

-- how many exchanges failed in the call under a name
abbrev pub failed_exchanges : LinksScene → Text → ℕ
failed_exchanges links name = links.exchange_faults' name - links.exchange_faults name

-- the scene where so many faults of the disk of each name are counted beside its own
abbrev pub with_failed : Scene → (Text → ℕ) → Scene
with_failed s failed = record s {
  shelf = record s.shelf { disk_faults' = λ name. s.shelf.disk_faults' name + failed name };
}

-- the scene where exchanges that failed are so counted, or are not
abbrev pub counted_by : Scene → Bool → Scene
counted_by s false = s
counted_by s true = with_failed s (failed_exchanges s.links)

-- the scene of a call with this reading: they are counted where it has a standby
abbrev pub with_exchange_faults : Scene → Option Reading → Scene
with_exchange_faults s reading = counted_by s (has_standby reading)

-- ---- whom the dials call, and what they tell

-- An exchange with the standby at this address told it of some record of the user of this name,
-- with this header. His name stands in the frame if it has room for it.
abbrev pub IsExchangeWith : Text → List ℕ → Text → Exchange → Type 0
IsExchangeWith standby header name one = (own : Header) × (header_bytes own ≡ header)
    × IsExchangeOf standby own (frame_user name) one

-- of a record of a user of this policy, which lies in his journal, at its number, as the call ends
abbrev pub IsExchangeFor : Text → PolicyValue → List ℕ → (Text → List ℕ) → Exchange → Type 0
IsExchangeFor standby policy header reads one = (place : ℕ) × (user : PolicyUser)
    × (slice_get policy.users place ≡ Some user)
    × (is : IsExchangeWith standby header user.name one)
    × IsNumbered (reads user.name) one.above (is.2.kind, is.2.text)

-- All that was exchanged in the call are such exchanges. And of each user's journal, by its name,
-- the marks that may be told are those with lower numbers than the standby answered to one for him;
-- where it answered none, there are none.
pub record CallsAlone (links : LinksScene) (standby directory : Text) (told : Text → ℕ)
    (reads : Text → List ℕ) (policy : PolicyValue) (world : FactSet) (header : List ℕ)
    : Type 0 where
  pub exchanges : List Exchange
  pub further : links.exchanged' ≡ links.exchanged ++ exchanges
  pub each : AllByRecursion (IsExchangeFor standby policy header reads) exchanges
  pub answered : (place : ℕ) (user : PolicyUser) → slice_get policy.users place ≡ Some user
      → IsAnsweredIn (IsExchangeWith standby header user.name) exchanges
      (told (journal_name directory user.name))

-- where the command ran, the standby alone was called, by what the files say, and else nobody
abbrev pub CallsStandby : Scene → FileNames → Text → (Text → ℕ) → CommandEnd → Type 0
CallsStandby s files standby told (command_end.Batch users engine_end) =
    s.shelf.tells → s.links.tells
    → SayOn s.shelf files (CallsAlone s.links standby files.directory told
    (journals_of s.shelf files).reads)
CallsStandby s files standby told (command_end.Serve users engine_end) =
    s.shelf.tells → s.links.tells
    → SayOn s.shelf files (CallsAlone s.links standby files.directory told
    (journals_of s.shelf files).reads)
CallsStandby s files standby told end = s.links.tells → s.links.exchanged' ≡ s.links.exchanged

-- the scene where of the disk of each name the marks may be told that have lower numbers than this
abbrev pub with_told : Scene → (Text → ℕ) → Scene
with_told s told = record s { shelf = record s.shelf { told' = told } }

-- ---- the commands

-- of the links' doors and connections all is as it was: the dials alone may be others, with what
-- they exchanged and the second count
pub record KeepsDoors (links : LinksScene) : Type 0 where
  pub faults : links.faults.now ≡ links.faults.before
  pub out : links.out' ≡ links.out
  pub ended : links.ended' ≡ links.ended
  pub given : links.tells → links.given' ≡ links.given
  pub left : links.tells → links.left' ≡ links.left
  pub at_hand : links.tells → links.at_hand' ≡ links.at_hand
  pub back : links.tells → links.back' ≡ links.back
  pub listened : links.tells → links.listened' ≡ links.listened

-- `batch` with a standby at this address, as `OfBatch`: it listens nowhere, and opens connections
-- to the standby, or leaves the links alone. The marks that may be told are those that the standby
-- answered for.
pub record OfMirroredBatch (s : Scene) (files : FileNames) (standby : Text) (end : CommandEnd)
    : Type 0 where
  pub told : Text → ℕ
  pub ends : BatchEnds (with_told s told).shelf s.input s.output files end
  pub listens_nowhere : SameLinks s.links ⊎ KeepsDoors s.links
  pub calls : CallsStandby s files standby told end
  pub succeeds : BatchSucceeds s.shelf s.input s.output files end

-- the ends that `serve` with a standby may have
abbrev pub MirroredServeEnds : Scene → FileNames → Text → ℕ → ℕ → CommandEnd → Type 0
MirroredServeEnds s files address workers limit (command_end.Serve users engine_end) =
    RunsServe s.shelf s.links files address workers limit users engine_end
MirroredServeEnds s files address workers limit (command_end.Files why) =
    IsUnread s.shelf files why × KeepsDoors s.links
MirroredServeEnds s files address workers limit command_end.Memory =
    SameShelf s.shelf × SameLinks s.links
MirroredServeEnds s files address workers limit end = ⊥

-- `serve` with a standby at this address, as `OfServe`, with marks as of `batch`
pub record OfMirroredServe (s : Scene) (files : FileNames) (address : Text) (workers limit : ℕ)
    (standby : Text) (end : CommandEnd) : Type 0 where
  pub told : Text → ℕ
  pub ends : MirroredServeEnds (with_told s told) files address workers limit end
  pub reads_nothing : SameInput s.input
  pub writes_nothing : SameOutput s.output
  pub calls : CallsStandby s files standby told end
  pub succeeds : ServeSucceeds s.shelf s.links files address workers limit end
