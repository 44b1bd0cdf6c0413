-- Any number of calls over the same journals, of which each follows on the one before.
use Rattle.std.specs.Prelude.{◌≡◌, ◌⊎◌, ℕ, true, false, List, [], ◌∷◌, ◌++◌, Option, Some}
use Rattle.std.specs.Prelude.{string_bytes}
use Rattle.std.specs.List.{list_any}
use Rattle.outside.specs.declared.disk.Disk.{Ghosts as DiskGhosts}
use Rattle.outside.specs.declared.links.Links.{Ghosts as LinksGhosts}
use Rattle.outside.specs.declared.shelf.Shelf.{Ghosts as ShelfGhosts}
use Rattle.outside.specs.declared.stream.Sink.{Ghosts as SinkGhosts}
use Rattle.outside.specs.declared.stream.Source.{Ghosts as SourceGhosts}
use Rattle.cqe_base.specs.Facts.{FactSet}
use Rattle.cqe_base.specs.History.{History}
use Rattle.cqe_base.specs.Run.{Event, opening, after_events}
use Rattle.cqe_base.specs.Schema.{Text}
use Rattle.cqe_base.specs.Transcript.{NamedUser, ScriptEvent, own_events}
use Rattle.cqe_base.specs.declared.user.User.{User}
use Rattle.user_desk.specs.Causes.{Opens}
use Rattle.user_desk.specs.Joining.{Call, bytes_behind, AreOneRun, StaysHidden}
use Rattle.user_desk.specs.Standings.{is_sealed}
use Rattle.user_desk.specs.declared.standing.DeskError.{DeskError}
use Rattle.desk_crew.specs.Shelved.{Journals, journals_on}
use Rattle.batch_engine.specs.Batch.{ServesUser, unopened}
use Rattle.batch_engine.specs.Joining.{cut_call_of}
use Rattle.batch_engine.specs.Lives.{is_opened, IsStretchEnd}
use Rattle.command_words.specs.Readings.{FileNames, reading_of}
use Rattle.policy_files.specs.Memory.{policy_user_of}
use Rattle.policy_files.specs.Policies.{PolicyUser, PolicyValue}
use Rattle.serve_engine.specs.Served.{Member}
use Rattle.serve_engine.specs.Serving.{HasServed}
use Rattle.cqe_top.specs.Mirrored.{with_exchange_faults}
use Rattle.cqe_top.specs.Files.{both, said_on, journals_of, new_user}
use Rattle.cqe_top.specs.Lives.{IsLeft, UsesJournals}
use Rattle.cqe_top.specs.Promise.{Promise}
use Rattle.cqe_top.specs.Scene.{Scene, shelf_of, input_of, output_of, links_of, scene_of}
use Rattle.cqe_top.specs.Files.{user_named}

-- ---- one call after another

-- A call may begin with these bytes of the journal of a name: they are what is read as it begins,
-- or a crash could leave them then.
abbrev pub BeginsWith : Journals → Text → List ℕ → Type 0
BeginsWith journals name bytes = (bytes ≡ journals.bytes name) ⊎ journals.image_before name bytes

-- A call follows on such bytes of the journal of a name: whatever it may begin with is such. Said
-- of what the call before could leave, it is about the time between the two, so no call promises
-- it: nobody else wrote the journal. Behind a crash of the machine a call begins with what that
-- left, and nothing else; where the program alone had ended, what isn't synced may still be lost.
abbrev pub FollowsOn : (List ℕ → Type 0) → Journals → Text → Type 0
FollowsOn is_such journals name = (bytes : List ℕ) → BeginsWith journals name bytes → is_such bytes

-- each of the later calls follows on what the one before it could leave, and the last could leave
-- these bytes
abbrev pub EachFollows : {C : Type 0} → (C → Journals) → Text → (C → List ℕ → Type 0) → C → List C
    → List ℕ → Type 0
EachFollows journals name leaves first [] left = leaves first left
EachFollows journals name leaves first (next ∷ later) left =
    FollowsOn (leaves first) (journals next) name
    × EachFollows journals name leaves next later left

-- a history has these entries, and maybe more behind them
abbrev pub GoesOn : History → History → Type 0
GoesOn first history = (more : History) × (history ≡ first ++ more)

module _ (policy : PolicyValue) (world : FactSet) (header : List ℕ) (user : PolicyUser) where
  -- the bytes open a desk of his with a history that goes on from these entries
  pub record OpensOn (first : History) (bytes : List ℕ) : Type 0 where
    pub entries : History
    pub goes_on : GoesOn first entries
    pub opens : Opens policy.schema world user.profile header entries bytes

  -- ---- what he was told

  -- a batch as he saw it: what its script means for the user who has his name and his profile
  pub record HisBatch (journals : Journals) : Type 0 where
    pub users : List NamedUser
    pub script : List ScriptEvent
    pub him : NamedUser
    pub is_he : unopened him ≡ new_user user
    pub serves : ServesUser policy.schema world header journals users script him

  -- When a crash could leave these bytes, a batch had come through at least these of his events,
  -- among which his journal was opened. Either the batch had ended, and these are all of his
  -- events; or they end where a stretch ended, and his journal had been closed there.
  pub data HasCome (journals : Journals) (batch : HisBatch journals) (least : List Event)
      (left : List ℕ) : Type 0 where
    to_its_end : list_any is_opened (own_events batch.him.name batch.script) ≡ true
        → journals.image batch.him.name left
        → least ≡ own_events batch.him.name batch.script → HasCome journals batch least left
    to_a_stretch : (rest : List Event)
        (split : own_events batch.him.name batch.script ≡ least ++ rest)
        (ends : IsStretchEnd rest) (held : list_any is_opened least ≡ true)
        → journals.since batch.him.name
        (batch.serves.closings least rest split ends held).closing left
        → HasCome journals batch least left

  -- When a crash could leave these bytes, he had been told of these entries: by a batch, of those
  -- that he has behind the events that it had come through; or by a server that had ended and
  -- hadn't refused his journal, of all of his.
  pub data IsTold (journals : Journals) (left : List ℕ) (entries : History) : Type 0 where
    by_batch : (batch : HisBatch journals) (least : List Event)
        → HasCome journals batch least left
        → entries ≡ (after_events policy.schema world batch.him.profile
        (opening policy.schema world batch.him.profile batch.him.opened) least).entries
        → IsTold journals left entries
    by_serving : (one : User) (member : Member) (refusal : Option DeskError)
        (served : HasServed policy.schema world header journals one member refusal)
        → policy_user_of one ≡ user → is_sealed served.standing ≡ false
        → journals.image (string_bytes one.name) left → entries ≡ member.history
        → IsTold journals left entries

  -- When a crash could leave these bytes, a batch had come through at least these of his events;
  -- at a moment at which his journal wasn't closed, none is known.
  abbrev pub ComesTo : (journals : Journals) → HisBatch journals → List Event → List ℕ → Type 0
  ComesTo journals batch least left =
      HasCome journals batch least left ⊎ ((least ≡ []) × IsLeft journals user.name left)

  -- To him a batch that came at least so far is this call. Either it has these of his events, and
  -- maybe more, with all that they told him; or it has none and told him nothing, where a crash
  -- could leave these bytes as the batch began.
  pub data IsCallOf (journals : Journals) (batch : HisBatch journals) (least : List Event)
      (call : Call) : Type 0 where
    with_events : (more further : List Event)
        → own_events batch.him.name batch.script ≡ (least ++ more) ++ further
        → call ≡ cut_call_of policy.schema world batch.him (least ++ more) call.left
        → IsCallOf journals batch least call
    unopened_yet : least ≡ [] → journals.image_before batch.him.name call.left
        → call.events ≡ [] → call.told ≡ [] → IsCallOf journals batch least call

  module _ {C : Type 0} (journals : C → Journals) where
    -- Of all that a call had told him by the time when the next began, or these bytes were left,
    -- the entries stand in this history.
    abbrev pub EachStands : History → List ℕ → C → List C → Type 0
    EachStands history left first [] =
        (told : History) → IsTold (journals first) left told → GoesOn told history
    EachStands history left first (next ∷ later) =
        ((told : History)
        → ((bytes : List ℕ) → BeginsWith (journals next) user.name bytes
        → IsTold (journals first) bytes told) → GoesOn told history)
        × EachStands history left next later

    -- What was left opens a desk with one history, that of all these calls: it goes on from the
    -- entries with which the first began, what each told him stands in it, and it is legal and
    -- hides.
    pub record LeaveOneHistory (opened : History) (left : List ℕ) (first : C) (later : List C)
        : Type 0 where
      pub on : OpensOn opened left
      pub stands : EachStands on.entries left first later
      pub hidden : StaysHidden policy.schema world user.profile on.entries

    module _ (batch : (one : C) → HisBatch (journals one)) (least : C → List Event) where
      -- there is a call to him for each of these batches
      abbrev pub AreCallsOf : C → List C → List Call → Type 0
      AreCallsOf first [] (call ∷ []) =
          IsCallOf (journals first) (batch first) (least first) call
      AreCallsOf first (next ∷ later) (call ∷ calls) =
          IsCallOf (journals first) (batch first) (least first) call
          × AreCallsOf next later calls
      AreCallsOf first later calls = ⊥

      -- these calls, from what the first batch began with to what was left, are one run
      pub record AreRunOf (opened : History) (left : List ℕ) (first : C) (later : List C)
          : Type 0 where
        pub begun : List ℕ
        pub began : BeginsWith (journals first) user.name begun
        pub calls : List Call
        pub are : AreCallsOf first later calls
        pub leaves : bytes_behind begun calls ≡ left
        pub run : AreOneRun policy.schema world user.profile header begun opened calls

-- ---- of which `top` promised

module _ {F D S K E L Door Dial In Out : Type 0} (Shelf : ShelfGhosts F D) (Disk : DiskGhosts D)
    (Source : SourceGhosts S) (Sink : SinkGhosts K) (Complaints : SinkGhosts E)
    (Links : LinksGhosts L Door Dial In Out) (files : FileNames) (policy : PolicyValue)
    (world : FactSet) (header : List ℕ) where
  -- A call of `batch` or `serve`, with a standby or without, of `audit` or of `dossier` over these
  -- files, which say this policy, these facts and this header: its words and its status, its
  -- objects before it and behind it, and what `top` promised.
  pub record Promised : Type 0 where
    pub words : List Text
    pub status : ℕ
    pub shelf : F
    pub shelf' : F
    pub source : S
    pub source' : S
    pub sink : K
    pub sink' : K
    pub complaints : E
    pub complaints' : E
    pub links : L
    pub links' : L
    pub uses : UsesJournals files (reading_of words)
    pub said : said_on (shelf_of Shelf Disk shelf shelf') files ≡ both policy world header
    pub promise : Promise words
        (scene_of (shelf_of Shelf Disk shelf shelf') (input_of Source source source')
        (output_of Sink sink sink') (links_of Links links links'))
        (output_of Complaints complaints complaints') status

  -- its objects
  abbrev pub scene_at : Promised → Scene
  scene_at call =
      scene_of (shelf_of Shelf Disk call.shelf call.shelf')
      (input_of Source call.source call.source') (output_of Sink call.sink call.sink')
      (links_of Links call.links call.links')

  -- its journals, where exchanges with a standby that failed are counted as `top` counts them
  abbrev pub journals_at : Promised → Journals
  journals_at call =
      journals_of (with_exchange_faults (scene_at call) (reading_of call.words)).shelf files

  -- Of any number of such calls, of which each follows on the one before: whatever a crash leaves
  -- of a user's journal as the last ends, or could at a moment of it, is one history of them all.
  -- All that the first may begin with opens a desk of his with a history that goes on from these
  -- entries.
  abbrev pub AnyCallsJoin : Type 0
  AnyCallsJoin =
      (first : Promised) (later : List Promised) (user : PolicyUser) (opened : History)
      (left : List ℕ)
      → Shelf.tells → user_named user.name policy.users ≡ Some user
      → FollowsOn (OpensOn policy world header user opened) (journals_at first) user.name
      → EachFollows journals_at user.name
      (λ (call : Promised). IsLeft (journals_at call) user.name) first later left
      → LeaveOneHistory policy world header user journals_at opened left first later

-- ---- batches, with what they told

module _ {F D : Type 0} (Shelf : ShelfGhosts F D) (Disk : DiskGhosts D) (directory : Text)
    (policy : PolicyValue) (world : FactSet) (header : List ℕ) (user : PolicyUser) where
  -- a batch that was answered, whole or in part, by its shelf before it and behind it, and at least
  -- how far it came
  pub record AnsweredBatch : Type 0 where
    pub shelf : F
    pub shelf' : F
    pub his : HisBatch policy world header user (journals_on Shelf Disk directory shelf shelf')
    pub least : List Event

  -- its journals
  abbrev pub journals_in_batch : AnsweredBatch → Journals
  journals_in_batch one = journals_on Shelf Disk directory one.shelf one.shelf'

  -- Of any number of batches, of which each follows on one that came at least so far, all that he
  -- was told is one run. All that the first may begin with opens a desk of his with this history.
  abbrev pub AnyBatchesJoin : Type 0
  AnyBatchesJoin =
      (first : AnsweredBatch) (later : List AnsweredBatch) (opened : History) (left : List ℕ)
      → FollowsOn (Opens policy.schema world user.profile header opened)
      (journals_in_batch first) user.name
      → EachFollows journals_in_batch user.name
      (λ (one : AnsweredBatch). ComesTo policy world header user (journals_in_batch one) one.his
      one.least) first later left
      → AreRunOf policy world header user journals_in_batch (λ (one : AnsweredBatch). one.his)
      (λ (one : AnsweredBatch). one.least) opened left first later
