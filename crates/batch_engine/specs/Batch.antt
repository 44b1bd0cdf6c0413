-- What a batch writes, and what its lines mean for each of its users.
use Rattle.std.specs.Prelude.{◌≡◌, ◌⊎◌, ◌≤◌, ◌&&◌, ℕ, Bool, true, false, List, [], ◌∷◌, ◌++◌}
use Rattle.std.specs.Prelude.{length, take, map, Option, Some, Ok, Err}
use Rattle.std.specs.List.{flat_map, list_any, AllByRecursion}
use Rattle.cqe_base.specs.Schema.{Text, DatabaseSchema}
use Rattle.cqe_base.specs.Facts.{FactSet}
use Rattle.cqe_base.specs.Censor.{IsLegal, admitted}
use Rattle.cqe_base.specs.Headline.{HidesInScript}
use Rattle.cqe_base.specs.Run.{Event, desk_broken, opening, replies, final_history}
use Rattle.cqe_base.specs.Transcript.{NamedUser, ScriptEvent, script_call}
use Rattle.cqe_base.specs.Transcript.{script_restart}
use Rattle.cqe_base.specs.Transcript.{script_opening, Line, reply_line, own_events, own_replies}
use Rattle.cqe_base.specs.Transcript.{state_after, transcript, line_text}
use Rattle.user_desk.specs.Causes.{Opens}
use Rattle.user_desk.specs.Entries.{IsNoLonger}
use Rattle.user_desk.specs.Lives.{Holds, HoldsFrom, HoldsAmid}
use Rattle.user_desk.specs.declared.standing.DeskError.{DeskError}
use Rattle.desk_crew.specs.Shelved.{Journals, KeepsJournal, KeepsJournals, StandsAllAlong}
use Rattle.desk_crew.specs.Shelved.{ClosedBehind}
use Rattle.script_lines.specs.Read.{IsReadThrough}
use Rattle.batch_engine.specs.BatchLines.{BatchItem, asked, restarted, batch_of}
use Rattle.desk_crew.specs.Openings.{OpensNone, OpensWith}
use Rattle.desk_crew.specs.Refusals.{SomeFaulted}
use Rattle.batch_engine.specs.Lives.{
  RoseBy,
  is_call,
  is_opened,
  is_failed_append,
  IsStretchEnd,
  failures,
  AreCaused,
}
use Rattle.batch_engine.specs.Lives.{IsFirstRefusal}
use Rattle.batch_engine.specs.declared.run.BatchEnd.{BatchEnd}
use Rattle.batch_engine.specs.declared.run.BatchEnd.TheVariants.{Done, Script as Refused, ReadFault}
use Rattle.batch_engine.specs.declared.run.BatchEnd.TheVariants.{WriteFault, ShelfFault, Memory}

-- an event is of an item: a call with some ending, or a restart with some choice for each
-- name
abbrev pub IsEventOf : BatchItem → ScriptEvent → Type 0
IsEventOf (asked ask) (script_call name caller text ending) =
    (name ≡ ask.name) × (caller ≡ ask.caller) × (text ≡ ask.text)
IsEventOf restarted (script_restart found opened) = Unit {0}
IsEventOf item event = ⊥

-- one event for each item
abbrev pub AreEventsOf : List BatchItem → List ScriptEvent → Type 0
AreEventsOf [] [] = Unit {0}
AreEventsOf (item ∷ items) (event ∷ events) = IsEventOf item event × AreEventsOf items events
AreEventsOf items events = ⊥

-- items of one stretch: calls, and maybe the restart that ends it
abbrev pub IsStretch : List BatchItem → Type 0
IsStretch [] = Unit {0}
IsStretch (asked ask ∷ items) = IsStretch items
IsStretch (restarted ∷ items) = items ≡ []

-- these are all items up to the end of a stretch: none, or a restart is the last of them
abbrev pub EndsStretch : List BatchItem → Type 0
EndsStretch items = (items ≡ []) ⊎ ((before : List BatchItem) × (items ≡ before ++ restarted ∷ []))

-- the calls of a stretch end in front of these items: there are none, or the first is its restart
abbrev pub IsBehindStretch : List BatchItem → Type 0
IsBehindStretch [] = Unit {0}
IsBehindStretch (asked ask ∷ items) = ⊥
IsBehindStretch (restarted ∷ items) = Unit {0}

-- A stretch stands between what is in front of it and what is behind it: all calls between two
-- restarts are its own. It begins with the script or behind a restart, unless it has no item, and
-- ends with its restart, before it or with the script.
pub record StandsBetween (front stretch back : List BatchItem) : Type 0 where
  pub begins : (stretch ≡ []) ⊎ EndsStretch front
  pub ends : EndsStretch (front ++ stretch) ⊎ IsBehindStretch back

-- the bytes of lines, each with its line feed
abbrev pub line_bytes : List Line → List ℕ
line_bytes lines = flat_map (λ line. line_text line ++ 10 ∷ []) lines

-- a line says that an append failed
abbrev pub is_broken_line : Line → Bool
is_broken_line (reply_line name caller (Some desk_broken)) = true
is_broken_line line = false

-- a user before his journal is opened
abbrev pub unopened : NamedUser → NamedUser
unopened user = record user { opened = [] }

-- the events of a script, behind the opening of all journals
abbrev pub with_opening : (Text → Bool) → (Text → Bool) → List ScriptEvent → List ScriptEvent
with_opening found opened events = script_opening found opened ∷ events

module _ (schema : DatabaseSchema) (world : FactSet) (header : List ℕ) where
  -- the bytes hold a user's history behind some first of these events, or this and the entry in
  -- flight
  abbrev pub StandsAmid : NamedUser → List Event → List ℕ → Type 0
  StandsAmid user events =
      HoldsAmid schema world user.profile header (opening schema world user.profile user.opened)
      events

  -- the same behind all events in front and some first of the others
  abbrev pub StandsBehind : NamedUser → List Event → List Event → List ℕ → Type 0
  StandsBehind user front rest =
      HoldsFrom schema world user.profile header (opening schema world user.profile user.opened)
      front rest

module _ (schema : DatabaseSchema) (world : FactSet) (header : List ℕ) (journals : Journals) where
  -- What a script means for one user.
  pub record ServesUser (users : List NamedUser) (events : List ScriptEvent) (user : NamedUser) :
      Type 0 where
    -- his opening history is the legal one that his journal's bytes stand for, and the empty one
    -- where they open no desk
    pub opening_is : OpensWith schema world user.profile header
        (journals.bytes user.name) user.opened
    -- his replies are those of the run of his own events, whatever others are, ask or are told
    pub private : own_replies user.name (transcript schema world users events)
        ≡ replies schema world user.profile user.opened (own_events user.name events)
    -- his final history is legal; and where he is admitted, each secret is false in some database
    -- that satisfies what he knows and gives him the same lines
    pub legal : IsLegal schema world user.profile
        (final_history schema world user.profile user.opened (own_events user.name events))
    pub hides : admitted schema world user.profile ≡ true
        → HidesInScript schema users user events world
    -- an append failed only where an entry was to be added, and a restart found only one that was
    -- in flight
    pub caused : AreCaused schema world user.profile (opening schema world user.profile user.opened)
        (own_events user.name events)
    -- bytes that open no desk are refused at each opening; of others each refusal and each append
    -- that failed raised the count
    pub refused : OpensNone schema world user.profile header (journals.bytes user.name)
        → list_any is_opened (own_events user.name events) ≡ false
    pub counted : Opens schema world user.profile header user.opened (journals.bytes user.name)
        → RoseBy (failures (own_events user.name events)) (journals.before user.name)
        (journals.now user.name)
    -- where an opening held, each crash leaves his history, or this and the entry in flight
    pub stands : list_any is_opened (own_events user.name events) ≡ true → (c : List ℕ)
        → journals.image user.name c
        → Holds schema world user.profile header (state_after schema world user events) c
    -- where no append failed, his journal has no more bytes than it had, or than his history needs
    pub size : list_any is_failed_append (own_events user.name events) ≡ false
        → IsNoLonger (journals.bytes user.name) (state_after schema world user events).entries
        (journals.reads user.name)
    -- where an opening held, the marks of all his entries may be told
    pub told : list_any is_opened (own_events user.name events) ≡ true
        → length (state_after schema world user events).entries ≤ journals.told user.name
    -- and unless one held and a call was made for him, his journal is as it was
    pub kept : (list_any is_opened (own_events user.name events)
        && list_any is_call (own_events user.name events)) ≡ false → KeepsJournal journals user.name
    -- At each moment since his journal was first opened each crash leaves his history behind some
    -- first of his events, or this and the entry in flight; before that, and where no opening held,
    -- nothing new.
    pub moments : StandsAllAlong journals user.name
        (list_any is_opened (own_events user.name events))
        (StandsAmid schema world header user (own_events user.name events))
    -- Each stretch of his events ends at a restart or with the script. Once an opening has held,
    -- his journal is closed there. Since then each crash leaves his history behind all events up to
    -- there and some first of those behind them, or this and the entry in flight; so no entry whose
    -- mark he was told in the stretch is lost at any moment since. Before that, since his journal
    -- was first opened, each leaves his history behind some first of the events up to there.
    pub closings : (front rest : List Event) → own_events user.name events ≡ front ++ rest
        → IsStretchEnd rest → list_any is_opened front ≡ true
        → ClosedBehind journals user.name moments.opening
        (StandsAmid schema world header user front)
        (StandsBehind schema world header user front rest)

  -- what was written answers these items: it is the lines of the transcript of a script in which
  -- all journals are opened, each ask has some ending, and each restart finds and opens what it may
  pub record AnswersBatch (policy : List NamedUser) (items : List BatchItem) (written : List ℕ) :
      Type 0 where
    pub users : List NamedUser
    pub of_policy : map unopened users ≡ policy
    pub found : Text → Bool
    pub opened : Text → Bool
    pub events : List ScriptEvent
    pub of_items : AreEventsOf items events
    pub lines : written
        ≡ line_bytes (transcript schema world users (with_opening found opened events))
    pub each_user : AllByRecursion (ServesUser users (with_opening found opened events)) users

  -- the first refusal of each user's openings
  abbrev pub AreRefusals : List ScriptEvent → List NamedUser → List (Option DeskError) → Type 0
  AreRefusals events [] [] = Unit {0}
  AreRefusals events (user ∷ users) (refusal ∷ refusals) =
      IsFirstRefusal schema world user.profile header (journals.bytes user.name)
      (journals.before user.name) (journals.now user.name) (own_events user.name events) refusal
      × AreRefusals events users refusals
  AreRefusals events users refusals = ⊥

  module _ (policy : List NamedUser) where
    -- what was appended answers all these items; with the first refusal of each user, and whether
    -- some line says that an append failed
    pub record AppendsAll (items : List BatchItem) (old new : List ℕ)
        (refusals : List (Option DeskError)) (is_broken : Bool) : Type 0 where
      pub written : List ℕ
      pub appended : new ≡ old ++ written
      pub answers : AnswersBatch policy items written
      pub refused : AreRefusals
          (with_opening answers.found answers.opened answers.events) answers.users refusals
      pub broken : is_broken
          ≡ list_any is_broken_line
          (transcript schema world answers.users
          (with_opening answers.found answers.opened answers.events))

    -- What was appended are the lines that answer some first stretches of these items: those of all
    -- of them but the last, and of those of the last maybe only a part. So no item was answered
    -- behind a stretch of which a line wasn't written, and of no stretch only some calls were.
    pub record AppendsSome (items : List BatchItem) (old new : List ℕ) : Type 0 where
      pub earlier : List BatchItem
      pub stretch : List BatchItem
      pub back : List BatchItem
      pub split : items ≡ (earlier ++ stretch) ++ back
      pub one : IsStretch stretch
      pub between : StandsBetween earlier stretch back
      pub whole : List Line
      pub last : List Line
      pub each : length last ≡ length stretch
      pub part : ℕ
      pub appended : new ≡ old ++ (line_bytes whole ++ take part (line_bytes last))
      pub answers : AnswersBatch policy (earlier ++ stretch) (line_bytes (whole ++ last))
      pub lines : transcript schema world answers.users
          (with_opening answers.found answers.opened answers.events) ≡ whole ++ last

    -- What was appended are the lines that answer some first stretches of these items, each whole;
    -- one more stretch may have been answered of which nothing was written.
    abbrev pub AppendsTo : List BatchItem → List ℕ → List ℕ → Type 0
    AppendsTo items old new = (some : AppendsSome items old new) × (some.part ≡ 0)

    -- the bytes are a batch, and some first stretches were answered so
    abbrev pub BreaksBatch : List ℕ → List ℕ → List ℕ → Type 0
    BreaksBatch bytes old new =
        (items : List BatchItem) × (batch_of bytes ≡ Ok items) × AppendsSome items old new

    -- the bytes are a batch, and its first stretches were answered so
    abbrev pub Stops : List ℕ → List ℕ → List ℕ → Type 0
    Stops bytes old new =
        (items : List BatchItem) × (batch_of bytes ≡ Ok items) × AppendsTo items old new

    -- nothing was written, and all journals are as they were
    abbrev pub LeavesAll : List ℕ → List ℕ → Type 0
    LeavesAll old new = (new ≡ old) × KeepsJournals journals

    -- what each end of a batch says of the bytes that were left before and after, and of the output
    -- before and after
    abbrev pub EndsBatch : BatchEnd → List ℕ → List ℕ → List ℕ → List ℕ → Type 0
    EndsBatch (Done refusals is_broken) before after old new =
        (after ≡ []) × (items : List BatchItem)
        × (batch_of before ≡ Ok items) × AppendsAll items old new refusals.items is_broken
    EndsBatch (Refused refusal) before after old new =
        (batch_of before ≡ Err refusal) × LeavesAll old new × IsReadThrough 1 before after
    EndsBatch ReadFault before after old new = LeavesAll old new
    EndsBatch WriteFault before after old new = (after ≡ []) × BreaksBatch before old new
    EndsBatch ShelfFault before after old new = (after ≡ []) × LeavesAll old new
    EndsBatch Memory before after old new =
        LeavesAll old new ⊎ ((after ≡ []) × Stops before old new)

    -- what each end says of the journals alone, where neither the script nor the output is told:
    -- they are as they were, or as the answers to some items leave them
    abbrev pub LeavesJournals : BatchEnd → Type 0
    LeavesJournals (Done refusals is_broken) = (items : List BatchItem) × (written : List ℕ)
        × AppendsAll items [] written refusals.items is_broken
    LeavesJournals (Refused refusal) = KeepsJournals journals
    LeavesJournals ReadFault = KeepsJournals journals
    LeavesJournals WriteFault = (items : List BatchItem) × (written : List ℕ)
        × AppendsSome items [] written
    LeavesJournals ShelfFault = KeepsJournals journals
    LeavesJournals Memory = KeepsJournals journals ⊎ ((items : List BatchItem) × (written : List ℕ)
        × AppendsTo items [] written)

-- the end of a batch whose journals weren't opened
abbrev pub IsUnopened : BatchEnd → Type 0
IsUnopened (Done refusals is_broken) = ⊥
IsUnopened (Refused refusal) = Unit {0}
IsUnopened ReadFault = Unit {0}
IsUnopened WriteFault = ⊥
IsUnopened ShelfFault = ⊥
IsUnopened Memory = ⊥

-- the end of a batch of which nothing was written; want of memory may come behind a restart
abbrev pub IsSilent : BatchEnd → Type 0
IsSilent (Done refusals is_broken) = ⊥
IsSilent (Refused refusal) = Unit {0}
IsSilent ReadFault = Unit {0}
IsSilent WriteFault = ⊥
IsSilent ShelfFault = Unit {0}
IsSilent Memory = ⊥

-- the end of a batch in which some user's journal was refused for a fault of its disk
abbrev pub IsDiskRefusal : BatchEnd → Type 0
IsDiskRefusal (Done refusals is_broken) = SomeFaulted refusals.items
IsDiskRefusal (Refused refusal) = ⊥
IsDiskRefusal ReadFault = ⊥
IsDiskRefusal WriteFault = ⊥
IsDiskRefusal ShelfFault = ⊥
IsDiskRefusal Memory = ⊥

-- the end of a batch in which some ask was answered that an append failed
abbrev pub IsBroken : BatchEnd → Type 0
IsBroken (Done refusals is_broken) = is_broken ≡ true
IsBroken (Refused refusal) = ⊥
IsBroken ReadFault = ⊥
IsBroken WriteFault = ⊥
IsBroken ShelfFault = ⊥
IsBroken Memory = ⊥
