-- Lives of the program that follow one another: each begins with what the one before left.
use Rattle.std.specs.Prelude.{◌≡◌, ℕ, Bool, true, List, [], ◌∷◌, ◌++◌, Option, is_some}
use Rattle.std.specs.List.{flat_map, AllByRecursion}
use Rattle.cqe_base.specs.Schema.{DatabaseSchema, is_valid_schema}
use Rattle.cqe_base.specs.Facts.{FactSet}
use Rattle.cqe_base.specs.History.{UserProfile, AnsweredQuery, History, is_user_of, is_history_of}
use Rattle.cqe_base.specs.Censor.{IsLegal, admitted}
use Rattle.cqe_base.specs.Hiding.{Hides}
use Rattle.cqe_base.specs.Run.{Reply, Event, restart, opening, after_events, entries_found}
use Rattle.cqe_base.specs.Run.{replies, final_history, standing_open}
use Rattle.user_desk.specs.Causes.{Opens}
use Rattle.user_desk.specs.Lives.{Holds, shown}

-- ---- over the definitions alone

-- A life of the program, to one user: his events up to its end or to a crash, and whether the entry
-- in flight was found in what it left.
pub record Life : Type 0 where
  pub events : List Event
  pub found : Bool

-- the events of lives, each with the opening that follows it
abbrev pub joined : List Life → List Event
joined [] = []
joined (life ∷ lives) = life.events ++ restart life.found true ∷ joined lives

module _ (schema : DatabaseSchema) (world : FactSet) (user : UserProfile) where
  -- the entries that a life leaves to the next, where it began with these
  abbrev pub entries_left : History → Life → History
  entries_left opened life =
      entries_found schema world user
      (after_events schema world user (opening schema world user opened) life.events) life.found

  -- the replies in lives of which each begins with what the one before left
  abbrev pub replies_in : History → List Life → List Reply
  replies_in opened [] = []
  replies_in opened (life ∷ lives) =
      replies schema world user opened life.events ++ replies_in (entries_left opened life) lives

  -- the entries that the last of them leaves
  abbrev pub entries_behind : History → List Life → History
  entries_behind opened [] = opened
  entries_behind opened (life ∷ lives) = entries_behind (entries_left opened life) lives

-- their replies are those of one run
abbrev pub LivesReplyAsOne : Type 0
LivesReplyAsOne =
    (schema : DatabaseSchema) (world : FactSet) (user : UserProfile) (opened : History)
    (lives : List Life)
    → replies_in schema world user opened lives
    ≡ replies schema world user opened (joined lives)

-- the last of them leaves the history with which that run ends
abbrev pub LivesEndAsOne : Type 0
LivesEndAsOne =
    (schema : DatabaseSchema) (world : FactSet) (user : UserProfile) (opened : History)
    (lives : List Life)
    → entries_behind schema world user opened lives
    ≡ final_history schema world user opened (joined lives)

-- it is legal and of the schema, and that of an admitted user hides
pub record StaysHidden (schema : DatabaseSchema) (world : FactSet) (user : UserProfile)
    (entries : History) : Type 0 where
  pub legal : IsLegal schema world user entries
  pub sentences : is_history_of schema entries ≡ true
  pub hides : is_valid_schema schema ≡ true → is_user_of schema user ≡ true
      → admitted schema world user ≡ true → Hides schema world user entries

-- so it is over any lives that begin with a legal history of the schema
abbrev pub LivesStayHidden : Type 0
LivesStayHidden =
    (schema : DatabaseSchema) (world : FactSet) (user : UserProfile) (opened : History)
    (lives : List Life)
    → IsLegal schema world user opened → is_history_of schema opened ≡ true
    → StaysHidden schema world user (entries_behind schema world user opened lives)

-- ---- over the bytes between two lives

-- A call of the program, to one user: the history with which it began, his events up to its end or
-- to a crash, what he was told, and the bytes of his journal that it left.
pub record Call : Type 0 where
  pub opened : History
  pub events : List Event
  pub told : List Reply
  pub left : List ℕ

-- what he was told in all of them
abbrev pub all_told : List Call → List Reply
all_told calls = flat_map (λ (call : Call). call.told) calls

-- the bytes that the last of them left, or these where there is none
abbrev pub bytes_behind : List ℕ → List Call → List ℕ
bytes_behind bytes [] = bytes
bytes_behind bytes (call ∷ calls) = bytes_behind call.left calls

module _ (schema : DatabaseSchema) (world : FactSet) (user : UserProfile) (header : List ℕ) where
  -- A call over these bytes of his journal: they open a desk with the history with which it began,
  -- he was told the replies of a run from there, and what it left holds the state behind his
  -- events, with the entry in flight or without it.
  pub record IsCallOver (bytes : List ℕ) (call : Call) : Type 0 where
    pub opens : Opens schema world user header call.opened bytes
    pub replied : call.told ≡ replies schema world user call.opened call.events
    pub holds : Holds schema world user header
        (after_events schema world user (opening schema world user call.opened) call.events)
        call.left

  -- each call is over the bytes that the one before left
  abbrev pub AreCallsOver : List ℕ → List Call → Type 0
  AreCallsOver bytes [] = Unit {0}
  AreCallsOver bytes (call ∷ calls) = IsCallOver bytes call × AreCallsOver call.left calls

  -- A life is that of a call: the call began with the history that was left to it; the life has the
  -- call's own events; the entry in flight was found only where there was one; and what the call
  -- left opens a desk with the entries that the life leaves to the next, with that entry or without
  -- it.
  pub record IsLifeOf (opened : History) (call : Call) (life : Life) : Type 0 where
    pub began : call.opened ≡ opened
    pub events : life.events ≡ call.events
    pub sought : life.found ≡ true → is_some (after_events schema world user
        (opening schema world user opened) life.events).pending ≡ true
    pub left : Opens schema world user header (entries_left schema world user opened life) call.left

  -- there are as many lives as calls, and each is that of its call, from what the one before left
  abbrev pub AreLivesOf : History → List Call → List Life → Type 0
  AreLivesOf opened [] [] = Unit {0}
  AreLivesOf opened (call ∷ calls) (life ∷ lives) = IsLifeOf opened call life
      × AreLivesOf (entries_left schema world user opened life) calls lives
  AreLivesOf opened calls lives = ⊥

  -- The calls, over these bytes and from this history on, are one run, that of the events of their
  -- lives: all that was told are its replies; what the last call left opens a desk with the history
  -- with which it ends; and that is legal and hides.
  pub record AreOneRun (bytes : List ℕ) (opened : History) (calls : List Call) : Type 0 where
    pub lives : List Life
    pub are : AreLivesOf opened calls lives
    pub replied : all_told calls ≡ replies schema world user opened (joined lives)
    pub ends : Opens schema world user header
        (final_history schema world user opened (joined lives)) (bytes_behind bytes calls)
    pub hidden : StaysHidden schema world user
        (final_history schema world user opened (joined lives))

-- calls that follow one another, over any bytes with which the first began, are one run
abbrev pub CallsJoin : Type 0
CallsJoin =
    (schema : DatabaseSchema) (world : FactSet) (user : UserProfile) (header bytes : List ℕ)
    (opened : History) (calls : List Call)
    → Opens schema world user header opened bytes
    → AreCallsOver schema world user header bytes calls
    → AreOneRun schema world user header bytes opened calls

-- ---- over histories alone

-- What a call of any kind made of a user's history: the entries with which it began, those with
-- which it ended or was cut, the entry in flight, and the bytes of his journal that it left.
pub record Span : Type 0 where
  pub opened : History
  pub entries : History
  pub pending : Option AnsweredQuery
  pub left : List ℕ

-- the entries with which the last of them ended
abbrev pub last_entries : History → List Span → History
last_entries opened [] = opened
last_entries opened (span ∷ spans) = last_entries span.entries spans

module _ (schema : DatabaseSchema) (world : FactSet) (user : UserProfile) (header : List ℕ) where
  -- A call over these bytes of his journal: they open a desk with the entries with which it began;
  -- those with which it ended go on from there and are legal; and what it left holds them, or these
  -- and the entry in flight.
  pub record IsSpanOver (bytes : List ℕ) (span : Span) : Type 0 where
    pub opens : Opens schema world user header span.opened bytes
    pub goes_on : (more : History) × (span.entries ≡ span.opened ++ more)
    pub legal : IsLegal schema world user span.entries
    pub holds : Holds schema world user header
        (shown span.entries standing_open span.pending) span.left

  -- each is over the bytes that the one before left
  abbrev pub AreSpansOver : List ℕ → List Span → Type 0
  AreSpansOver bytes [] = Unit {0}
  AreSpansOver bytes (span ∷ spans) = IsSpanOver bytes span × AreSpansOver span.left spans

  -- the history with which the last ended begins with that of each, is legal and hides
  pub record AreOneHistory (opened : History) (spans : List Span) : Type 0 where
    pub each : AllByRecursion
        (λ span. (more : History) × (last_entries opened spans ≡ span.entries ++ more)) spans
    pub hidden : StaysHidden schema world user (last_entries opened spans)

-- calls of any kinds that follow one another, over any bytes with which the first began, made one
-- history: no entry of an earlier one is lost
abbrev pub SpansJoin : Type 0
SpansJoin =
    (schema : DatabaseSchema) (world : FactSet) (user : UserProfile) (header bytes : List ℕ)
    (opened : History) (spans : List Span)
    → Opens schema world user header opened bytes
    → AreSpansOver schema world user header bytes spans
    → AreOneHistory schema world user header opened spans
