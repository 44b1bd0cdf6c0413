-- What a case writes, and what its lines mean for its user.
use Rattle.std.specs.Prelude.{◌≡◌, ◌⊎◌, ℕ, true, List, [], ◌∷◌, ◌++◌, length, take, Ok, Err}
use Rattle.std.specs.List.{flat_map, AllByRecursion}
use Rattle.cqe_base.specs.declared.user.Purpose.TheVariants.{Asking}
use Rattle.cqe_base.specs.Schema.{Text, DatabaseSchema}
use Rattle.cqe_base.specs.Facts.{FactSet}
use Rattle.cqe_base.specs.History.{UserProfile}
use Rattle.cqe_base.specs.Censor.{IsLegal, admitted}
use Rattle.cqe_base.specs.Run.{Reply, Ending, want, kept, Event, call, replies, final_history}
use Rattle.cqe_base.specs.Transcript.{reply_text}
use Rattle.cqe_base.specs.Hiding.{Hides}
use Rattle.script_lines.specs.Read.{IsReadThrough}
use Rattle.case_engine.specs.Script.{Script, script_schema, script_user, script_of}
use Rattle.case_engine.specs.declared.case.CaseEnd.{CaseEnd}
use Rattle.case_engine.specs.declared.case.CaseEnd.TheVariants.{Done, Script as Refused, ReadFault}
use Rattle.case_engine.specs.declared.case.CaseEnd.TheVariants.{WriteFault, Memory}

-- the events of asks with these endings
abbrev pub ask_events : List Text → List Ending → List Event
ask_events [] endings = []
ask_events (text ∷ asks) [] = []
ask_events (text ∷ asks) (ending ∷ endings) =
    call Asking text ending ∷ ask_events asks endings

-- an ask of a case keeps its entry or finds no memory
abbrev pub IsKeptOrWant : Ending → Type 0
IsKeptOrWant ending = (ending ≡ kept) ⊎ (ending ≡ want)

-- the lines of replies, each with its line feed
abbrev pub reply_lines : List Reply → List ℕ
reply_lines told = flat_map (λ reply. reply_text reply ++ 10 ∷ []) told

-- what was written answers these asks of a user in a world: one line for each, the replies of a run
-- from the empty history in which each ask keeps its entry or finds no memory; the history is
-- legal, and where the user is admitted it hides his secrets
pub record AnswersCase (schema : DatabaseSchema) (world : FactSet) (user : UserProfile)
    (asks : List Text) (written : List ℕ) : Type 0 where
  pub endings : List Ending
  pub one_each : length endings ≡ length asks
  pub kept_or_want : AllByRecursion IsKeptOrWant endings
  pub lines : written ≡ reply_lines (replies schema world user [] (ask_events asks endings))
  pub legal : IsLegal schema world user
      (final_history schema world user [] (ask_events asks endings))
  pub hides : admitted schema world user ≡ true
      → Hides schema world user (final_history schema world user [] (ask_events asks endings))

-- the same of asks of a script
abbrev pub AnswersOf : Script → List Text → List ℕ → Type 0
AnswersOf script asks written =
    AnswersCase (script_schema script) script.facts (script_user script) asks written

-- the lines of replies, and a part of one more
abbrev pub lines_cut : List Reply → Reply → ℕ → List ℕ
lines_cut whole told part = reply_lines whole ++ take part (reply_text told ++ 10 ∷ [])

-- What was written are the lines that answer the first asks of a script, and a part of the line of
-- the next; so nothing was asked behind a line that wasn't written whole.
pub record Begins (script : Script) (written : List ℕ) : Type 0 where
  pub first : List Text
  pub next : Text
  pub back : List Text
  pub asks : script.asks ≡ (first ++ next ∷ []) ++ back
  pub whole : List Reply
  pub one_each : length whole ≡ length first
  pub told : Reply
  pub part : ℕ
  pub cut : written ≡ lines_cut whole told part
  pub answered : AnswersOf script (first ++ next ∷ []) (reply_lines (whole ++ told ∷ []))

-- the bytes are a script, and what was appended to the old output answers all its asks
pub record Completes (bytes old new : List ℕ) : Type 0 where
  pub script : Script
  pub read : script_of bytes ≡ Ok script
  pub written : List ℕ
  pub appended : new ≡ old ++ written
  pub answers : AnswersOf script script.asks written

-- the bytes are a script, and what was appended answers its first asks so
pub record BreaksCase (bytes old new : List ℕ) : Type 0 where
  pub script : Script
  pub read : script_of bytes ≡ Ok script
  pub written : List ℕ
  pub appended : new ≡ old ++ written
  pub begins : Begins script written

-- what each end of a case says of the bytes that were left before and after, and of the output
-- before and after
abbrev pub EndsCase : CaseEnd → List ℕ → List ℕ → List ℕ → List ℕ → Type 0
EndsCase Done before after old new = (after ≡ []) × Completes before old new
EndsCase (Refused refusal) before after old new =
    (script_of before ≡ Err refusal) × (new ≡ old) × IsReadThrough 1 before after
EndsCase ReadFault before after old new = new ≡ old
EndsCase WriteFault before after old new = (after ≡ []) × BreaksCase before old new
EndsCase Memory before after old new = new ≡ old

-- the end of a case of which nothing was written
abbrev pub IsSilent : CaseEnd → Type 0
IsSilent Done = ⊥
IsSilent (Refused refusal) = Unit {0}
IsSilent ReadFault = Unit {0}
IsSilent WriteFault = ⊥
IsSilent Memory = Unit {0}
