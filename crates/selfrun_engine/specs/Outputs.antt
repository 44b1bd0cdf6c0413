-- What a batch writes in which nothing failed.
use Rattle.std.specs.Prelude.{◌≡◌, ℕ, Bool, true, List, find, bytes_eq, Some}
use Rattle.std.specs.List.{AllByRecursion}
use Rattle.cqe_base.specs.Schema.{Text, DatabaseSchema}
use Rattle.cqe_base.specs.Facts.{FactSet}
use Rattle.cqe_base.specs.Run.{want, kept, failed}
use Rattle.cqe_base.specs.Transcript.{NamedUser, ScriptEvent, script_call, script_stop}
use Rattle.cqe_base.specs.Transcript.{script_restart, script_opening, transcript}
use Rattle.batch_engine.specs.BatchLines.{BatchItem, asked, restarted}
use Rattle.batch_engine.specs.Batch.{AreEventsOf, line_bytes, with_opening}

-- a call whose item was kept, or for which memory was wanting; no append failed
abbrev pub IsNoFailedAsk : ScriptEvent → Type 0
IsNoFailedAsk (script_call name caller text want) = Unit {0}
IsNoFailedAsk (script_call name caller text kept) = Unit {0}
IsNoFailedAsk (script_call name caller text failed) = ⊥
IsNoFailedAsk (script_stop name purpose text) = Unit {0}
IsNoFailedAsk (script_restart found opened) = Unit {0}
IsNoFailedAsk (script_opening found opened) = Unit {0}

-- an ask is of one of these users
abbrev pub IsOfUser : List NamedUser → BatchItem → Type 0
IsOfUser users (asked ask) =
    (user : NamedUser) × (find (λ u. bytes_eq u.name ask.name) users ≡ Some user)
IsOfUser users restarted = Unit {0}

-- what was written are the lines of the transcript of these items, from the users' opening
-- histories; each user's journal was opened, and no append failed
pub record IsOutput (schema : DatabaseSchema) (world : FactSet) (users : List NamedUser)
    (items : List BatchItem) (written : List ℕ) : Type 0 where
  pub found : Text → Bool
  pub opened : Text → Bool
  pub events : List ScriptEvent
  pub of_items : AreEventsOf items events
  pub all_kept : AllByRecursion IsNoFailedAsk events
  pub all_opened : AllByRecursion (λ user. opened user.name ≡ true) users
  pub lines : written
      ≡ line_bytes (transcript schema world users (with_opening found opened events))
