-- What becomes of the connections of a primary, one after the other.
use Rattle.std.specs.Prelude.{◌≡◌, ℕ, ◌+◌, Bool, true, false, List, [], ◌∷◌, ◌++◌, length}
use Rattle.std.specs.List.{list_any}
use Rattle.outside.specs.Visits.{Visit}
use Rattle.log_journal.specs.declared.header.Header.{Header}
use Rattle.standby_core.specs.Copies.{Copy}
use Rattle.standby_core.specs.Exchanges.{ServesConnection, IsAnswered}
use Rattle.standby_core.specs.declared.book.TakeError.TheVariants.{Memory}
use Rattle.standby_core.specs.declared.serve.StandbyEnd.{StandbyEnd}
use Rattle.standby_core.specs.declared.serve.StandbyEnd.TheVariants.{ReadFault, Take, WriteFault}

-- A connection was served with this end: what came in were whole frames and what ended them, and
-- what was written are the answers. A fault of an end ended it only where that end failed.
pub record IsServedVisit (header : Header) (before after : List Copy) (visit : Visit)
    (end : StandbyEnd) : Type 0 where
  pub served : ServesConnection header visit.held before after end
  pub answered : IsAnswered end served.answers [] visit.written
  pub read_failed : end ≡ ReadFault → visit.source_whole ≡ false
  pub write_failed : end ≡ WriteFault → visit.sink_whole ≡ false

-- connections were served in order, from the copies before them to those behind them, with these
-- ends
pub data AreServed (header : Header) (first : List Copy) : List Copy → List Visit
    → List StandbyEnd → Type 0 where
  nobody : AreServed header first first [] []
  further : (before after : List Copy) (visits : List Visit) (ends : List StandbyEnd)
      (visit : Visit) (end : StandbyEnd)
      → AreServed header first before visits ends
      → IsServedVisit header before after visit end
      → AreServed header first after (visits ++ visit ∷ []) (ends ++ end ∷ [])

-- a connection ended since memory was wanting for a record of it
abbrev pub is_wanting : StandbyEnd → Bool
is_wanting (Take Memory) = true
is_wanting end = false

-- The connections that a door gave were served in order, and are back. It was said whether one of
-- them ended for want of memory.
pub record IsDoorServed {O : Type 0} (given : O → ℕ) (back : O → List Visit) (header : Header)
    (first last : List Copy) (old new : O) (wanting : Bool) : Type 0 where
  pub visits : List Visit
  pub ends : List StandbyEnd
  pub served : AreServed header first last visits ends
  pub wanted : wanting ≡ list_any is_wanting ends
  pub back_is : back new ≡ back old ++ visits
  pub given_is : given new ≡ given old + length visits
