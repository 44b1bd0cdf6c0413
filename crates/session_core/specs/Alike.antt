-- The replies to one user in another world.
use Rattle.std.specs.Prelude.{ℕ, Bool, List, Option, Some, None}
use Rattle.cqe_base.specs.Schema.{DatabaseSchema, Text}
use Rattle.cqe_base.specs.Facts.{FactSet}
use Rattle.cqe_base.specs.History.{UserProfile, AnsweredQuery, History}
use Rattle.cqe_base.specs.Censor.{IsLegal, mark_after}
use Rattle.cqe_base.specs.Run.{Standing, Reply}
use Rattle.session_core.specs.Replied.{Replied}

-- the entry in flight behind a history, as a world has it: its mark is the one of the rule there
abbrev pub flight_in : DatabaseSchema → FactSet → UserProfile → History → Option AnsweredQuery
    → Option AnsweredQuery
flight_in schema world user history None = None
flight_in schema world user history (Some entry) =
    Some (record entry { mark = mark_after schema world user history entry.query })

-- Asks that were replied to by a history are replied to by it in each world in which it is legal:
-- with the same replies, the same failed append and the same wants of memory. The entries of the
-- marks are the same there; only the entry in flight, of which he was told no mark, is as that
-- world has it.
abbrev pub AsksAreRepliedAlike : Type 0
AsksAreRepliedAlike =
    (schema : DatabaseSchema) (world other : FactSet) (user : UserProfile) (standing : Standing)
    (history : History) (broke : Bool) (least : ℕ) (failed : Bool) (asks : List (Text × Reply))
    (entries : History) (in_flight : Option AnsweredQuery)
    → IsLegal schema other user history
    → Replied schema world user standing history broke least failed asks entries in_flight
    → Replied schema other user standing history broke least failed asks entries
    (flight_in schema other user history in_flight)
