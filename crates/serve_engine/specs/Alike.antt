-- Connections in other worlds: confidentiality of what was written to them.
use Rattle.std.specs.Prelude.{◌≡◌, ℕ, List, Option, Some, None, slice_get}
use Rattle.outside.specs.Visits.{Visit}
use Rattle.cqe_base.specs.Schema.{DatabaseSchema}
use Rattle.cqe_base.specs.Facts.{FactSet}
use Rattle.cqe_base.specs.Hiding.{IsAlike}
use Rattle.cqe_base.specs.declared.user.User.{User}
use Rattle.session_core.specs.Alike.{flight_in}
use Rattle.serve_engine.specs.Served.{Member, SessionMarks, Served}

module _ (schema : DatabaseSchema) (world : FactSet) where
  -- A user as an alike world has him: with the same standing and the same history, and an append
  -- failed where one did. The entry in flight has the mark of the rule there.
  abbrev pub member_in : Member → Member
  member_in member = record member {
    in_flight = flight_in schema world member.profile member.history member.in_flight;
  }

  -- what a connection of his comes to there
  abbrev pub marks_in : Member → SessionMarks → SessionMarks
  marks_in member marks = record marks {
    in_flight = flight_in schema world member.profile member.history marks.in_flight;
  }

-- The same bytes serve a connection in other worlds, whoever the users are there: without a login
-- in each world; else in each one that is alike to who is logged in in the end, where he is as that
-- world has him.
pub record IsServedAlike (schema : DatabaseSchema) (world : FactSet) (users : List User)
    (members : List Member) (visit : Visit) (marks : SessionMarks) : Type 0 where
  pub without_login : marks.who ≡ None → (other : FactSet) (there : List Member)
      → Served schema other users there visit marks
  pub by_user : (place : ℕ) (member : Member) → marks.who ≡ Some place
      → slice_get members place ≡ Some member
      → (other : FactSet) → IsAlike schema member.profile member.history world other
      → (there : List Member) → slice_get there place ≡ Some (member_in schema other member)
      → Served schema other users there visit (marks_in schema other member marks)

-- The bytes that served a connection serve it so.
abbrev pub BytesComeAgain : Type 0
BytesComeAgain = (schema : DatabaseSchema) (world : FactSet) (users : List User)
    (members : List Member) (visit : Visit) (marks : SessionMarks)
    → Served schema world users members visit marks
    → IsServedAlike schema world users members visit marks
