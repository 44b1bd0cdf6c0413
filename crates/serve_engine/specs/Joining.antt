-- A serving as a part of a user's one history over all calls.
use Rattle.std.specs.Prelude.{◌≡◌, ℕ, false, List, ◌++◌, Option, None, option_to_list, string_bytes}
use Rattle.cqe_base.specs.Schema.{DatabaseSchema}
use Rattle.cqe_base.specs.Facts.{FactSet}
use Rattle.cqe_base.specs.History.{History}
use Rattle.cqe_base.specs.declared.user.User.{User}
use Rattle.user_desk.specs.Joining.{Span, IsSpanOver}
use Rattle.user_desk.specs.Standings.{is_sealed}
use Rattle.user_desk.specs.declared.standing.DeskError.{DeskError}
use Rattle.desk_crew.specs.Shelved.{Journals}
use Rattle.serve_engine.specs.Served.{Member}
use Rattle.serve_engine.specs.Serving.{HasServed}

-- a serving as a call to one user, with the entry in flight, which left these bytes of his journal
abbrev pub span_of : Member → List ℕ → Span
span_of member left = record {
  opened = member.opening;
  entries = member.history;
  pending = member.in_flight;
  left = left;
}

-- a serving that was cut, as a call to one user who had these entries then
abbrev pub cut_span_of : Member → History → List ℕ → Span
cut_span_of member entries left = record {
  opened = member.opening;
  entries = entries;
  pending = None;
  left = left;
}

-- Unless his journal was refused, a serving is a call over what his journal read as it began,
-- whatever a crash leaves of it as the serving ends.
abbrev pub ServingsAreSpans : Journals → Type 0
ServingsAreSpans journals =
    (schema : DatabaseSchema) (world : FactSet) (header : List ℕ) (user : User) (member : Member)
    (refusal : Option DeskError)
    (served : HasServed schema world header journals user member refusal)
    → is_sealed served.standing ≡ false
    → (left : List ℕ) → journals.image (string_bytes user.name) left
    → IsSpanOver schema world member.profile header (journals.bytes (string_bytes user.name))
    (span_of member left)

-- A serving was cut at a moment at which a crash could leave these bytes: it is a call with some of
-- a user's entries, the first of his history and the entry in flight.
pub record IsCutServing (journals : Journals) (schema : DatabaseSchema) (world : FactSet)
    (header : List ℕ) (user : User) (member : Member) (left : List ℕ) : Type 0 where
  pub entries : History
  pub rest : History
  pub split : member.history ++ option_to_list member.in_flight ≡ entries ++ rest
  pub over : IsSpanOver schema world member.profile header
      (journals.bytes (string_bytes user.name)) (cut_span_of member entries left)

-- So it is at each moment since his journal was opened.
abbrev pub CutServingsAreSpans : Journals → Type 0
CutServingsAreSpans journals =
    (schema : DatabaseSchema) (world : FactSet) (header : List ℕ) (user : User) (member : Member)
    (refusal : Option DeskError)
    (served : HasServed schema world header journals user member refusal)
    → is_sealed served.standing ≡ false
    → (left : List ℕ) → journals.since (string_bytes user.name) served.moments.opening left
    → IsCutServing journals schema world header user member left
