-- The bytes that served a connection serve it in each world that is alike to who is logged in.
use Rattle.std.proofs.Common.{◌≡◌, ℕ, false, List, [], ◌∷◌, length, refl, sym, subst}
use Rattle.std.specs.Prelude.{Option, Some, None, is_some, slice_get}
use Rattle.outside.specs.Visits.{Visit}
use Rattle.cqe_base.specs.Schema.{DatabaseSchema, Text}
use Rattle.cqe_base.specs.Facts.{FactSet}
use Rattle.cqe_base.specs.History.{UserProfile, AnsweredQuery, History}
use Rattle.cqe_base.specs.Censor.{IsLegal}
use Rattle.cqe_base.specs.Run.{Reply}
use Rattle.cqe_base.specs.declared.user.User.{User}
use Rattle.session_core.specs.Replied.{Replied}
use Rattle.session_core.specs.Alike.{flight_in, AsksAreRepliedAlike}
use Rattle.serve_engine.specs.Served.{Member, member_broke, SessionMarks, RepliedAt, here, further, RepliedTo, Served}
use Rattle.serve_engine.specs.Alike.{member_in, marks_in, IsServedAlike, BytesComeAgain}

-- what is there twice is the same
same_there : {X : Type 0} {x y : X} → Some x ≡ Some y → x ≡ y
same_there is = cc

module _ (alike : AsksAreRepliedAlike) (schema : DatabaseSchema) (world other : FactSet) where
  -- the asks of a connection of a member, in a world
  abbrev Asked : FactSet → Member → List (Text × Reply) → History → Option AnsweredQuery → Type 0
  Asked at member asks entries in_flight =
      Replied schema at member.profile member.standing member.history (member_broke member) (length member.opening) false asks entries in_flight

  -- where an append failed here, one did there
  broke_there : (user : UserProfile) (history : History) (in_flight : Option AnsweredQuery)
      → is_some (flight_in schema other user history in_flight) ≡ is_some in_flight
  broke_there user history None = refl
  broke_there user history (Some entry) = refl

  asked_there : (member : Member) (asks : List (Text × Reply)) (entries : History) (in_flight : Option AnsweredQuery)
      → IsLegal schema other member.profile member.history → Asked world member asks entries in_flight
      → Asked other (member_in schema other member) asks entries (flight_in schema other member.profile member.history in_flight)
  asked_there member asks entries in_flight legal asked =
      subst (λ b. Replied schema other member.profile member.standing member.history b (length member.opening) false asks entries
      (flight_in schema other member.profile member.history in_flight)) (sym (broke_there member.profile member.history member.in_flight))
      (alike schema world other member.profile member.standing member.history (member_broke member) (length member.opening) false asks entries in_flight
      legal asked)

  at_there : {place : ℕ} {members : List Member} {asks : List (Text × Reply)} {entries : History} {in_flight : Option AnsweredQuery} (member : Member)
      (there : List Member) → slice_get members place ≡ Some member → IsLegal schema other member.profile member.history
      → slice_get there place ≡ Some (member_in schema other member) → RepliedAt schema world place members asks entries in_flight
      → RepliedAt schema other place there asks entries (flight_in schema other member.profile member.history in_flight)
  at_there member [] is legal stands (here asked) = absurd cc
  at_there member [] is legal stands (further deep) = absurd cc
  at_there member (m ∷ there) is legal stands (here {asks = asks} {entries = entries} {in_flight = in_flight} asked) =
      here (subst (λ (x : Member). Asked other x asks entries (flight_in schema other member.profile member.history in_flight)) (sym (same_there stands))
      (asked_there member asks entries in_flight legal (subst (λ (x : Member). Asked world x asks entries in_flight) (same_there is) asked)))
  at_there member (m ∷ there) is legal stands (further deep) = further (at_there member there is legal stands deep)

  -- of who is logged in
  to_there : (who : Option ℕ) (asks : List (Text × Reply)) (entries : History) (in_flight : Option AnsweredQuery) (members there : List Member) (place : ℕ)
      (member : Member) → who ≡ Some place → slice_get members place ≡ Some member → IsLegal schema other member.profile member.history
      → slice_get there place ≡ Some (member_in schema other member) → RepliedTo schema world who members asks entries in_flight
      → RepliedTo schema other who there asks entries (flight_in schema other member.profile member.history in_flight)
  to_there None asks entries in_flight members there place member is stands legal stands_there replied = absurd cc
  to_there (Some at) asks entries in_flight members there place member is stands legal stands_there replied =
      let same : place ≡ at = sym (same_there is) in
      at_there member there (subst (λ n. slice_get members n ≡ Some member) same stands) legal
      (subst (λ n. slice_get there n ≡ Some (member_in schema other member)) same stands_there) replied

  -- nobody asks without a login
  to_nobody : (who : Option ℕ) (asks : List (Text × Reply)) (entries : History) (in_flight : Option AnsweredQuery) (members there : List Member)
      → who ≡ None → RepliedTo schema world who members asks entries in_flight → RepliedTo schema other who there asks entries in_flight
  to_nobody None asks entries in_flight members there is replied = replied
  to_nobody (Some place) asks entries in_flight members there is replied = absurd cc

  -- the lines and the bytes are the same
  same_bytes : (users : List User) (members there : List Member) (visit : Visit) (marks : SessionMarks) (in_flight : Option AnsweredQuery)
      → (served : Served schema world users members visit marks) → RepliedTo schema other marks.who there served.asks marks.entries in_flight
      → Served schema other users there visit (record marks { in_flight = in_flight })
  same_bytes users members there visit marks in_flight served replied = record {
    lines = served.lines;
    asks = served.asks;
    texts = served.texts;
    to_end = served.to_end;
    talks = served.talks;
    replied = replied;
    heard = served.heard;
    all_heard = served.all_heard;
    wrote = served.wrote;
    all_written = served.all_written;
    whole = served.whole;
  }

pub bytes_come_again : AsksAreRepliedAlike → BytesComeAgain
bytes_come_again alike schema world users members visit marks served = record {
  without_login = λ nobody other there.
      same_bytes alike schema world other users members there visit marks marks.in_flight served
      (to_nobody alike schema world other marks.who served.asks marks.entries marks.in_flight members there nobody served.replied);
  by_user = λ place member is stands other is_alike there stands_there.
      same_bytes alike schema world other users members there visit marks (flight_in schema other member.profile member.history marks.in_flight) served
      (to_there alike schema world other marks.who served.asks marks.entries marks.in_flight members there place member is stands is_alike.legal stands_there
      served.replied);
}
