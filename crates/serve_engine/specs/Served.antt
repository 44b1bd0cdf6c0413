-- What a finished connection is to the users who are served.
use Rattle.std.specs.Prelude.{◌≡◌, ◌⊎◌, ℕ, zero, suc, ◌==◌, Bool, true, false, List, [], ◌∷◌, ◌++◌}
use Rattle.std.specs.Prelude.{length, map, sum_by, Option, Some, None, is_some, option_to_list}
use Rattle.std.specs.Prelude.{if◌then◌else◌}
use Rattle.std.specs.List.{AllZip}
use Rattle.outside.specs.Visits.{Visit}
use Rattle.cqe_base.specs.Schema.{DatabaseSchema, Text}
use Rattle.cqe_base.specs.Facts.{FactSet}
use Rattle.cqe_base.specs.History.{UserProfile, AnsweredQuery, History}
use Rattle.cqe_base.specs.Run.{Standing, Reply}
use Rattle.cqe_base.specs.declared.user.User.{User}
use Rattle.desk_counter.specs.declared.item.TurnItem.{TurnItem}
use Rattle.desk_counter.specs.Items.{items_with}
use Rattle.session_core.specs.Heard.{HeardLine, session_lines}
use Rattle.session_core.specs.Talks.{Talks, written_lines, IsCut}
use Rattle.session_core.specs.Replied.{Replied}

-- Two lists have the same entries, each as often: however entries are weighed, both weigh the same.
abbrev pub SameEntries : {I : Type 0} → List I → List I → Type 0
SameEntries {I} first second = (weight : I → ℕ) → sum_by weight first ≡ sum_by weight second

-- A user while connections are served: who he is, how his desk stands, the entries at its opening,
-- all its entries, and the entry in flight, if an append failed.
pub record Member : Type 0 where
  pub profile : UserProfile
  pub standing : Standing
  pub opening : History
  pub history : History
  pub in_flight : Option AnsweredQuery

-- whether an append of his failed
abbrev pub member_broke : Member → Bool
member_broke member = is_some member.in_flight

-- The same user later: his history has all that it had, and maybe further entries, and an append
-- may have failed. Where one had failed before, there are no further entries.
pub record IsLater (before after : Member) : Type 0 where
  pub profile : after.profile ≡ before.profile
  pub standing : after.standing ≡ before.standing
  pub opening : after.opening ≡ before.opening
  pub further : (entries : History) × (after.history ≡ before.history ++ entries)
  pub broke : member_broke before ≡ true → member_broke after ≡ true
  pub still : member_broke before ≡ true → after.history ≡ before.history

-- What a connection comes to: who is logged in in the end, by his place, the entries of the marks
-- that he was told, and the entry of the ask that he was told the append of which failed, if one
-- was.
pub record SessionMarks : Type 0 where
  pub who : Option ℕ
  pub entries : History
  pub in_flight : Option AnsweredQuery

-- whether it is the user at this place who is logged in
abbrev pub is_user_at : ℕ → Option ℕ → Bool
is_user_at place None = false
is_user_at place (Some other) = other == place

-- the entries of the marks that a connection told the user at this place
abbrev pub entries_told : ℕ → SessionMarks → History
entries_told place marks = if is_user_at place marks.who then marks.entries else []

-- the entry whose append failed, where a connection told it to the user at this place
abbrev pub failures_told : ℕ → SessionMarks → History
failures_told place marks =
    if is_user_at place marks.who then option_to_list marks.in_flight else []

-- both, as items
abbrev pub items_told : ℕ → SessionMarks → List TurnItem
items_told place marks =
    if is_user_at place marks.who then items_with marks.entries marks.in_flight else []

module _ (schema : DatabaseSchema) (world : FactSet) where
  -- The asks of a connection, with their replies, were replied to by the history of the user at
  -- this place: the first by no fewer entries than there were at the opening. The last list are the
  -- entries of the marks, and behind it stands the entry whose append failed, if that was of one of
  -- these asks.
  pub data RepliedAt : ℕ → List Member → List (Text × Reply) → History → Option AnsweredQuery
      → Type 0 where
    here : {member : Member} {others : List Member} {asks : List (Text × Reply)}
        {entries : History} {in_flight : Option AnsweredQuery}
        → Replied schema world member.profile member.standing member.history (member_broke member)
        (length member.opening) false asks entries in_flight
        → RepliedAt zero (member ∷ others) asks entries in_flight
    further : {place : ℕ} {member : Member} {others : List Member} {asks : List (Text × Reply)}
        {entries : History} {in_flight : Option AnsweredQuery}
        → RepliedAt place others asks entries in_flight
        → RepliedAt (suc place) (member ∷ others) asks entries in_flight

  -- the asks of who is logged in in the end: without a login there are none
  abbrev pub RepliedTo : Option ℕ → List Member → List (Text × Reply) → History
      → Option AnsweredQuery → Type 0
  RepliedTo None members asks entries in_flight =
      (asks ≡ []) × (entries ≡ []) × (in_flight ≡ None)
  RepliedTo (Some place) members asks entries in_flight =
      RepliedAt place members asks entries in_flight

  -- A finished connection is served, and comes to these marks: its lines were answered one after
  -- the other, and what was asked was replied to by the one history of the user who logged in. The
  -- lines are those that a session hears of all bytes that came in; where an end failed, the first
  -- of these. What was written are the lines of the answers; where the sink failed, maybe of the
  -- last one only a part, and behind it nothing was asked, also where that is within a list.
  pub record Served (users : List User) (members : List Member) (visit : Visit)
      (marks : SessionMarks) : Type 0 where
    pub lines : List HeardLine
    pub asks : List (Text × Reply)
    pub texts : List Text
    pub to_end : Bool
    pub talks : Talks users (map (λ user. schema) users) None lines marks.who asks texts to_end
    pub replied : RepliedTo marks.who members asks marks.entries marks.in_flight
    pub heard : (rest : List HeardLine) × (session_lines visit.held ≡ lines ++ rest)
    pub all_heard : visit.source_whole ≡ true → visit.sink_whole ≡ true
        → lines ≡ session_lines visit.held
    pub wrote : (visit.written ≡ written_lines texts) ⊎ IsCut texts visit.written
    pub all_written : visit.sink_whole ≡ true → visit.written ≡ written_lines texts
    pub whole : visit.sink_whole ≡ true → to_end ≡ true

-- A connection that was served stays so where each user is the same later.
abbrev pub ServedStay : Type 0
ServedStay = (schema : DatabaseSchema) (world : FactSet) (users : List User)
    (before after : List Member) (visit : Visit) (marks : SessionMarks)
    → AllZip IsLater before after → Served schema world users before visit marks
    → Served schema world users after visit marks
