-- What a desk is to its callers.
use Rattle.std.specs.Prelude.{◌≡◌, ℕ, Bool, List, take, Option, option_map, is_some, Result, Ok}
use Rattle.std.specs.Prelude.{Err}
use Rattle.cqe_base.specs.Schema.{DatabaseSchema}
use Rattle.cqe_base.specs.Facts.{FactSet}
use Rattle.cqe_base.specs.History.{UserProfile, AnsweredQuery, History, answered_query_of}
use Rattle.cqe_base.specs.Run.{UserState}
use Rattle.log_journal.specs.Opening.{header_bytes}
use Rattle.log_journal.specs.declared.header.Refused.{Refused}
use Rattle.user_log.specs.UserLogs.{kept_schema, kept_world, kept_user, kept_history}
use Rattle.user_desk.specs.Standings.{standing_of}
use Rattle.user_desk.specs.Stored.{stored_disk, opened_disk}
use Rattle.user_desk.specs.Lives.{shown, IsState}
use Rattle.user_desk.specs.declared.standing.Standing.{Standing}
use Rattle.user_desk.specs.declared.desk.Desk.{Desk}

-- its schema
abbrev pub desk_schema : {D : Type 0} {g : _} → Desk D g → DatabaseSchema
desk_schema desk = kept_schema desk.log

-- its world
abbrev pub desk_world : {D : Type 0} {g : _} → Desk D g → FactSet
desk_world desk = kept_world desk.log

-- its user
abbrev pub desk_user : {D : Type 0} {g : _} → Desk D g → UserProfile
desk_user desk = kept_user desk.log

-- the header of its journal
abbrev pub desk_header : {D : Type 0} {g : _} → Desk D g → List ℕ
desk_header desk = header_bytes desk.header

-- its standing
abbrev pub desk_standing : {D : Type 0} {g : _} → Desk D g → Standing
desk_standing desk = desk.standing

-- its entries, oldest first
abbrev pub desk_history : {D : Type 0} {g : _} → Desk D g → History
desk_history desk = kept_history desk.log

-- its disk
abbrev pub desk_disk : {D : Type 0} {g : _} → Desk D g → D
desk_disk desk = stored_disk desk.store

-- how many entries it had at its opening
abbrev pub opening_count : {D : Type 0} {g : _} → Desk D g → ℕ
opening_count desk = desk.opened

-- the entries that it had at its opening
abbrev pub opening_history : {D : Type 0} {g : _} → Desk D g → History
opening_history desk = take (opening_count desk) (desk_history desk)

-- its disk as it was at its opening
abbrev pub opening_disk : {D : Type 0} {g : _} → Desk D g → D
opening_disk desk = opened_disk desk.store

-- the entry whose append failed, if one did
abbrev pub entry_in_flight : {D : Type 0} {g : _} → Desk D g → Option AnsweredQuery
entry_in_flight desk = option_map answered_query_of desk.in_flight

-- an append of it failed
abbrev pub is_broken_desk : {D : Type 0} {g : _} → Desk D g → Bool
is_broken_desk desk = is_some (entry_in_flight desk)

-- the state that it shows
abbrev pub state_of : {D : Type 0} {g : _} → Desk D g → UserState
state_of desk = shown (desk_history desk) (standing_of desk.standing) (entry_in_flight desk)

-- it is in this state; of a desk whose journal was refused the standing alone counts
abbrev pub IsIn : {D : Type 0} {g : _} → Desk D g → UserState → Type 0
IsIn desk state = IsState desk.standing (state_of desk) state

-- two desks are of one user in one world, with one header and one standing
pub record IsOfSame {D : Type 0} {g : _} (old new : Desk D g) : Type 0 where
  pub schema : desk_schema new ≡ desk_schema old
  pub world : desk_world new ≡ desk_world old
  pub user : desk_user new ≡ desk_user old
  pub header : desk_header new ≡ desk_header old
  pub standing : desk_standing new ≡ desk_standing old

-- two desks had the same entries and the same disk at their openings
pub record IsOfOneOpening {D : Type 0} {g : _} (old new : Desk D g) : Type 0 where
  pub count : opening_count new ≡ opening_count old
  pub entries : opening_history new ≡ opening_history old
  pub disk : opening_disk new ≡ opening_disk old

-- the disk after an opening, in the desk or handed back
abbrev pub disk_opened : {D E : Type 0} {g : _} → Result (Desk D g) (Refused D E) → D
disk_opened (Ok desk) = desk_disk desk
disk_opened (Err refused) = refused.disk
