-- What no turn changes of a desk, and the state that its pairs show.
use Rattle.cqe_base.specs.Run.{UserState}
use Rattle.turnstile.specs.History.{Entries}
use Rattle.user_desk.specs.declared.desk.Desk.{Desk}
use Rattle.user_desk.specs.Standings.{standing_of}
use Rattle.user_desk.specs.Lives.{shown}
use Rattle.user_desk.specs.Desks.{desk_schema, desk_world, desk_user, desk_header, desk_standing}
use Rattle.user_desk.specs.Desks.{opening_history, opening_disk}
use Rattle.desk_counter.specs.declared.item.TurnItem.{TurnItem}
use Rattle.desk_counter.specs.declared.item.Fixed.{Fixed}
use Rattle.desk_counter.specs.Items.{history_of, flying}

-- what no turn changes of a desk
abbrev pub fixed_of : {D : Type 0} {g : _} → Desk D g → Fixed D
fixed_of desk = record {
  schema = desk_schema desk;
  world = desk_world desk;
  user = desk_user desk;
  header = desk_header desk;
  standing = desk_standing desk;
  opening = opening_history desk;
  disk = opening_disk desk;
}

-- the user's state that the pairs show
abbrev pub state_shown : {D : Type 0} → Fixed D → Entries TurnItem → UserState
state_shown fixed pairs = shown (history_of pairs) (standing_of fixed.standing) (flying pairs)
