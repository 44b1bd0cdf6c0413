-- A desk with tickets, as contracts speak of it.
use Rattle.turnstile.specs.History.{Entries}
use Rattle.user_desk.specs.declared.desk.Desk.{Desk}
use Rattle.user_desk.specs.Desks.{desk_history, entry_in_flight}
use Rattle.desk_counter.specs.declared.item.TurnItem.{TurnItem}
use Rattle.desk_counter.specs.declared.item.Fixed.{Fixed}
use Rattle.desk_counter.specs.declared.ticketed_desk.TicketedDesk.{TicketedDesk}
use Rattle.desk_counter.specs.Items.{pairs_of}
use Rattle.desk_counter.specs.Desks.{fixed_of}

-- the desk
abbrev pub desk_of : {D : Type 0} {g : _} → TicketedDesk D g → Desk D g
desk_of value = value.desk

-- its pairs
abbrev pub pairs_in : {D : Type 0} {g : _} → TicketedDesk D g → Entries TurnItem
pairs_in value =
    pairs_of value.tickets.items (desk_history value.desk) value.broke (entry_in_flight value.desk)

-- what no turn changes of it
abbrev pub fixed_in : {D : Type 0} {g : _} → TicketedDesk D g → Fixed D
fixed_in value = fixed_of value.desk
