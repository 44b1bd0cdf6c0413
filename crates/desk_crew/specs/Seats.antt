-- A user's seat at a desk under a counter.
use Rattle.outside.specs.declared.disk.Disk.{Ghosts as DiskGhosts}
use Rattle.desk_counter.specs.declared.item.TurnItem.{TurnItem}
use Rattle.desk_counter.specs.declared.item.Fixed.{Fixed}
use Rattle.desk_counter.specs.declared.ticketed_desk.Owned.{Ghosts as OwnedGhosts}
use Rattle.desk_counter.specs.declared.ticketed_desk.TicketedDesk.{TicketedDesk}
use Rattle.desk_crew.specs.declared.seat.Seat.{Seat}

-- a seat whose value is a desk over disks of this type
abbrev pub DeskSeat : (D : Type 0) (g : DiskGhosts D)
    → OwnedGhosts (TicketedDesk D g) TurnItem (Fixed D) → Type 0
DeskSeat D g h = Seat (TicketedDesk D g) TurnItem (Fixed D) h
