-- A drawer of numbers as contracts speak of it.
use Rattle.std.specs.Prelude.{◌≡◌, ℕ, List}
use Rattle.worker_pool.specs.declared.hand.Hand.{Hand}
use Rattle.worker_pool.specs.declared.numbers.Drawer.{Drawer}
use Rattle.worker_pool.specs.declared.numbers.Numbers.{Numbers}

-- what the drawer knows
abbrev pub hand_of : Drawer → Hand
hand_of drawer = drawer.seat.me.0

-- the numbers that it drew
abbrev pub drawn : Drawer → List ℕ
drawn drawer = (hand_of drawer).drawn

-- the drawer is at these numbers
abbrev pub IsAt : Numbers → Drawer → Type 0
IsAt numbers drawer = drawer.seat.table_id ≡ numbers.table.shared.table_id
