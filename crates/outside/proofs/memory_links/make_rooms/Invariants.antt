use Rattle.std.proofs.Common.{◌≡◌, length, All}
use Rattle.outside.proofs.memory_links.make_rooms.Given as goal

abbrev pub invariant-loop : goal.invariant-loop
invariant-loop l = (length l.rooms.items ≡ l.counter) × All (λ room. room.size ≡ l.size) l.rooms.items
