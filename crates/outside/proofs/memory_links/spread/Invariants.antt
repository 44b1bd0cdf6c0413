use Rattle.std.proofs.Common.{◌≡◌, ◌+◌, ◌<◌, [], length, vec_capacity, All}
use Rattle.std.specs.List.{sum_by}
use Rattle.outside.specs.MemoryDoors.{door_given, door_left, door_back, door_ends, door_faults}
use Rattle.outside.proofs.memory_links.spread.Given as goal

abbrev pub invariant-loop-room : goal.invariant-loop-room
invariant-loop-room l =
    (length l.opened.items + length l.rooms.items ≡ length l.initial.rooms.items) × (vec_capacity l.opened ≡ vec_capacity l.initial.opened)
    × All (λ room. room.size ≡ length l.initial.waiting.items) l.rooms.items
    × (sum_by door_left l.opened.items + length l.waiting.items ≡ length l.initial.waiting.items)
    × All (λ door. door_faults door ≡ 0) l.opened.items
    × All (λ door. (door_given door ≡ 0) × (door_back door ≡ [])) l.opened.items
    × All (λ door. door_ends door ≡ 0) l.opened.items
    × (length l.rooms.items ≡ 0 → 0 < length l.initial.rooms.items → length l.waiting.items ≡ 0)

abbrev pub decreases-loop-room : goal.decreases-loop-room
decreases-loop-room l = length l.rooms.items
