use Rattle.std.proofs.Common.{◌≡◌, ◌≤◌, ◌+◌, length, vec_capacity}
use Rattle.std.specs.List.{sum_by}
use Rattle.outside.proofs.memory_links.gather.Given as goal

abbrev pub invariant-loop-group : goal.invariant-loop-group
invariant-loop-group l =
    (length l.waiting.items + sum_by (λ group. length group.items) l.groups.items
    ≡ length l.initial.waiting.items + sum_by (λ group. length group.items) l.initial.groups.items)
    × (length l.groups.items ≤ length l.initial.groups.items) × (vec_capacity l.groups ≡ vec_capacity l.initial.groups)

abbrev pub decreases-loop-group : goal.decreases-loop-group
decreases-loop-group l = length l.groups.items
