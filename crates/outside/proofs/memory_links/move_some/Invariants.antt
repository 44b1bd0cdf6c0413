use Rattle.std.proofs.Common.{◌≡◌, ◌+◌, length, vec_capacity}
use Rattle.outside.proofs.memory_links.move_some.Given as goal

abbrev pub invariant-loop : goal.invariant-loop
invariant-loop l =
    (length l.from.items + l.counter ≡ length l.initial.from.items) × (length l.to.items ≡ length l.initial.to.items + l.counter)
    × (vec_capacity l.to ≡ vec_capacity l.initial.to)
