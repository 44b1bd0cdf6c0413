use Rattle.std.proofs.Common.{◌≡◌, ◌++◌, length, drop}
use Rattle.open_queries.specs.Instances.{chosen}
use Rattle.open_queries.proofs.list.chosen.Given as goal

-- the constants so far, and those of what is left, are those of all
abbrev pub invariant-loop-domain : goal.invariant-loop-domain
invariant-loop-domain l = l.constants.items ++ chosen (drop (length l.yielded) l.domains) (drop (length l.yielded) l.indices) ≡ chosen l.domains l.indices
