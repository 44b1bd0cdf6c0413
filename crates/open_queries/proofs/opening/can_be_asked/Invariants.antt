use Rattle.std.proofs.Common.{ℕ, ◌<◌}
use Rattle.open_queries.specs.Instances.{instance_of}
use Rattle.open_queries.specs.Opening.{CanBeAsked}
use Rattle.open_queries.specs.Memory.{open_query}
use Rattle.open_queries.proofs.opening.can_be_asked.Given as goal

-- each instance so far can be asked
abbrev pub invariant-loop-number : goal.invariant-loop-number
invariant-loop-number l = (number : ℕ) → number < l.number → CanBeAsked l.schema (instance_of l.schema (open_query l.list) number)
