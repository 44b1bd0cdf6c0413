use Rattle.std.proofs.Common.{◌≡◌, map}
use Rattle.toml.specs.Data.{string}
use Rattle.toml.specs.View.{view}
use Rattle.workload.specs.Stated.{numbered}
use Rattle.workload.proofs.policy.constants.Given as goal

abbrev pub invariant-loop-number : goal.invariant-loop-number
invariant-loop-number l = map view l.names.items ≡ map string (numbered l.letter l.number-counter)
