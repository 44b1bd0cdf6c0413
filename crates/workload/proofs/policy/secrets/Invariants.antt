use Rattle.std.proofs.Common.{◌≡◌, map, take}
use Rattle.toml.specs.Data.{string}
use Rattle.toml.specs.View.{view}
use Rattle.workload.specs.Trees.{secret_text}
use Rattle.workload.proofs.policy.secrets.Given as goal

abbrev pub invariant-loop-person : goal.invariant-loop-person
invariant-loop-person l = map view l.secrets.items ≡ map string (map secret_text (take l.person-index l.persons))
