use Rattle.std.proofs.Common.{◌≡◌, map, take}
use Rattle.std.specs.Prelude.{fold}
use Rattle.censors.specs.Parts.{joined}
use Rattle.censors.proofs.parts.gathered.Given as goal

abbrev pub invariant-loop-lane : goal.invariant-loop-lane
invariant-loop-lane l = l.all ≡ fold joined l.initial.all (map (λ lane. lane.found) (take l.lane-index l.rest))
