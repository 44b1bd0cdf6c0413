use Rattle.std.proofs.Common.{◌≡◌, take}
use Rattle.std.specs.FinSet as set
use Rattle.dossier.proofs.listed.world_of.Given as goal

-- the world has the facts so far
abbrev pub invariant-loop-fact : goal.invariant-loop-fact
invariant-loop-fact l = l.world ≡ set.from_list (take l.fact-index l.facts)
