use Rattle.std.proofs.Common.{ap, ◌∙◌, arith}
use Rattle.std.specs.FinSet as set
use Rattle.std.proofs.lemmas.List.{take_all}
use Rattle.dossier.proofs.Worlds.{world-grown}
use Rattle.dossier.proofs.listed.world_of.Goals as goal

-- the world with one more fact
pub loop-fact-preserved : goal.loop-fact-preserved
loop-fact-preserved c =
    world-grown c.args.facts.now c.loop-fact.fact-index _ _ _ c.loop-fact-test.true c.loop-fact.invariant c.in-Ok.ensures.added

-- all facts are in it
pub returns : goal.returns
returns c = c.loop-fact.invariant ∙ ap set.from_list (take_all c.loop-fact.fact-index c.args.facts.now (omega (arith, c.loop-fact-test.false)))
