use Rattle.std.proofs.Common.{refl}
use Rattle.workload.specs.Draws.{state_after}
use Rattle.workload.proofs.draws.Draws.new.Goals as goal

pub returns : goal.returns
unfolding state_after
returns c = refl
