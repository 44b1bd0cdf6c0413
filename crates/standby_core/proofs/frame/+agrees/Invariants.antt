use Rattle.std.proofs.Common.{length}
use Rattle.standby_core.proofs.frame.+agrees.Given as goal

abbrev pub decreases-agrees : goal.decreases-agrees
decreases-agrees l = length l.first.now
