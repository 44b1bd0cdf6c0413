use Rattle.std.proofs.Common.{length}
use Rattle.open_queries.proofs.list.+combinations.Given as goal

abbrev pub decreases-combinations : goal.decreases-combinations
decreases-combinations l = length l.domains.now
