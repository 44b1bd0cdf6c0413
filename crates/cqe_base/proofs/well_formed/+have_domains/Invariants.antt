use Rattle.std.proofs.Common.{length}
use Rattle.cqe_base.proofs.well_formed.+have_domains.Given as goal

abbrev pub decreases-have_domains : goal.decreases-have_domains
decreases-have_domains l = length l.terms.now
