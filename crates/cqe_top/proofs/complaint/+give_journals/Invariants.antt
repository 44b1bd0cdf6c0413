use Rattle.std.proofs.Common.{length}
use Rattle.cqe_top.proofs.complaint.+give_journals.Given as goal

-- the users that are left
abbrev pub decreases-give_journals : goal.decreases-give_journals
decreases-give_journals g l = length l.users.now
