use Rattle.std.proofs.Common.{length}
use Rattle.audit_print.proofs.report.+push_constants.Given as goal

abbrev pub decreases-push_constants : goal.decreases-push_constants
decreases-push_constants l = length l.domains.now
