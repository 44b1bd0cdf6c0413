use Rattle.std.proofs.Common.{map}
use Rattle.cqe_base.specs.History.{profile_of}
use Rattle.audit_text.specs.Rows.{secret_in}
use Rattle.audit_print.specs.Found.{found_at}
use Rattle.audit_print.specs.Listed.{ListsAll}
use Rattle.audit_print.proofs.report.secret_rows.Given as goal

abbrev pub invariant-loop-number : goal.invariant-loop-number
invariant-loop-number l = ListsAll l.schema (profile_of l.user) (found_at l.user.method l.worlds) l.number (map secret_in l.rows.items)
