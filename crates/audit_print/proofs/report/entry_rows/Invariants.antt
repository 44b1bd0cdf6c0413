use Rattle.std.proofs.Common.{◌≡◌, map, take}
use Rattle.cqe_base.specs.History.{answered_query_of}
use Rattle.audit_text.specs.Rows.{entry_in}
use Rattle.audit_print.specs.Said.{entry_said}
use Rattle.audit_print.proofs.report.entry_rows.Given as goal

abbrev pub invariant-loop-entry : goal.invariant-loop-entry
invariant-loop-entry l = map entry_in l.rows.items ≡ map (entry_said l.schema) (map answered_query_of (take l.entry-index l.entries))
