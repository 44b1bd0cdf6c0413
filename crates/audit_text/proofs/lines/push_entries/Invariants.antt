use Rattle.std.proofs.Common.{◌≡◌, ◌++◌, ◌+◌, map, drop, string_bytes}
use Rattle.audit_text.specs.Text.{entry_lines}
use Rattle.audit_text.specs.Rows.{entry_in}
use Rattle.audit_text.proofs.lines.push_entries.Given as goal

abbrev pub invariant-loop-place : goal.invariant-loop-place
invariant-loop-place l =
    map string_bytes l.lines.items ++ entry_lines (l.place + 1) (map entry_in (drop l.place l.entries))
    ≡ map string_bytes l.fn.lines.items ++ entry_lines 1 (map entry_in l.entries)
