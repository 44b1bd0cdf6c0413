use Rattle.std.proofs.Common.{◌≡◌, ◌++◌, map, drop, string_bytes}
use Rattle.std.specs.List.{flat_map}
use Rattle.audit_text.specs.Text.{secrecy_lines}
use Rattle.audit_text.specs.Rows.{secrecy_in}
use Rattle.audit_text.proofs.lines.push_rows.Given as goal

abbrev pub invariant-loop-row : goal.invariant-loop-row
invariant-loop-row l =
    map string_bytes l.lines.items ++ flat_map secrecy_lines (map secrecy_in (drop l.row-index l.rows))
    ≡ map string_bytes l.fn.lines.items ++ flat_map secrecy_lines (map secrecy_in l.rows)
