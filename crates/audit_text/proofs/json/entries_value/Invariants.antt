use Rattle.std.proofs.Common.{◌≡◌, map, take}
use Rattle.serde_json.specs.View.{view}
use Rattle.audit_text.specs.Json.{entry_data}
use Rattle.audit_text.specs.Rows.{entry_in}
use Rattle.audit_text.proofs.json.entries_value.Given as goal

abbrev pub invariant-loop-row : goal.invariant-loop-row
invariant-loop-row l = map view l.values.items ≡ map entry_data (map entry_in (take l.row-index l.rows))
