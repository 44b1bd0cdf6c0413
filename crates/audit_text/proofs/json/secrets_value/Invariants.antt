use Rattle.std.proofs.Common.{◌≡◌, map, take}
use Rattle.serde_json.specs.View.{view}
use Rattle.audit_text.specs.Json.{secret_data}
use Rattle.audit_text.specs.Rows.{secret_in}
use Rattle.audit_text.proofs.json.secrets_value.Given as goal

abbrev pub invariant-loop-row : goal.invariant-loop-row
invariant-loop-row l = map view l.values.items ≡ map secret_data (map secret_in (take l.row-index l.rows))
