use Rattle.std.proofs.Common.{◌≡◌, map, take}
use Rattle.serde_json.specs.View.{view}
use Rattle.audit_text.specs.Json.{secrecy_data}
use Rattle.audit_text.specs.Rows.{secrecy_in}
use Rattle.audit_text.proofs.json.secrecies_value.Given as goal

abbrev pub invariant-loop-row : goal.invariant-loop-row
invariant-loop-row l = map view l.values.items ≡ map secrecy_data (map secrecy_in (take l.row-index l.rows))
