use Rattle.std.proofs.Common.{◌≡◌, ◌++◌, map, take, string_bytes}
use Rattle.audit_text.specs.Text.{secret_line}
use Rattle.audit_text.specs.Rows.{secret_in}
use Rattle.audit_text.proofs.lines.push_secrets.Given as goal

abbrev pub invariant-loop-secret : goal.invariant-loop-secret
invariant-loop-secret l = map string_bytes l.lines.items ≡ map string_bytes l.fn.lines.items ++ map secret_line (map secret_in (take l.secret-index l.secrets))
