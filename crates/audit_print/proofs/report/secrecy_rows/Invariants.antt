use Rattle.std.proofs.Common.{◌≡◌, ◌*◌, map, drop}
use Rattle.audit_text.specs.Rows.{secrecy_in, secret_in}
use Rattle.audit_print.specs.Said.{secrecies_in}
use Rattle.audit_print.proofs.report.secrecy_rows.Given as goal

-- so many secrecies are taken off the beginning
abbrev pub invariant-loop : goal.invariant-loop
invariant-loop l = record {
  secrecies : map secrecy_in l.rows.items ≡ secrecies_in l.counter (map secret_in l.fn.secrets.items);
  rest : map secret_in l.secrets.items ≡ drop (2 * l.counter) (map secret_in l.fn.secrets.items);
}
