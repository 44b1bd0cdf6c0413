-- What is said, in memory.
use Rattle.std.specs.Prelude.{List, map, Option, option_map, String, Vec, string_bytes}
use Rattle.std.specs.declared.alloc.Global.{Global}
use Rattle.cqe_base.specs.declared.user.Mark.{Mark}
use Rattle.cqe_base.specs.Schema.{Text}
use Rattle.audit_text.specs.Said.{SecrecySaid, AuditSaid}
use Rattle.audit_text.specs.declared.report.EntryRow.{EntryRow}
use Rattle.audit_text.specs.declared.report.SecrecyRow.{SecrecyRow}
use Rattle.audit_text.specs.declared.report.SecretRow.{SecretRow}
use Rattle.audit_text.specs.declared.report.Report.{Report}

-- an entry in memory
abbrev pub entry_in : EntryRow → Mark × Text
entry_in row = (row.mark, string_bytes row.query)

-- the facts of a world in memory, if there is one
abbrev pub world_in : Option (Vec (String Global) Global) → Option (List Text)
world_in world = option_map (λ facts. map string_bytes facts.items) world

-- a secrecy in memory
abbrev pub secrecy_in : SecrecyRow → SecrecySaid
secrecy_in row = record {
  secrecy = string_bytes row.secrecy;
  where_true = world_in row.where_true;
  where_false = world_in row.where_false;
}

-- a secret in memory
abbrev pub secret_in : SecretRow → Text × Option (List Text)
secret_in row = (string_bytes row.secret, world_in row.world)

-- all in memory
abbrev pub said_in : Report → AuditSaid
said_in report = record {
  name = report.name.now;
  method = report.method.now;
  standing = report.standing.now;
  entries = map entry_in report.entries.items;
  secrecies = option_map (λ rows. map secrecy_in rows.items) report.secrecies;
  secrets = map secret_in report.secrets.items;
}
