-- What the tree of a TOML document means as a policy, or why it is refused: the first check that
-- fails.
use Rattle.std.specs.Prelude.{ℕ, ◌==◌, List, [], length, Option, Some, None, Ok, Err, codes}
use Rattle.std.specs.Prelude.{if◌then◌else◌}
use Rattle.std.specs.Str.{is_utf8}
use Rattle.toml.specs.Data.{Data, Members, table, get, as_integer, as_table}
use Rattle.toml.specs.Parse.{parse_document}
use Rattle.cqe_base.specs.declared.schema.SchemaError.{SchemaError}
use Rattle.cqe_base.specs.Schema.{Text, Declaration, DatabaseSchema, schema_refusal, schema_of}
use Rattle.policy_files.specs.declared.keys.PolicyVersion.{PolicyVersion}
use Rattle.policy_files.specs.declared.keys.PolicyVersion.TheVariants.{One, Two}
use Rattle.policy_files.specs.declared.error.PolicyError.TheVariants.{NotToml, WrongKind, Schema}
use Rattle.policy_files.specs.declared.error.PolicyError.TheVariants.{Version}
use Rattle.policy_files.specs.Tree.{tables_in, are_string_arrays, declarations, natural}
use Rattle.policy_files.specs.Policies.{PolicyValue}
use Rattle.policy_files.specs.Keys.{Step, ◌>>=◌, key_place, only_keys, required, within}
use Rattle.policy_files.specs.Users.{users_behind}

-- the version is 1 or 2
abbrev pub version_numbered : Option ℕ → Step PolicyVersion
version_numbered None = Err Version
version_numbered (Some number) =
    if number == 1 then Ok One else if number == 2 then Ok Two else Err Version

-- the version at the key
abbrev pub version_of : Option Data → Step PolicyVersion
version_of value =
    required as_integer (key_place None (codes "version")) value >>= λ number.
    version_numbered (natural number)

-- the declarations at a key of the document, each value of which is an array of strings
abbrev pub declared_at : Text → Members → Step (List Declaration)
declared_at key values =
    if are_string_arrays values then Ok (declarations values)
    else Err (WrongKind (key_place None key))

-- the schema, unless its declarations are refused
abbrev pub unless_refused : Option SchemaError → DatabaseSchema → Step DatabaseSchema
unless_refused None schema = Ok schema
unless_refused (Some why) schema = Err (Schema why)

-- the schema that declarations make
abbrev pub schema_in : List Declaration → List Declaration → Step DatabaseSchema
schema_in domains relations =
    unless_refused (schema_refusal domains relations) (schema_of domains relations)

-- the policy that the tree of a document means
unfoldable pub policy_of : Data → Step PolicyValue
policy_of root = do
  version ← version_of (get (codes "version") root)
  none ← only_keys version None root
  domain_table ← required as_table (key_place None (codes "domains")) (get (codes "domains") root)
  relation_table ← required as_table (key_place None (codes "relations"))
      (get (codes "relations") root)
  tables ← required tables_in (key_place None (codes "users")) (get (codes "users") root)
  domains ← declared_at (codes "domains") domain_table
  relations ← declared_at (codes "relations") relation_table
  schema ← schema_in domains relations
  count ← within 1 256 (key_place None (codes "users")) (length tables)
  users ← users_behind version schema [] tables
  Ok (record { schema = schema; users = users })

-- the tree of a document, if there is one
abbrev pub tree_of : Option Members → Step Data
tree_of None = Err NotToml
tree_of (Some root) = Ok (table root)

-- the tree of the TOML document, in UTF-8, that bytes are
abbrev pub tree_in : List ℕ → Step Data
tree_in bytes = if is_utf8 bytes then tree_of (parse_document bytes) else Err NotToml

-- the policy that the bytes of a file are
unfoldable pub policy_in : List ℕ → Step PolicyValue
policy_in bytes = tree_in bytes >>= policy_of
