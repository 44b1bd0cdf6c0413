-- What a view is to its callers: a log over a schema, with room for more.
use Rattle.std.specs.Prelude.{◌≡◌, ℕ, List, ◌++◌}
use Rattle.cqe_base.specs.Schema.{DatabaseSchema}
use Rattle.cqe_base.specs.Entailment.{Signed}

-- a log over a schema, and how many sentences can be added to it without taking memory
pub record LogView : Type 0 where
  pub schema : DatabaseSchema
  pub log : List Signed
  pub room : ℕ

-- the schema of a view
abbrev pub schema_of : LogView → DatabaseSchema
schema_of view = view.schema

-- the log of a view
abbrev pub log_of : LogView → List Signed
log_of view = view.log

-- how many sentences can be added to a view without taking memory
abbrev pub room_of : LogView → ℕ
room_of view = view.room

-- a view is over the schema and has this log
abbrev pub IsViewOf : DatabaseSchema → List Signed → LogView → Type 0
IsViewOf schema log view = (schema_of view ≡ schema) × (log_of view ≡ log)

-- a log is a beginning of another
abbrev pub IsLogBeginning : (first whole : List Signed) → Type 0
IsLogBeginning first whole = (more : List Signed) × (whole ≡ first ++ more)

-- a view is over the schema, and its log is a beginning of this one
abbrev pub IsViewWithin : DatabaseSchema → List Signed → LogView → Type 0
IsViewWithin schema log view = (schema_of view ≡ schema) × IsLogBeginning (log_of view) log
