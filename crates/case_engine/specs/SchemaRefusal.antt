-- Why declarations are no schema, and a text no sentence.
use Rattle.std.specs.Prelude.{◌≡◌, true, List, Result, Err, is_some}
use Rattle.cqe_base.specs.declared.text.ScriptKind.TheVariants.{Schema, Sentence}
use Rattle.cqe_base.specs.Schema.{Declaration, schema_refusal}
use Rattle.cqe_base.specs.Formula.{Formula}
use Rattle.cqe_base.specs.Reading.{Refusal}
use Rattle.script_lines.specs.declared.error.LineError.{LineError}
use Rattle.script_lines.specs.declared.error.LineError.TheVariants.{Refused, Memory}

-- want of memory, or the refusal of these declarations
abbrev pub IsSchemaRefusal : List Declaration → List Declaration → LineError → Type 0
IsSchemaRefusal domains relations (Refused kind) =
    (kind ≡ Schema) × (is_some (schema_refusal domains relations) ≡ true)
IsSchemaRefusal domains relations Memory = Unit {0}

-- want of memory, or the refusal of a text that doesn't read
abbrev pub IsNoSentence : Result Formula Refusal → LineError → Type 0
IsNoSentence read (Refused kind) = (kind ≡ Sentence) × ((e : Refusal) × (read ≡ Err e))
IsNoSentence read Memory = Unit {0}
