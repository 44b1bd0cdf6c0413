-- Models of clauses, and the worlds that they are.
use Rattle.std.specs.Prelude.{◌≡◌, ◌↔◌, true, List, map}
use Rattle.cqe_base.specs.Schema.{DatabaseSchema, is_valid_schema}
use Rattle.cqe_base.specs.Facts.{FactSet, IsWorldOf}
use Rattle.cqe_base.specs.Entailment.{Signed, all_hold_in, are_sentences_of}
use Rattle.cqe_base.specs.Outcome.{grounded_signed}
use Rattle.cqe_base.specs.MachineLaws.{HaveModel}
use Rattle.clause_form.specs.Forms.{Form, form_of}

-- some world of the schema makes all sentences true
abbrev pub AreTrueSomewhere : DatabaseSchema → List Signed → Type 0
AreTrueSomewhere schema sentences =
    (world : FactSet) × IsWorldOf schema world × (all_hold_in schema world sentences ≡ true)

-- the clauses of the sentences have a model exactly where some world of the schema makes all true
abbrev pub HaveModelsInWorlds : DatabaseSchema → List Signed → Type 0
HaveModelsInWorlds schema sentences =
    HaveModel (form_of (map (grounded_signed schema) sentences)).clauses
    ↔ AreTrueSomewhere schema sentences

-- the clauses of each list of sentences of a valid schema have a model exactly where some world of
-- the schema makes all of them true
abbrev pub ModelsAreWorldsOfSchema : Type 0
ModelsAreWorldsOfSchema =
    (schema : DatabaseSchema) (sentences : List Signed)
    → is_valid_schema schema ≡ true → are_sentences_of schema sentences ≡ true
    → HaveModelsInWorlds schema sentences

-- whichever sentences of the schema a form is of, its clauses have a model exactly where some world
-- of the schema makes all of them true
abbrev pub ModelsOfFormAreWorlds : DatabaseSchema → Form → Type 0
ModelsOfFormAreWorlds schema form =
    (sentences : List Signed)
    → form ≡ form_of (map (grounded_signed schema) sentences)
    → are_sentences_of schema sentences ≡ true
    → HaveModel form.clauses ↔ AreTrueSomewhere schema sentences
