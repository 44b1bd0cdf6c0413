-- How refusals of a part are refusals of the whole.
use Rattle.std.proofs.Common.{◌≡◌, ℕ, Result, Ok, Err, IfErr}
use Rattle.cqe_base.specs.Schema.{DatabaseSchema, Text}
use Rattle.cqe_base.specs.Formula.{Formula}
use Rattle.cqe_base.specs.Reading.{reading}
use Rattle.sentence_text.specs.declared.error.ReadError.{ReadError}
use Rattle.sentence_text.specs.declared.error.ReadError.TheVariants as reading_errors
use Rattle.sentence_text.specs.Position.{IfRefused}
use Rattle.open_queries.specs.declared.error.OpenQueryError.{OpenQueryError}
use Rattle.open_queries.specs.declared.error.OpenQueryError.TheVariants as errors
use Rattle.open_queries.specs.Opening.{IsRefused, no_sentence, other_shape, no_memory}
use Rattle.open_queries.specs.Memory.{RefusesSentence, refusal_of}

-- a text that isn't read
pub refused_reading : (X : Type 0) (schema : DatabaseSchema) (count : ℕ) (text : Text) (e : ReadError)
    → IfRefused {X = X} (Err e) (λ refusal. reading schema text ≡ Err refusal) → IsRefused schema count text (refusal_of e)
refused_reading X schema count text (reading_errors.Text refusal) is = no_sentence refusal is
refused_reading X schema count text reading_errors.Memory is = no_memory

-- a sentence that isn't opened
refused_by : (schema : DatabaseSchema) (count : ℕ) (text : Text) (sentence : Formula) (why : OpenQueryError) → reading schema text ≡ Ok sentence
    → RefusesSentence schema count sentence why → IsRefused schema count text why
refused_by schema count text sentence (errors.Text refusal) read refuses = absurd refuses
refused_by schema count text sentence (errors.Shape number) read refuses = other_shape sentence number read refuses
refused_by schema count text sentence errors.Memory read refuses = no_memory

pub refused_opening : {X : Type 0} (schema : DatabaseSchema) (count : ℕ) (text : Text) (sentence : Formula) (r : Result X OpenQueryError)
    → reading schema text ≡ Ok sentence → IfErr r (RefusesSentence schema count sentence) → IfErr r (IsRefused schema count text)
refused_opening schema count text sentence (Ok list) read refuses = tt
refused_opening schema count text sentence (Err why) read refuses = refused_by schema count text sentence why read refuses
