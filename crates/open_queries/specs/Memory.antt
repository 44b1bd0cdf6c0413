-- What lists in memory stand for.
use Rattle.std.specs.Prelude.{ℕ, Option, Some, None}
use Rattle.sentence_text.specs.declared.error.ReadError.{ReadError}
use Rattle.sentence_text.specs.declared.error.ReadError.TheVariants as reading
use Rattle.cqe_base.specs.Formula.{Formula, formula_of, existential}
use Rattle.open_queries.specs.declared.error.OpenQueryError.{OpenQueryError}
use Rattle.open_queries.specs.declared.error.OpenQueryError.TheVariants as errors
use Rattle.open_queries.specs.declared.list.OpenList.{OpenList}
use Rattle.cqe_base.specs.Schema.{DatabaseSchema}
use Rattle.open_queries.specs.Instances.{OpenQuery}
use Rattle.open_queries.specs.Opening.{RefusedShape}

-- the open query that a list in memory is
abbrev pub open_query : OpenList → OpenQuery
open_query list = record { domains = list.domains.items; body = formula_of list.body }

-- the refusal of an open query whose text isn't read
abbrev pub refusal_of : ReadError → OpenQueryError
refusal_of (reading.Text refusal) = errors.Text refusal
refusal_of reading.Memory = errors.Memory

-- a sentence is refused so: it is another shape, or memory is wanting
abbrev pub RefusesSentence : DatabaseSchema → ℕ → Formula → OpenQueryError → Type 0
RefusesSentence schema count sentence (errors.Text refusal) = ⊥
RefusesSentence schema count sentence (errors.Shape number) =
    RefusedShape schema count sentence number
RefusesSentence schema count sentence errors.Memory = Unit {0}

-- the domain and the body of a sentence that begins with `exists`
abbrev pub existential_parts : Formula → Option (ℕ × Formula)
existential_parts (existential d a) = Some (d, a)
existential_parts _ = None
