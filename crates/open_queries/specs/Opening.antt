-- Which texts open a query, and why others are refused.
use Rattle.std.specs.Prelude.{◌≡◌, ◌≤◌, ◌<◌, ℕ, length, Ok, Err}
use Rattle.cqe_base.specs.Schema.{DatabaseSchema, Text}
use Rattle.cqe_base.specs.Formula.{Formula}
use Rattle.cqe_base.specs.Reading.{Refusal, reading}
use Rattle.cqe_base.specs.Canonical.{canonical, enclosing_constructs}
use Rattle.open_queries.specs.declared.error.OpenQueryError.{OpenQueryError}
use Rattle.open_queries.specs.declared.error.OpenQueryError.TheVariants as errors
use Rattle.open_queries.specs.Instances.{OpenQuery, exists_over, instances, instance_of}

-- a sentence begins with so many `exists`, which are those of the open query
pub record Opens (count : ℕ) (sentence : Formula) (query : OpenQuery) : Type 0 where
  pub quantifiers : length query.domains ≡ count
  pub begins : sentence ≡ exists_over query.domains query.body

-- a sentence can be asked by its canonical form: it has at most 4,096 bytes, and at most 64
-- constructs enclose a place of it
pub record CanBeAsked (schema : DatabaseSchema) (sentence : Formula) : Type 0 where
  pub short : length (canonical schema sentence) ≤ 4096
  pub shallow : enclosing_constructs sentence ≤ 64

-- a text opens to an open query: it is a sentence that begins with so many `exists`, there are at
-- most 256 instances, and each of them can be asked
pub record IsOpened (schema : DatabaseSchema) (count : ℕ) (text : Text) (query : OpenQuery)
    : Type 0 where
  pub quantifiers : length query.domains ≡ count
  pub reads : reading schema text ≡ Ok (exists_over query.domains query.body)
  pub few_instances : instances schema query ≤ 256
  pub asked : (number : ℕ) → number < instances schema query
      → CanBeAsked schema (instance_of schema query number)

-- Why a sentence isn't opened, by number.
pub data RefusedShape (schema : DatabaseSchema) (count : ℕ) (sentence : Formula) : ℕ → Type 0 where
  -- 1: it doesn't begin with so many `exists`.
  no_quantifiers : ((query : OpenQuery) → Opens count sentence query → ⊥)
      → RefusedShape schema count sentence 1
  -- 2: it does, and there are more than 256 instances.
  too_many : (query : OpenQuery) → Opens count sentence query → 256 < instances schema query
      → RefusedShape schema count sentence 2
  -- 3: there aren't, and some instance can't be asked.
  not_asked : (query : OpenQuery) → Opens count sentence query → instances schema query ≤ 256
      → (number : ℕ) → number < instances schema query
      → (CanBeAsked schema (instance_of schema query number) → ⊥)
      → RefusedShape schema count sentence 3

-- Why a text isn't opened: it isn't a sentence; it is one that isn't opened; or memory is wanting.
pub data IsRefused (schema : DatabaseSchema) (count : ℕ) (text : Text)
    : OpenQueryError → Type 0 where
  no_sentence : (refusal : Refusal) → reading schema text ≡ Err refusal
      → IsRefused schema count text (errors.Text refusal)
  other_shape : (sentence : Formula) (number : ℕ) → reading schema text ≡ Ok sentence
      → RefusedShape schema count sentence number
      → IsRefused schema count text (errors.Shape number)
  no_memory : IsRefused schema count text errors.Memory
