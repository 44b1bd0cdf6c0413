-- What is said of the first secrets.
use Rattle.std.specs.Prelude.{◌≡◌, ◌<◌, ℕ, List, map, Option}
use Rattle.std.specs.List.{range_with_len}
use Rattle.cqe_base.specs.declared.world.Fact.{Fact}
use Rattle.cqe_base.specs.Schema.{DatabaseSchema, Text}
use Rattle.cqe_base.specs.Facts.{FactSet}
use Rattle.cqe_base.specs.History.{UserProfile}
use Rattle.audit_print.specs.Said.{IsListing, secret_said}

-- this is said of the first so many secrets, with the facts of their worlds in their order
pub record ListsAll (schema : DatabaseSchema) (user : UserProfile) (worlds : ℕ → Option FactSet)
    (count : ℕ) (said : List (Text × Option (List Text))) : Type 0 where
  pub listings : ℕ → Option (List Fact)
  pub listed : (k : ℕ) → k < count → IsListing (listings k) (worlds k)
  pub whole : said ≡ map (secret_said schema user listings) (range_with_len 0 count)
