-- What the facts of a workload state.
use Rattle.std.specs.Prelude.{ℕ, List, [], ◌∷◌, ◌++◌, map, codes, decimal, Option}
use Rattle.std.specs.List.{range_with_len}
use Rattle.cqe_base.specs.declared.world.Fact.{Fact}
use Rattle.cqe_base.specs.Schema.{Text, DatabaseSchema}
use Rattle.std.specs.FinSet as set
use Rattle.cqe_base.specs.Facts.{FactSet, fact_of}
use Rattle.cqe_base.specs.FactText.{stated_fact}
use Rattle.cqe_base.specs.Lines.{text_lines, content}
use Rattle.workload.specs.Statements.{statements}
use Rattle.workload.specs.declared.statement.Statement.{Statement}
use Rattle.workload.specs.declared.statement.Statement.TheVariants.{Drug, Has}

-- so many constants with numbers behind a letter
abbrev pub numbered : Text → ℕ → List Text
numbered letter count = map (λ n. letter ++ decimal n) (range_with_len 0 count)

-- twelve diseases and forty persons; who takes the drug, and who has which disease
abbrev pub workload_schema : DatabaseSchema
workload_schema = record {
  domains = record { name = codes "disease"; constants = numbered (codes "d") 12 }
      ∷ record { name = codes "person"; constants = numbered (codes "p") 40 } ∷ [];
  relations = record { name = codes "drug"; columns = 1 ∷ [] }
      ∷ record { name = codes "has"; columns = 1 ∷ 0 ∷ [] } ∷ [];
}

-- the fact that a statement means
abbrev pub meant_fact : Statement → Fact
meant_fact (Drug person) = fact_of 0 (person ∷ [])
meant_fact (Has person disease) = fact_of 1 (person ∷ disease ∷ [])

-- the facts that the lines of a facts file state, one after the other
abbrev pub stated_facts : List ℕ → List (Option Fact)
stated_facts bytes = map (λ line. stated_fact workload_schema (content line)) (text_lines bytes)

-- a world with these facts more
abbrev pub with_facts : FactSet → List Fact → FactSet
with_facts world [] = world
with_facts world (fact ∷ facts) = with_facts (set.insert world fact) facts

-- the database of a seed
abbrev pub workload_world : ℕ → FactSet
workload_world seed = with_facts set.empty (map meant_fact (statements seed))
