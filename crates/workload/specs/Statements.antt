-- The facts of a workload.
use Rattle.std.specs.Prelude.{ℕ, ◌+◌, ◌*◌, List, [], ◌∷◌, ◌++◌, map, codes, decimal}
use Rattle.std.specs.List.{flat_map, range_with_len}
use Rattle.workload.specs.Draws.{drawn}
use Rattle.workload.specs.declared.statement.Statement.{Statement}
use Rattle.workload.specs.declared.statement.Statement.TheVariants.{Drug, Has}

-- a statement as text
abbrev pub statement_text : Statement → List ℕ
statement_text (Drug person) = codes "drug(p" ++ (decimal person ++ codes ")")
statement_text (Has person disease) =
    codes "has(p" ++ (decimal person ++ (codes ", d" ++ (decimal disease ++ codes ")")))

-- the illness of this number: a person that is drawn has a disease that is drawn
abbrev pub illness : ℕ → ℕ → Statement
illness seed n = Has (drawn seed (2 * n) 40) (drawn seed (2 * n + 1) 12)

-- the treatment of this number: a person that is drawn takes the drug, and has the first disease
abbrev pub treatment : ℕ → ℕ → List Statement
treatment seed n = Drug (drawn seed (600 + n) 40) ∷ Has (drawn seed (600 + n) 40) 0 ∷ []

-- so many illnesses
unfoldable pub illnesses : ℕ → ℕ → List Statement
illnesses seed count = map (illness seed) (range_with_len 0 count)

-- so many treatments
unfoldable pub treatments : ℕ → ℕ → List Statement
treatments seed count = flat_map (treatment seed) (range_with_len 0 count)

-- three hundred illnesses and twenty treatments
abbrev pub statements : ℕ → List Statement
statements seed = illnesses seed 300 ++ treatments seed 20

-- the lines of a facts file
abbrev pub facts_text : List Statement → List ℕ
facts_text all = flat_map (λ statement. statement_text statement ++ codes "\n") all
