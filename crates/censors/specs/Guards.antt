-- What guards are to their callers: sentences over a schema.
use Rattle.std.specs.Prelude.{List, refl}
use Rattle.std.specs.Coded.{Coded, code_by, coded_list, coded×}
use Rattle.cqe_base.specs.Schema.{DatabaseSchema}
use Rattle.cqe_base.specs.Formula.{Formula}
use Rattle.cqe_base.specs.FormulaCode.{formula_code}
use Rattle.entailment.specs.ViewCode.{schema_code}

-- the sentences that are guarded, with their ground formulas over this schema
pub record GuardedSentences : Type 0 where
  pub schema : DatabaseSchema
  pub sentences : List Formula

-- guards are stored as their schema and their sentences, for the checker alone
abbrev pub guards_code : Coded GuardedSentences
guards_code =
    code_by (DatabaseSchema × List Formula) (coded× schema_code (coded_list formula_code))
    (λ g. (g.schema, g.sentences)) (λ p. record { schema = p.0; sentences = p.1 }) (λ _. refl)
