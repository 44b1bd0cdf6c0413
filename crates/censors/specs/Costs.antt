-- Queries of which some probe costs more than the budget.
use Rattle.std.specs.Prelude.{◌≡◌, ◌↔◌, true, List}
use Rattle.std.specs.List.{Any}
use Rattle.cqe_base.specs.declared.user.Mark.TheVariants.{Undecided}
use Rattle.cqe_base.specs.Schema.{DatabaseSchema}
use Rattle.cqe_base.specs.Facts.{FactSet}
use Rattle.cqe_base.specs.Formula.{Formula}
use Rattle.cqe_base.specs.Entailment.{Signed}
use Rattle.cqe_base.specs.History.{UserProfile}
use Rattle.cqe_base.specs.Censor.{Probe, probes, rule}
use Rattle.entailment.specs.Budgets.{CostsMore}
use Rattle.censors.specs.declared.examination.Findings.{Findings}

-- the search of the probe costs more than the user's budget
abbrev pub ProbeCostsMore : DatabaseSchema → UserProfile → Probe → Type 0
ProbeCostsMore schema user probe = CostsMore schema probe.premises probe.goal user.budget

-- that of some probe of the query does
abbrev pub QueryCostsMore : DatabaseSchema → UserProfile → List Signed → Formula → Type 0
QueryCostsMore schema user log query = Any (ProbeCostsMore schema user) (probes user log query)

-- the findings are spent exactly where some probe of the query costs more than the user's budget
abbrev pub AreSpentByCost : DatabaseSchema → UserProfile → List Signed → Formula → Findings → Type 0
AreSpentByCost schema user log query found =
    (found.spent ≡ true) ↔ QueryCostsMore schema user log query

-- in any world, the rule gives undecided exactly where some probe of the query costs more than the
-- user's budget
abbrev pub UndecidedIsCost : Type 0
UndecidedIsCost =
    (schema : DatabaseSchema) (world : FactSet) (user : UserProfile) (log : List Signed)
    (query : Formula)
    → (rule schema world user log query ≡ Undecided) ↔ QueryCostsMore schema user log query

-- in any world, the rule gives undecided exactly where the findings are spent
abbrev pub DecideUndecided : DatabaseSchema → UserProfile → List Signed → Formula → Findings
    → Type 0
DecideUndecided schema user log query found =
    (world : FactSet) → (rule schema world user log query ≡ Undecided) ↔ (found.spent ≡ true)
