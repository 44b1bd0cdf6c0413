-- Why a call that reads facts fails.
use Rattle.std.specs.Prelude.{◌≡◌, ◌⊎◌, Result, Err}
use Rattle.cqe_base.specs.Facts.{FactSet}
use Rattle.policy_files.specs.declared.error.FactsError.{FactsError}
use Rattle.policy_files.specs.declared.error.FactsError.TheVariants.{Memory}

-- memory is wanting, or the facts are refused so
abbrev pub IsRefusal : Result FactSet FactsError → FactsError → Type 0
IsRefusal read why = (why ≡ Memory) ⊎ (read ≡ Err why)
