-- Findings in memory, and what they say.
use Rattle.std.specs.Prelude.{List}
use Rattle.cqe_base.specs.Schema.{DatabaseSchema}
use Rattle.cqe_base.specs.Formula.{Formula}
use Rattle.cqe_base.specs.Entailment.{Signed}
use Rattle.cqe_base.specs.History.{UserProfile}
use Rattle.cqe_base.specs.Censor.{AreFindings}
use Rattle.censors.specs.declared.examination.Findings.{Findings}

-- the findings are those of the query for the user after the log
abbrev pub HasFindings : DatabaseSchema → UserProfile → List Signed → Formula → Findings → Type 0
HasFindings schema user log query found =
    AreFindings schema user log query found.spent found.implied found.yes_harm found.no_harm
