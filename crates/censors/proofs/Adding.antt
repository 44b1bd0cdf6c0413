-- What the probe of one more secret tells.
use Rattle.std.proofs.Common.{◌≡◌, true, List, ap, ◌∙◌}
use Rattle.cqe_base.specs.Schema.{DatabaseSchema}
use Rattle.cqe_base.specs.Formula.{Formula}
use Rattle.cqe_base.specs.Entailment.{Signed}
use Rattle.cqe_base.specs.Outcome.{Outcome, outcome, is_open}
use Rattle.cqe_base.specs.History.{UserProfile}
use Rattle.cqe_base.specs.Censor.{guarded_with, admission_budget, safe_with}

-- a secret is safe where the outcome of its probe is open
pub safe_by : (schema : DatabaseSchema) (user : UserProfile) (log : List Signed) (secret goal : Formula) (found : Outcome)
    → goal ≡ guarded_with user secret → found ≡ outcome schema log (goal, true) admission_budget
    → is_open found ≡ safe_with schema user log secret
unfolding safe_with
safe_by schema user log secret goal found guards told = ap is_open (told ∙ λ k. outcome schema log (guards k, true) admission_budget)
