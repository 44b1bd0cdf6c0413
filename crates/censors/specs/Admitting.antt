-- The first test of an admission that fails.
use Rattle.std.specs.Prelude.{ℕ, ◌+◌, true, not, List, [], ◌∷◌, Option, Some, None, option_map}
use Rattle.std.specs.Prelude.{position, unwrap_or}
use Rattle.std.specs.Option.{option_or}
use Rattle.cqe_base.specs.declared.user.Method.{Method}
use Rattle.cqe_base.specs.declared.user.Method.TheVariants.{Lying, Refusal, Combined}
use Rattle.cqe_base.specs.Schema.{DatabaseSchema}
use Rattle.cqe_base.specs.Facts.{FactSet}
use Rattle.cqe_base.specs.Formula.{Formula}
use Rattle.cqe_base.specs.Truth.{true_in}
use Rattle.cqe_base.specs.Entailment.{Signed}
use Rattle.cqe_base.specs.Outcome.{Outcome, Follows, Open, Spent, outcome}
use Rattle.cqe_base.specs.History.{UserProfile, known, disjunction_of}
use Rattle.cqe_base.specs.Censor.{admission_budget}
use Rattle.censors.specs.declared.admittance.Admission.{Admission}
use Rattle.censors.specs.declared.admittance.Admission.TheVariants as admission

-- what the outcome of the probe with this number says against an admission, if anything
abbrev pub objection_by : Outcome → Option ℕ → Option Admission
objection_by Follows number = Some (admission.Implied number)
objection_by Open number = None
objection_by Spent number = Some (admission.Spent number)

-- what the probe of the premises against a sentence says
abbrev pub probe_objection : DatabaseSchema → List Signed → Formula → Option ℕ → Option Admission
probe_objection schema premises sentence number =
    objection_by (outcome schema premises (sentence, true) admission_budget) number

-- what the first of the probes against the secrets from this number on says, of those that say
-- something
abbrev pub secrets_objection : DatabaseSchema → List Signed → ℕ → List Formula → Option Admission
secrets_objection schema premises k [] = None
secrets_objection schema premises k (secret ∷ secrets) =
    option_or (probe_objection schema premises secret (Some k))
    (secrets_objection schema premises (k + 1) secrets)

-- what the first of the sentences that is false in the world says
abbrev pub truth_objection : DatabaseSchema → FactSet → List Formula → Option Admission
truth_objection schema world sentences =
    option_map admission.KnowFalse (position (λ s. not (true_in schema world s)) sentences)

-- what the first test of the method that fails says: for lying the probe of what is known against
-- the disjunction of the secrets;
-- for the others those against each secret, and for refusal before them the truth of what is known
abbrev pub objection_of : Method → DatabaseSchema → FactSet → List Formula → List Signed
    → List Formula → Option Admission
objection_of Lying schema world know premises secrets =
    probe_objection schema premises (disjunction_of secrets) None
objection_of Refusal schema world know premises secrets =
    option_or (truth_objection schema world know) (secrets_objection schema premises 0 secrets)
objection_of Combined schema world know premises secrets =
    secrets_objection schema premises 0 secrets

-- the first test of the user's admission that fails, or Open
abbrev pub admission_of : DatabaseSchema → FactSet → UserProfile → Admission
admission_of schema world user =
    unwrap_or (objection_of user.method schema world user.know (known user) user.secrets)
    admission.Open
