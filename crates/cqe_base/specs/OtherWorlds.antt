-- Which worlds are alike for a user: those in which his log is true and a guarded sentence false.
use Rattle.std.specs.Prelude.{◌≡◌, ℕ, true, false, List, Contains}
use Rattle.cqe_base.specs.Schema.{DatabaseSchema, is_valid_schema}
use Rattle.cqe_base.specs.Facts.{FactSet}
use Rattle.cqe_base.specs.Formula.{Formula}
use Rattle.cqe_base.specs.Truth.{true_in}
use Rattle.cqe_base.specs.Entailment.{IsCountermodel}
use Rattle.cqe_base.specs.History.{UserProfile, History, secret_at, user_at, log, disjunction_of}
use Rattle.cqe_base.specs.History.{is_user_of, is_history_of}
use Rattle.cqe_base.specs.Censor.{guarded, guard_by, entails_some, IsLegal, IsAdmissible, admitted}
use Rattle.cqe_base.specs.Hiding.{RepliesAlike, IsAlike}

-- what is guarded in the place of the secret with this number
abbrev pub guard_at : UserProfile → ℕ → Formula
guard_at user k = guard_by user.method user.secrets (secret_at user k)

-- the history is legal for some world in which the user is admitted
pub record IsLegalSomewhere (schema : DatabaseSchema) (user : UserProfile) (entries : History) :
    Type 0 where
  pub world : FactSet
  pub admits : admitted schema world user ≡ true
  pub legal : IsLegal schema world user entries

-- the log of a legal history of an admissible user, both of a valid schema, entails no sentence
-- that is guarded at its end
abbrev pub LogsKeepSecrets : Type 0
LogsKeepSecrets =
    (schema : DatabaseSchema) (world : FactSet) (user : UserProfile) (entries : History)
    → is_valid_schema schema ≡ true → is_user_of schema user ≡ true
    → is_history_of schema entries ≡ true
    → IsAdmissible schema world user → IsLegal schema world user entries
    → entails_some schema (log user entries) (guarded (user_at user entries)) ≡ false

-- each world in which the log of a legal history of an admitted user is true, and a sentence false
-- that is guarded at its end, is alike
abbrev pub CountermodelsAreAlike : Type 0
CountermodelsAreAlike =
    (schema : DatabaseSchema) (world : FactSet) (user : UserProfile) (entries : History)
    (goal : Formula) (other : FactSet)
    → admitted schema world user ≡ true → IsLegal schema world user entries
    → Contains (guarded (user_at user entries)) goal
    → IsCountermodel schema (log user entries) (goal, true) other
    → IsAlike schema user entries world other

-- where a second world admits the user as a first does, and a history is legal in it, each run that
-- ends in the first with this history gets the same replies in the second
abbrev pub LegalEntriesReplyAlike : Type 0
LegalEntriesReplyAlike =
    (schema : DatabaseSchema) (user : UserProfile) (entries : History) (world other : FactSet)
    → admitted schema other user ≡ admitted schema world user → IsLegal schema other user entries
    → RepliesAlike schema user entries world other

-- where a disjunction is false, each of its sentences is
abbrev pub FalseDisjunctions : Type 0
FalseDisjunctions =
    (schema : DatabaseSchema) (world : FactSet) (sentences : List Formula)
    → true_in schema world (disjunction_of sentences) ≡ false
    → (sentence : Formula) → Contains sentences sentence → true_in schema world sentence ≡ false
