-- What is kept of a user between his asks.
use Rattle.std.specs.Prelude.{◌≡◌, ℕ, List, sum_by}
use Rattle.cqe_base.specs.Schema.{DatabaseSchema}
use Rattle.cqe_base.specs.Facts.{FactSet}
use Rattle.cqe_base.specs.Entailment.{Signed}
use Rattle.cqe_base.specs.History.{UserProfile, History, log, user_at, view_size}
use Rattle.cqe_base.specs.Censor.{IsLegal, guarded}
use Rattle.cqe_base.specs.FormulaCode.{formula_set}
use Rattle.std.proofs.Props.{props}
use Rattle.cqe_base.specs.Limits.{KeepsLimits, KeepsSizes}
use Rattle.censors.specs.Guards.{GuardedSentences}

-- the log and the sizes are those of the items, which are legal and came within the limits
pub record IsConsistentLog (schema : DatabaseSchema) (world : FactSet) (user : UserProfile)
    (entries : History) (log_schema : DatabaseSchema) (log_kept : List Signed)
    (text_bytes view_nodes : ℕ) : Type 0 where
  pub limits : KeepsLimits schema user
  pub schema_is : log_schema ≡ schema
  pub log_is : log_kept ≡ log user entries
  pub text_is : text_bytes ≡ sum_by (λ entry. entry.length) entries
  pub nodes_are : view_nodes ≡ view_size schema user entries
  pub legal : IsLegal schema world user entries
  pub sizes : KeepsSizes schema user entries

-- a fact that holds in one way
pub IsConsistentLog-prop : (schema : DatabaseSchema) (world : FactSet) (user : UserProfile)
    (entries : History) (log_schema : DatabaseSchema) (log_kept : List Signed)
    (text_bytes view_nodes : ℕ)
    → IsProp (IsConsistentLog schema world user entries log_schema log_kept text_bytes view_nodes)
IsConsistentLog-prop schema world user entries log_schema log_kept text_bytes view_nodes =
    hlevel (props, formula_set)

-- the guards are over the schema, and what is guarded from the user
pub record AreGuardsOf (schema : DatabaseSchema) (user : UserProfile) (guards : GuardedSentences) :
    Type 0 where
  pub schema_is : guards.schema ≡ schema
  pub guarded_are : guards.sentences ≡ guarded user

-- a fact that holds in one way
pub AreGuardsOf-prop : (schema : DatabaseSchema) (user : UserProfile) (guards : GuardedSentences)
    → IsProp (AreGuardsOf schema user guards)
AreGuardsOf-prop schema user guards = hlevel (props, formula_set)

-- this is the user as he is at the end of the items, and the guards are his as he is then
pub record IsAmended (schema : DatabaseSchema) (user : UserProfile) (entries : History)
    (current : UserProfile) (guards : GuardedSentences) : Type 0 where
  pub current_is : current ≡ user_at user entries
  pub guarding : AreGuardsOf schema current guards

-- a fact that holds in one way
pub IsAmended-prop : (schema : DatabaseSchema) (user : UserProfile) (entries : History)
    (current : UserProfile) (guards : GuardedSentences)
    → IsProp (IsAmended schema user entries current guards)
IsAmended-prop schema user entries current guards = hlevel (props, formula_set)

-- a fact that holds in one way
pub KeepsLimits-prop : (schema : DatabaseSchema) (user : UserProfile)
    → IsProp (KeepsLimits schema user)
KeepsLimits-prop schema user = hlevel (props, formula_set)
