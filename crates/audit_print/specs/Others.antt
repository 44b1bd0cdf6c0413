-- The other worlds of an audit: one for each secret, by its number.
use Rattle.std.specs.Prelude.{◌≡◌, ◌<◌, ◌↔◌, ℕ, ◌+◌, ◌*◌, true, length, Option, IfSome, IsNone}
use Rattle.cqe_base.specs.declared.user.Method.TheVariants.{Lying}
use Rattle.cqe_base.specs.Schema.{DatabaseSchema}
use Rattle.cqe_base.specs.Facts.{FactSet}
use Rattle.cqe_base.specs.Truth.{true_in}
use Rattle.cqe_base.specs.Outcome.{Spent, outcome}
use Rattle.cqe_base.specs.History.{UserProfile, History, log, user_at}
use Rattle.cqe_base.specs.Censor.{admission_budget}
use Rattle.cqe_base.specs.OtherWorlds.{guard_at}
use Rattle.cqe_base.specs.Secrecies.{secrecy_at}
use Rattle.two_worlds.specs.Others.{HidesSecret}

-- a world that hides the secret, or none, exactly where the machine is spent at the admission
-- budget
pub record IsOther (schema : DatabaseSchema) (user : UserProfile) (entries : History) (secret : ℕ)
    (other : Option FactSet) : Type 0 where
  pub hides : IfSome other (HidesSecret schema user entries secret)
  pub spent : IsNone other
      ↔ (outcome schema (log user entries) (guard_at (user_at user entries) secret, true)
      admission_budget ≡ Spent)

-- each secret of the user at the end of his history has its other world; a liar has one world for
-- all secrets; and each secrecy is true in the other world of its negation
pub record AreOthers (schema : DatabaseSchema) (user : UserProfile) (entries : History)
    (worlds : ℕ → Option FactSet) : Type 0 where
  pub each : (secret : ℕ) → secret < length (user_at user entries).secrets
      → IsOther schema user entries secret (worlds secret)
  pub one : user.method ≡ Lying → (j k : ℕ) → worlds j ≡ worlds k
  pub secrecy_true : (k : ℕ) → k < user.pairs
      → IfSome (worlds (2 * k + 1))
      (λ other. true_in schema other (secrecy_at (user_at user entries) k) ≡ true)
