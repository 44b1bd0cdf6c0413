-- A world that hides a secret.
use Rattle.std.specs.Prelude.{◌≡◌, ℕ, true, false, Contains}
use Rattle.cqe_base.specs.declared.user.Method.TheVariants.{Lying}
use Rattle.cqe_base.specs.Schema.{DatabaseSchema}
use Rattle.cqe_base.specs.Facts.{FactSet, IsWorldOf}
use Rattle.cqe_base.specs.Formula.{Formula}
use Rattle.cqe_base.specs.Truth.{true_in}
use Rattle.cqe_base.specs.Entailment.{all_hold_in}
use Rattle.cqe_base.specs.History.{UserProfile, History, secret_at, known, user_at}
use Rattle.cqe_base.specs.Censor.{IsLegal, admitted}
use Rattle.cqe_base.specs.Hiding.{RepliesAlike}

-- the other world is one of the schema; what the user knows is true there and the secret with this
-- number false, of those that he has at the end of his history, for lying every secret; it admits
-- him, his history is legal there, and each run that ends with it in a world that admits him gets
-- the same replies there
pub record HidesSecret (schema : DatabaseSchema) (user : UserProfile) (entries : History)
    (secret : ℕ) (other : FactSet) : Type 0 where
  pub of_schema : IsWorldOf schema other
  pub knowledge_true : all_hold_in schema other (known user) ≡ true
  pub secret_false : true_in schema other (secret_at (user_at user entries) secret) ≡ false
  pub all_false : user.method ≡ Lying → (s : Formula)
      → Contains (user_at user entries).secrets s → true_in schema other s ≡ false
  pub admits : admitted schema other user ≡ true
  pub legal : IsLegal schema other user entries
  pub same_replies : (world : FactSet) → admitted schema world user ≡ true
      → RepliesAlike schema user entries world other
