-- What a policy says.
use Rattle.std.specs.Prelude.{ℕ, List, Option}
use Rattle.cqe_base.specs.Schema.{Text, DatabaseSchema}
use Rattle.cqe_base.specs.History.{UserProfile}

-- a user of a policy: his name, his profile, and the SHA-256 of his pass phrase, if he may log in
pub record PolicyUser : Type 0 where
  pub name : Text
  pub profile : UserProfile
  pub token : Option (List ℕ)

-- a policy: the schema of the database, and the users in their order
pub record PolicyValue : Type 0 where
  pub schema : DatabaseSchema
  pub users : List PolicyUser
