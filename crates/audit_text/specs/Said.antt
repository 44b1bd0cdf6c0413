-- What an audit says of a user.
use Rattle.std.specs.Prelude.{List, Option}
use Rattle.cqe_base.specs.declared.user.Mark.{Mark}
use Rattle.cqe_base.specs.Schema.{Text}

-- a secrecy, with the facts of another world where it is true and of one where it is false, where
-- there is one
pub record SecrecySaid : Type 0 where
  pub secrecy : Text
  pub where_true : Option (List Text)
  pub where_false : Option (List Text)

-- his name, the words of his method and standing, his items by mark and sentence, his secrecies, if
-- he has any, and each other secret with the facts of its other world, if there is one; of a user
-- who isn't served there is nothing in any of the lists
pub record AuditSaid : Type 0 where
  pub name : Text
  pub method : Text
  pub standing : Text
  pub entries : List (Mark × Text)
  pub secrecies : Option (List SecrecySaid)
  pub secrets : List (Text × Option (List Text))
