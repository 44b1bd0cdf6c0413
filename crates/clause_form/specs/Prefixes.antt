-- Lists that begin with another.
use Rattle.std.specs.Prelude.{◌≡◌, List, ◌++◌}

-- a list begins with all elements of another, in order
pub record BeginsWith {X : Type 0} (first xs : List X) : Type 0 where
  pub more : List X
  pub is : xs ≡ first ++ more
