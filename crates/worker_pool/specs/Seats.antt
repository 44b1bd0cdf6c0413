-- What workers drew.
use Rattle.std.specs.Prelude.{ℕ, List, [], ◌∷◌, ◌++◌}
use Rattle.worker_pool.specs.declared.pool.Seated.{Seated}
use Rattle.worker_pool.specs.Drawers.{drawn}

module _ {J O : Type 0} where
  -- the numbers that all of them drew
  abbrev pub draws : List (Seated J O) → List ℕ
  draws [] = []
  draws (seated ∷ others) = drawn seated.drawer ++ draws others
