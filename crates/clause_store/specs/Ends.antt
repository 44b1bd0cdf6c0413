-- Lists that stand in one list, one after the other, each known by where it ends.
use Rattle.std.specs.Prelude.{◌≡◌, ℕ, zero, suc, ◌≤◌, List, [], ◌∷◌, slice_range}

-- the parts up to these ends, the first of which starts at `from`
abbrev pub parts_from : {X : Type 0} → ℕ → List ℕ → List X → List (List X)
parts_from from [] xs = []
parts_from from (end ∷ ends) xs = slice_range xs from end ∷ parts_from end ends xs

-- no end is before the one in front of it, and the last is n
abbrev pub Ascends : ℕ → List ℕ → ℕ → Type 0
Ascends from [] n = from ≡ n
Ascends from (end ∷ ends) n = (from ≤ end) × Ascends end ends n

-- where the part of a number starts
abbrev pub start_of : ℕ → List ℕ → ℕ → ℕ
start_of from ends zero = from
start_of from [] (suc number) = from
start_of from (end ∷ ends) (suc number) = start_of end ends number
