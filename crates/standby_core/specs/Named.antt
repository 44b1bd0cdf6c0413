-- Things that have names.
use Rattle.std.specs.Prelude.{ℕ, List, [], ◌∷◌, Option, Some, None, bytes_eq, if◌then◌else◌}

-- the first of them with this name
abbrev pub first_named : {X : Type 0} → (X → List ℕ) → List X → List ℕ → Option X
first_named name [] wanted = None
first_named name (x ∷ xs) wanted =
    if bytes_eq (name x) wanted then Some x else first_named name xs wanted
