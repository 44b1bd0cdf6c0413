-- The worlds that were found, in memory.
use Rattle.std.specs.Prelude.{ℕ, min, List, Option, None, slice_index_or}
use Rattle.cqe_base.specs.declared.user.Method.{Method}
use Rattle.cqe_base.specs.declared.user.Method.TheVariants.{Lying, Refusal, Combined}
use Rattle.cqe_base.specs.Facts.{FactSet}

-- the place of the world that serves a secret: for a liar the first one serves all
abbrev pub place_at : Method → ℕ → ℕ
place_at Lying k = 0
place_at Refusal k = k
place_at Combined k = k

-- how many worlds serve so many secrets
abbrev pub worlds_for : Method → ℕ → ℕ
worlds_for Lying n = min n 1
worlds_for Refusal n = n
worlds_for Combined n = n

-- the world that serves a secret
abbrev pub found_at : Method → List (Option FactSet) → ℕ → Option FactSet
found_at method found k = slice_index_or found (place_at method k) None
