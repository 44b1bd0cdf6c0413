-- What a source gives and what a sink takes.
use Rattle.std.specs.Prelude.{◌≡◌, ◌⊎◌, ℕ, ◌≤◌, ◌<◌, List, ◌++◌, length, take, drop}

-- The first n bytes of what was left went into the front of a piece.
pub record Moves (n : ℕ) (left left' piece piece' : List ℕ) : Type 0 where
  pub within : n ≤ length left
  pub rest : left' ≡ drop n left
  pub filled : piece' ≡ take n left ++ drop n piece

-- A part of the bytes was appended, and not all of them.
abbrev pub AppendsPart : List ℕ → List ℕ → List ℕ → Type 0
AppendsPart old new bytes = (n : ℕ) × (n < length bytes) × (new ≡ old ++ take n bytes)

-- The bytes were appended, or a part of them where this failed.
abbrev pub AppendsUnless : List ℕ → List ℕ → List ℕ → Type 0 → Type 0
AppendsUnless bytes old new failed = (new ≡ old ++ bytes) ⊎ (failed × AppendsPart old new bytes)
