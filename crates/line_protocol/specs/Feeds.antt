-- Where line feeds stand.
use Rattle.std.specs.Prelude.{◌≡◌, ◌≢◌, ℕ, ◌<◌, List, length, slice_index}

-- no line feed stands among the first n bytes
abbrev pub HasNoFeedBelow : ℕ → List ℕ → Type 0
HasNoFeedBelow n bytes = (k : ℕ) → k < n → slice_index bytes k ≢ 10

-- the first line feed of the bytes stands at n, counted from 0
pub record HasFeedAt (n : ℕ) (bytes : List ℕ) : Type 0 where
  pub within : n < length bytes
  pub feed : slice_index bytes n ≡ 10
  pub first : HasNoFeedBelow n bytes
