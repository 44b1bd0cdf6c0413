-- What is left of bytes.
use Rattle.std.specs.Prelude.{◌≡◌, ℕ, List, ◌++◌}

-- the bytes end with these
pub record EndsWith (bytes end : List ℕ) : Type 0 where
  pub front : List ℕ
  pub whole : bytes ≡ front ++ end

-- Of the bytes that were left before these are left now: whatever ended with those ends with these,
-- so only bytes in front were taken.
abbrev pub IsRest : (before now : List ℕ) → Type 0
IsRest before now = (bytes : List ℕ) → EndsWith bytes before → EndsWith bytes now
