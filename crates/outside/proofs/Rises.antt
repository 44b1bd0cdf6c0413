-- Counts of faults that rose.
use Rattle.std.proofs.Common.{inl, inr, ℕ, ◌≤◌, arith}
use Rattle.outside.specs.Faults.{Rose}

-- a count that rose within a longer time rose in it
pub rose_wide : (first before now last : ℕ) → first ≤ before → now ≤ last → Rose before now → Rose first last
rose_wide first before now last on more (inl some) = inl (omega (arith, some, on, more))
rose_wide first before now last on more (inr full) = inr (omega (arith, full, more))

-- a count that rose, rose from an earlier moment too
pub rose_since : (first before now : ℕ) → first ≤ before → Rose before now → Rose first now
rose_since first before now on rose = rose_wide first before now now on (omega arith) rose
