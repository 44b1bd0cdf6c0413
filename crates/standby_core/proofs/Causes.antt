-- Causes of a fault where two counts are one.
use Rattle.std.proofs.Common.{inl, inr, ℕ, ◌+◌, Result, arith}
use Rattle.outside.specs.Faults.{Rose, HasCause}

rose_beside : (before now beside : ℕ) → Rose before now → Rose (before + beside) (now + beside)
rose_beside before now beside (inl some) = inl (omega (arith, some))
rose_beside before now beside (inr full) = inr (omega (arith, full))

-- a call that raises the first count, beside a second that stays
pub cause_beside : {T E : Type 0} (before now beside : ℕ) (result : Result T E) → HasCause before now result
    → HasCause (before + beside) (now + beside) result
cause_beside before now beside result cause = record {
  later = omega (arith, cause.later);
  failed = λ is. rose_beside before now beside (cause.failed is);
}

rose_behind : (first before now : ℕ) → Rose before now → Rose (first + before) (first + now)
rose_behind first before now (inl some) = inl (omega (arith, some))
rose_behind first before now (inr full) = inr (omega (arith, full))

-- one that raises the second
pub cause_behind : {T E : Type 0} (first before now : ℕ) (result : Result T E) → HasCause before now result
    → HasCause (first + before) (first + now) result
cause_behind first before now result cause = record {
  later = omega (arith, cause.later);
  failed = λ is. rose_behind first before now (cause.failed is);
}
