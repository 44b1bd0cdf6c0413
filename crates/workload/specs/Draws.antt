-- The numbers that are drawn from a seed.
use Rattle.std.specs.Prelude.{ℕ, zero, suc, ◌+◌, ◌*◌, ◌/◌, ◌%◌}
use Rattle.workload.specs.declared.draws.Draws.{Draws}

-- the state behind a state
abbrev pub next_state : ℕ → ℕ
next_state state = (1103515245 * state + 12345) % 2147483648

-- the state after so many draws
unfoldable pub state_after : ℕ → ℕ → ℕ
state_after seed zero = seed % 2147483648
state_after seed (suc n) = next_state (state_after seed n)

-- the number below a bound that a state gives
abbrev pub number_of : ℕ → ℕ → ℕ
number_of bound state = (state / 65536) % bound

-- the draw of this number, counted from 0, below a bound
abbrev pub drawn : ℕ → ℕ → ℕ → ℕ
drawn seed n bound = number_of bound (state_after seed (n + 1))

-- the state of what draws
abbrev pub state_of : Draws → ℕ
state_of draws = draws.state
