-- What a dial in memory shows.
use Rattle.std.specs.Prelude.{ℕ, ◌+◌, List, map, string_bytes, Some}
use Rattle.outside.specs.Dials.{Exchange}
use Rattle.outside.specs.declared.memory_dial.Answered.{Answered}
use Rattle.outside.specs.declared.memory_dial.MemoryDial.{MemoryDial}

-- the exchange by which a frame at this address was answered one above that number
abbrev pub answered_at : List ℕ → List ℕ → ℕ → Exchange
answered_at address frame above =
    record { address = address; frame = frame; above = above; answer = Some (above + 1) }

-- the exchange at this address that was kept so
abbrev pub answered_by : List ℕ → Answered → Exchange
answered_by address one = answered_at address one.frame.items one.above

-- the address that it calls
abbrev pub dial_address : MemoryDial → List ℕ
dial_address dial = string_bytes dial.address

-- the name under which its faults are counted
abbrev pub dial_name : MemoryDial → List ℕ
dial_name dial = string_bytes dial.name

-- what it exchanged
abbrev pub dial_exchanged : MemoryDial → List Exchange
dial_exchanged dial = map (answered_by (dial_address dial)) dial.exchanges.items

-- the number that it was last answered
abbrev pub dial_answered : MemoryDial → ℕ
dial_answered dial = dial.answered

-- its count of faults
abbrev pub dial_faults : MemoryDial → ℕ
dial_faults dial = dial.faults
