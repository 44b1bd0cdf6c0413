-- What a door gives and gets back.
use Rattle.std.specs.Prelude.{ℕ, Bool, List, Option, Some, None, Result, Ok, Err, ◌==◌}
use Rattle.std.specs.Prelude.{if◌then◌else◌}

-- A finished connection: all bytes that came in, what was written, and of each end whether its
-- count of faults is 0.
pub record Visit : Type 0 where
  pub held : List ℕ
  pub written : List ℕ
  pub source_whole : Bool
  pub sink_whole : Bool

-- An address at which links listened, and how many doors they opened there.
pub record DoorPlace : Type 0 where
  pub address : List ℕ
  pub doors : ℕ

-- the place with this address and so many doors
abbrev pub door_place_of : List ℕ → ℕ → DoorPlace
door_place_of address doors = record { address = address; doors = doors }

-- the visit of two ends, by what the source held, what the sink has written, and the counts of both
abbrev pub visit_of : List ℕ → List ℕ → ℕ → ℕ → Visit
visit_of held written source_faults sink_faults =
    record {
      held =
          held;
      written = written;
      source_whole = source_faults == 0;
      sink_whole = sink_faults == 0;
    }

-- one where a count isn't 0, else none
abbrev pub one_if_any : ℕ → ℕ
one_if_any count = if count == 0 then 0 else 1

-- how many connections came with this answer: one or none
abbrev pub came : {T E : Type 0} → Result (Option T) E → ℕ
came (Ok (Some ends)) = 1
came (Ok None) = 0
came (Err why) = 0

-- where a connection came, this holds of its ends
abbrev pub IfCame : {S K E : Type 0} → Result (Option (S × K)) E → (S → K → Type 0) → Type 0
IfCame (Ok (Some ends)) holds = holds ends.0 ends.1
IfCame (Ok None) holds = Unit {0}
IfCame (Err why) holds = Unit {0}

-- unless a connection came, this holds
abbrev pub UnlessCame : {T E : Type 0} → Result (Option T) E → Type 0 → Type 0
UnlessCame (Ok (Some ends)) holds = Unit {0}
UnlessCame (Ok None) holds = holds
UnlessCame (Err why) holds = holds

-- where no further connection comes, this holds
abbrev pub OnEnd : {T E : Type 0} → Result (Option T) E → Type 0 → Type 0
OnEnd (Ok (Some ends)) holds = Unit {0}
OnEnd (Ok None) holds = holds
OnEnd (Err why) holds = Unit {0}

-- unless no further connection comes, this holds
abbrev pub UnlessEnd : {T E : Type 0} → Result (Option T) E → Type 0 → Type 0
UnlessEnd (Ok (Some ends)) holds = holds
UnlessEnd (Ok None) holds = Unit {0}
UnlessEnd (Err why) holds = holds
