-- Whose the values under counters are.
use Rattle.std.specs.Prelude.{List, map}
use Rattle.cqe_base.specs.History.{UserProfile}
use Rattle.turnstile.specs.Passes.{first_value}
use Rattle.desk_counter.specs.declared.counter.CounterOf.{CounterOf}

-- the owners of the values under the counters, in order
abbrev pub owners_by : {V I F : Type 0} {h : _} → (V → UserProfile) → List (CounterOf V I F h)
    → List UserProfile
owners_by owner counters = map (λ counter. owner (first_value counter.turnstile)) counters
