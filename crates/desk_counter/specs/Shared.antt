-- A counter of any value.
use Rattle.std.specs.Prelude.{◌≡◌, Some}
use Rattle.turnstile.specs.declared.pass.Pass.{Pass}
use Rattle.turnstile.specs.Passes.{first_value, IsOf, IsReady, fixed}
use Rattle.desk_counter.specs.declared.counter.CounterOf.{CounterOf}

-- the pass is of this counter, isn't in a turn, and knows of its value what no turn changes, which
-- is what is kept of the first value
abbrev pub IsPassBy : {V I F : Type 0} {h : _} → (V → F) → Pass I F → CounterOf V I F h → Type 0
IsPassBy kept pass counter = IsOf pass counter.turnstile × IsReady pass
    × (fixed pass ≡ Some (kept (first_value counter.turnstile)))
