-- What a worker keeps of his passes, whatever the value under the counters is.
use Rattle.std.specs.Prelude.{◌≡◌, ℕ, ◌<◌, ◌≤◌, List, length, slice_index_or, Some, All}
use Rattle.std.proofs.Props.{props}
use Rattle.cqe_base.specs.FormulaCode.{formula_set}
use Rattle.turnstile.specs.declared.pass.Pass.{Pass}
use Rattle.turnstile.specs.Passes.{seen, fixed}
use Rattle.desk_counter.specs.declared.item.TurnItem.{TurnItem}
use Rattle.desk_counter.specs.declared.item.Fixed.{Fixed}
use Rattle.desk_counter.specs.declared.counter.CounterOf.{CounterOf}
use Rattle.desk_counter.specs.Items.{history_of}
use Rattle.desk_counter.specs.Shared.{IsPassBy}
use Rattle.session_core.specs.Members.{HasSeenLegal}

-- at each place the pass is of the counter there
abbrev pub AtEach : {V I F : Type 0} {h : _} → (V → F) → List (Pass I F) → List (CounterOf V I F h)
    → Type 0
AtEach {V} {I} {F} {h} kept passes counters =
    (k : ℕ) (pass : Pass I F) (counter : CounterOf V I F h) → k < length passes
    → IsPassBy kept (slice_index_or passes k pass) (slice_index_or counters k counter)

-- the pass has seen no fewer entries than its desk had at the opening
abbrev pub HasSeenOpening : {D : Type 0} → Pass TurnItem (Fixed D) → Type 0
HasSeenOpening {D} pass = (desk : Fixed D) → fixed pass ≡ Some desk
    → length desk.opening ≤ length (history_of (seen pass))

-- what the pass has seen of its desk is legal
abbrev pub SeesLegally : {D : Type 0} → Pass TurnItem (Fixed D) → Type 0
SeesLegally {D} pass = (desk : Fixed D) → fixed pass ≡ Some desk → HasSeenLegal desk pass

-- which holds in one way
pub SeesLegally-prop : {D : Type 0} (passes : List (Pass TurnItem (Fixed D)))
    → IsProp (All SeesLegally passes)
SeesLegally-prop passes = hlevel (props, formula_set)
