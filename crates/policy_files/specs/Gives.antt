-- What a call gives of a step.
use Rattle.std.specs.Prelude.{◌≡◌, Result, Ok, Err}
use Rattle.policy_files.specs.declared.error.Stop.{Stop}
use Rattle.policy_files.specs.declared.error.Stop.TheVariants.{Refused, Memory}
use Rattle.policy_files.specs.Keys.{Step}

-- what stopped a call is the refusal of the step, unless memory is wanting
abbrev pub Refuses : {A : Type 0} → Stop → Step A → Type 0
Refuses Memory step = Unit {0}
Refuses (Refused why) step = step ≡ Err why

-- what a call returned, seen by view, is what the step gives, unless memory is wanting
abbrev pub Gives : {X A : Type 0} → (X → A) → Result X Stop → Step A → Type 0
Gives view (Ok x) step = step ≡ Ok (view x)
Gives view (Err stop) step = Refuses stop step
