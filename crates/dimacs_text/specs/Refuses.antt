-- What an error of a step says.
use Rattle.std.specs.Prelude.{◌≡◌, Err}
use Rattle.dimacs_text.specs.Dimacs.{Step}
use Rattle.dimacs_text.specs.declared.refusal.LineError.{LineError}
use Rattle.dimacs_text.specs.declared.refusal.LineError.TheVariants.{Refused, Memory}

-- an error is the refusal of a step, or want of memory
abbrev pub Refuses : Step → LineError → Type 0
Refuses step (Refused kind) = step ≡ Err kind
Refuses step Memory = Unit {0}
