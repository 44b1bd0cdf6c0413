-- Why a line adds nothing.
use Rattle.std.specs.Prelude.{◌≡◌, Result, Err}
use Rattle.cqe_base.specs.declared.text.ScriptKind.{ScriptKind}
use Rattle.script_lines.specs.declared.error.LineError.{LineError}
use Rattle.script_lines.specs.declared.error.LineError.TheVariants.{Refused, Memory}

-- an error is the refusal of a step, or want of memory
abbrev pub Refuses : {A : Type 0} → Result A ScriptKind → LineError → Type 0
Refuses step (Refused kind) = step ≡ Err kind
Refuses step Memory = Unit {0}
