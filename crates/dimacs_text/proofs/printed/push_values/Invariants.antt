use Rattle.std.proofs.Common.{◌≡◌, ◌++◌, drop}
use Rattle.std.specs.Prelude.{string_bytes}
use Rattle.dimacs_text.specs.Printed.{values_text}
use Rattle.dimacs_text.proofs.printed.push_values.Given as goal

abbrev pub invariant-loop-variable : goal.invariant-loop-variable
invariant-loop-variable l = string_bytes l.text ++ values_text l.variable (drop l.variable l.signs) ≡ string_bytes l.initial.text ++ values_text 0 l.signs
