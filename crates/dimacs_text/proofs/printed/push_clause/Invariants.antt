use Rattle.std.proofs.Common.{◌≡◌, ◌++◌, drop}
use Rattle.std.specs.Prelude.{string_bytes}
use Rattle.dimacs_text.specs.Printed.{clause_text}
use Rattle.dimacs_text.proofs.printed.push_clause.Given as goal

abbrev pub invariant-loop-literal : goal.invariant-loop-literal
invariant-loop-literal l = string_bytes l.text ++ clause_text (drop l.literal-index l.clause) ≡ string_bytes l.initial.text ++ clause_text l.clause
