use Rattle.std.proofs.Common.{◌≡◌, ◌+◌, ◌++◌, drop, map}
use Rattle.std.specs.Prelude.{string_bytes}
use Rattle.clause_store.specs.PlainLines.{line_of}
use Rattle.dimacs_text.specs.Printed.{lrat_text}
use Rattle.dimacs_text.proofs.printed.push_lines.Given as goal

abbrev pub invariant-loop-place : goal.invariant-loop-place
invariant-loop-place l =
    string_bytes l.text ++ lrat_text (l.first + l.place) (map line_of (drop l.place l.lines))
    ≡ string_bytes l.initial.text ++ lrat_text l.first (map line_of l.lines)
