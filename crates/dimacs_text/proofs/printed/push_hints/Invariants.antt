use Rattle.std.proofs.Common.{◌≡◌, ◌++◌, reverse}
use Rattle.std.specs.Prelude.{string_bytes}
use Rattle.dimacs_text.specs.Printed.{hints_text}
use Rattle.dimacs_text.proofs.printed.push_hints.Given as goal

abbrev pub invariant-loop-number : goal.invariant-loop-number
invariant-loop-number l =
    string_bytes l.text ++ hints_text (reverse l.number-iterator.iter.rest.now) ≡ string_bytes l.initial.text ++ hints_text (reverse l.chain)
