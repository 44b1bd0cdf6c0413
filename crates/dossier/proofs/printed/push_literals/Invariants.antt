use Rattle.std.proofs.Common.{◌≡◌, ◌++◌, drop}
use Rattle.std.specs.Prelude.{string_bytes}
use Rattle.std.specs.List.{flat_map}
use Rattle.dossier.specs.Written.{literal_text}
use Rattle.dossier.proofs.printed.push_literals.Given as goal

abbrev pub invariant-loop-literal : goal.invariant-loop-literal
invariant-loop-literal l =
    string_bytes l.text ++ flat_map literal_text (drop l.literal-index l.clause) ≡ string_bytes l.initial.text ++ flat_map literal_text l.clause
