use Rattle.std.proofs.Common.{◌≡◌, ◌++◌, drop}
use Rattle.std.specs.Prelude.{string_bytes}
use Rattle.std.specs.List.{flat_map}
use Rattle.dossier.specs.Written.{number_text}
use Rattle.dossier.proofs.printed.push_chain.Given as goal

abbrev pub invariant-loop-number : goal.invariant-loop-number
invariant-loop-number l =
    string_bytes l.text ++ flat_map number_text (drop l.number-index l.chain) ≡ string_bytes l.initial.text ++ flat_map number_text l.chain
