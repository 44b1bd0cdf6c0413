use Rattle.std.proofs.Common.{◌≡◌, ◌++◌, map, drop}
use Rattle.std.specs.Prelude.{string_bytes}
use Rattle.std.specs.List.{flat_map}
use Rattle.clause_store.specs.PlainLines.{line_of}
use Rattle.dossier.specs.Written.{refutation_line_text}
use Rattle.dossier.proofs.printed.push_lines.Given as goal

abbrev pub invariant-loop-line : goal.invariant-loop-line
invariant-loop-line l =
    string_bytes l.text ++ flat_map refutation_line_text (map line_of (drop l.line-index l.lines))
    ≡ string_bytes l.initial.text ++ flat_map refutation_line_text (map line_of l.lines)
