use Rattle.std.proofs.Common.{◌≡◌, ◌++◌, map, drop, string_bytes}
use Rattle.audit_text.specs.Text.{more_facts}
use Rattle.audit_text.proofs.lines.push_more.Given as goal

abbrev pub invariant-loop-fact : goal.invariant-loop-fact
invariant-loop-fact l =
    string_bytes l.text ++ more_facts (map string_bytes (drop l.fact-index l.facts)) ≡ string_bytes l.fn.text ++ more_facts (map string_bytes l.facts)
