use Rattle.std.proofs.Common.{◌≡◌, map, take}
use Rattle.std.specs.Prelude.{string_bytes}
use Rattle.audit_print.specs.Said.{world_said}
use Rattle.dossier.proofs.listed.texts_of.Given as goal

abbrev pub invariant-loop-fact : goal.invariant-loop-fact
invariant-loop-fact l = map string_bytes l.texts.items ≡ world_said l.schema (take l.fact-index l.facts)
