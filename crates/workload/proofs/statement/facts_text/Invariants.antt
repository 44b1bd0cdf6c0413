use Rattle.std.proofs.Common.{◌≡◌, ◌++◌, string_bytes, drop}
use Rattle.workload.specs.Statements.{facts_text}
use Rattle.workload.proofs.statement.facts_text.Given as goal

abbrev pub invariant-loop-statement : goal.invariant-loop-statement
invariant-loop-statement l = string_bytes l.text ++ facts_text (drop l.statement-index l.all) ≡ facts_text l.all
