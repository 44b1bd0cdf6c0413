use Rattle.std.proofs.Common.{◌≡◌, true, length}
use denote.Text.{Utf8}
use denote.Shadow.{shadow}
use Rattle.std.specs.List.{list_all}
use Rattle.cqe_base.specs.Facts.{is_fact_of}
use Rattle.dossier.specs.Fields.{ended_parts}
use Rattle.dossier.specs.Words.{facts_in}
use Rattle.dossier.proofs.Spelling.{behind}
use Rattle.dossier.proofs.listed.facts_in.Given as goal

-- the facts so far are of the schema, and those of the other parts stand behind them
abbrev pub invariant-loop-rest : goal.invariant-loop-rest
invariant-loop-rest l = record {
  is_text : shadow (Utf8 l.rest);
  facts : facts_in l.schema (ended_parts 41 l.text) ≡ behind l.facts.items (facts_in l.schema (ended_parts 41 l.rest));
  of_schema : list_all (is_fact_of l.schema) l.facts.items ≡ true;
}

abbrev pub decreases-loop-rest : goal.decreases-loop-rest
decreases-loop-rest l = length l.rest
