use Rattle.std.proofs.Common.{◌≡◌, ◌++◌, true, map, string_bytes}
use Rattle.std.specs.List.{list_all}
use Rattle.cqe_base.specs.Facts.{is_fact_of}
use Rattle.audit_print.specs.Said.{fact_text}
use Rattle.audit_print.proofs.report.fact_texts.Given as goal

abbrev pub invariant-loop-fact : goal.invariant-loop-fact
invariant-loop-fact l = record {
  texts : map string_bytes l.texts.items ++ map (fact_text l.schema) l.facts ≡ map (fact_text l.schema) l.initial.facts;
  good : list_all (is_fact_of l.schema) l.facts ≡ true;
}
