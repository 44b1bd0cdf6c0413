use Rattle.std.proofs.Common.{◌++◌, map, string_bytes, sym, ap, ◌∙◌}
use Rattle.std.specs.List.{list_all}
use Rattle.std.proofs.lemmas.Bool.{and_parts}
use Rattle.cqe_base.specs.Facts.{is_fact_of}
use Rattle.audit_print.specs.Said.{fact_text}
use Rattle.audit_print.proofs.Atoms.{all_listed}
use Rattle.audit_print.proofs.report.fact_texts.Goals as goal

pub loop-fact-init : goal.loop-fact-init
loop-fact-init c = record {
  texts = ap (λ l. map string_bytes l ++ map (fact_text c.args.schema.now) c.facts-facts.result) c.new-texts.ensures.items;
  good = all_listed c.args.schema.now c.args.world.now c.facts-facts.result c.requires c.facts-facts.ensures.facts;
}

pub fact_text-requires : goal.fact_text-requires
fact_text-requires c =
    (and_parts (is_fact_of c.args.schema.now c.in-Some.fact.now) (list_all (is_fact_of c.args.schema.now) c.next.new.self)
    (ap (list_all (is_fact_of c.args.schema.now)) (sym c.in-Some.ensures.steps) ∙ c.loop-fact.invariant.good)).0
