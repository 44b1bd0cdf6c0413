use Rattle.std.proofs.Common.{[], ◌∷◌, refl, sym, ap, ◌∙◌, arith, rules, tests}
use Rattle.std.specs.List.{list_all}
use Rattle.std.proofs.lemmas.Bool.{and_from}
use Rattle.std.proofs.lemmas.Bool.Decides.{nat_tests}
use Rattle.std.proofs.lemmas.List.{nil_from_length}
use Rattle.std.proofs.lemmas.List.Folds.{list_all-append}
use Rattle.cqe_base.specs.Facts.{is_fact_of}
use Rattle.dossier.specs.Fields.{ended_parts}
use Rattle.dossier.specs.Words.{facts_in, with_first}
use Rattle.dossier.proofs.Spelling.{behind, behind-none, behind-more, behind-all}
use Rattle.dossier.proofs.listed.facts_in.Goals as goal

pub loop-rest-init : goal.loop-rest-init
loop-rest-init c =
    let read = facts_in c.args.schema.now (ended_parts 41 c.args.text.now) in
    record {
      is_text = search rules;
      facts = behind-none read ∙ ap (λ facts. behind facts read) (sym c.new-facts.ensures.items);
      of_schema = ap (list_all (is_fact_of c.args.schema.now)) c.new-facts.ensures.items;
    }

-- a part that states no fact
pub returns-in-None-clause-read : goal.returns-in-None-clause-read
returns-in-None-clause-read c =
    sym (c.loop-rest.invariant.facts
    ∙ ap (λ parts. behind c.loop-rest.facts.items (facts_in c.args.schema.now parts)) c.first_part.ensures.first
    ∙ ap (λ fact. behind c.loop-rest.facts.items (with_first fact (facts_in c.args.schema.now (ended_parts 41 c.first_part.result.1.now))))
    (sym c.in_ok-fact.ensures.fact ∙ c.in-None.is))

-- one more fact
pub loop-rest-preserved : goal.loop-rest-preserved
loop-rest-preserved c = record {
  is_text = search rules;
  facts = c.loop-rest.invariant.facts
      ∙ ap (λ parts. behind c.loop-rest.facts.items (facts_in c.args.schema.now parts)) c.first_part.ensures.first
      ∙ ap (λ fact. behind c.loop-rest.facts.items (with_first fact (facts_in c.args.schema.now (ended_parts 41 c.first_part.result.1.now))))
      (sym c.in_ok-fact.ensures.fact ∙ c.in-Some.is)
      ∙ behind-more c.loop-rest.facts.items c.in-Some.fact (facts_in c.args.schema.now (ended_parts 41 c.first_part.result.1.now))
      ∙ ap (λ facts. behind facts (facts_in c.args.schema.now (ended_parts 41 c.first_part.result.1.now))) (sym c.in_ok-push-in-Some.ensures.items);
  of_schema = ap (list_all (is_fact_of c.args.schema.now)) c.in_ok-push-in-Some.ensures.items
      ∙ list_all-append (is_fact_of c.args.schema.now) c.loop-rest.facts.items (c.in-Some.fact ∷ [])
      ∙ and_from _ _ c.loop-rest.invariant.of_schema (and_from _ _ (search (rules, tests)) refl);
}

pub loop-rest-smaller : goal.loop-rest-smaller
loop-rest-smaller c = omega (arith, c.first_part.ensures.less)

-- nothing is left
pub returns-clause-read : goal.returns-clause-read
returns-clause-read c =
    sym (c.loop-rest.invariant.facts
    ∙ ap (λ rest. behind c.loop-rest.facts.items (facts_in c.args.schema.now (ended_parts 41 rest)))
    (nil_from_length c.loop-rest.rest.now (grind (arith, nat_tests)))
    ∙ behind-all c.loop-rest.facts.items)
