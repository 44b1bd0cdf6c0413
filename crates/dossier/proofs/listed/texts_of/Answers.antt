use Rattle.std.proofs.Common.{◌≡◌, true, ◌++◌, ◌∷◌, [], map, take, ap, sym, ◌∙◌, arith}
use Rattle.std.specs.Prelude.{string_bytes}
use Rattle.std.proofs.lemmas.List.{take_more, take_all, map-append}
use Rattle.std.proofs.lemmas.List.Elements.{All-get_or}
use Rattle.std.proofs.lemmas.List.Sums.{AllPass-from_list_all}
use Rattle.cqe_base.specs.Facts.{is_fact_of}
use Rattle.audit_print.specs.Said.{fact_text, world_said}
use Rattle.dossier.proofs.listed.texts_of.Goals as goal

pub loop-fact-init : goal.loop-fact-init
loop-fact-init c = ap (map string_bytes) c.new-texts.ensures.items

-- the fact is of the schema, as all are
pub fact_text-requires : goal.fact_text-requires
fact_text-requires c =
    let schema = c.args.schema.now in
    let facts = c.args.facts.now in
    All-get_or (λ f. is_fact_of schema f ≡ true) facts c.loop-fact.fact-index _ c.loop-fact-test.true
    (AllPass-from_list_all (is_fact_of schema) facts c.requires)

-- the text of one more fact
pub loop-fact-preserved : goal.loop-fact-preserved
loop-fact-preserved c =
    let schema = c.args.schema.now in
    let facts = c.args.facts.now in
    let so_far = take c.loop-fact.fact-index facts in
    ap (map string_bytes) c.in_ok-push.ensures.items
    ∙ map-append string_bytes c.loop-fact.texts.items (_ ∷ [])
    ∙ (λ i. c.loop-fact.invariant i ++ c.in_ok-fact_text.ensures i ∷ [])
    ∙ sym (map-append (fact_text schema) so_far (_ ∷ []))
    ∙ ap (world_said schema) (sym (take_more facts c.loop-fact.fact-index _ c.loop-fact-test.true))

-- all facts are told
pub returns : goal.returns
returns c =
    c.loop-fact.invariant
    ∙ ap (world_said c.args.schema.now) (take_all c.loop-fact.fact-index c.args.facts.now (omega (arith, c.loop-fact-test.false)))
