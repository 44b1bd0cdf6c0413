use Rattle.std.proofs.Common.{sym, ap, ◌∙◌}
use Rattle.cqe_base.specs.Entailment.{all_hold_in, are_sentences_of}
use Rattle.cqe_base.proofs.Truths.{and_first}
use Rattle.entailment.specs.Probes.{premise_list, signed_at}
use Rattle.dossier.proofs.Truths.{hold-one, none-hold}
use Rattle.dossier.proofs.blocks.premise_holds.Goals as goal

pub signed_holds-requires : goal.signed_holds-requires
signed_holds-requires c =
    and_first _ _ (sym (ap (λ p. are_sentences_of c.args.schema.now (premise_list p)) c.in-Some.is) ∙ c.requires)

pub returns-in-Some : goal.returns-in-Some
returns-in-Some c =
    c.signed_holds.ensures ∙ sym (hold-one c.args.schema.now c.args.world.now (signed_at c.in-Some.signed))
    ∙ ap (λ p. all_hold_in c.args.schema.now c.args.world.now (premise_list p)) (sym c.in-Some.is)

pub returns-in-None : goal.returns-in-None
returns-in-None c =
    sym (none-hold c.args.schema.now c.args.world.now)
    ∙ ap (λ p. all_hold_in c.args.schema.now c.args.world.now (premise_list p)) (sym c.in-None.is)
