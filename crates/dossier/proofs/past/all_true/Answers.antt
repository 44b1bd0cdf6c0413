use Rattle.std.proofs.Common.{sym, ◌∙◌, arith}
use Rattle.std.proofs.lemmas.List.Folds.{list_all-map}
use Rattle.cqe_base.specs.declared.sentence.Sentence.{Sentence}
use Rattle.cqe_base.specs.Formula.{formula_of, is_sentence_of}
use Rattle.cqe_base.specs.Truth.{true_in}
use Rattle.dossier.proofs.Each.{passes-at}
use Rattle.dossier.proofs.Truths.{fails-here, passes-here, passes-all}
use Rattle.dossier.proofs.past.all_true.Goals as goal

pub holds-requires : goal.holds-requires
holds-requires c =
    passes-at formula_of c.args.sentences.now c.loop-sentence.sentence-index c.sentence-item.result c.sentence-item.is c.loop-sentence-test.true
    (is_sentence_of c.args.schema.now) c.requires

pub returns-then-not-holds : goal.returns-then-not-holds
returns-then-not-holds c =
    fails-here (λ (s : Sentence). true_in c.args.schema.now c.args.world.now (formula_of s)) c.args.sentences.now c.loop-sentence.sentence-index
    c.sentence-item.result c.sentence-item.is c.loop-sentence-test.true c.loop-sentence.invariant (sym c.holds.ensures ∙ c.if-not-holds.true)
    ∙ sym (list_all-map (true_in c.args.schema.now c.args.world.now) formula_of c.args.sentences.now)

pub loop-sentence-preserved : goal.loop-sentence-preserved
loop-sentence-preserved c =
    passes-here (λ (s : Sentence). true_in c.args.schema.now c.args.world.now (formula_of s)) c.args.sentences.now c.loop-sentence.sentence-index
    c.sentence-item.result c.sentence-item.is c.loop-sentence-test.true c.loop-sentence.invariant (sym c.holds.ensures ∙ c.if-not-holds.false)

pub returns : goal.returns
returns c =
    passes-all (λ (s : Sentence). true_in c.args.schema.now c.args.world.now (formula_of s)) c.args.sentences.now c.loop-sentence.sentence-index
    (omega (arith, c.loop-sentence-test.false)) c.loop-sentence.invariant
    ∙ sym (list_all-map (true_in c.args.schema.now c.args.world.now) formula_of c.args.sentences.now)
