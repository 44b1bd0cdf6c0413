use Rattle.std.proofs.Common.{◌≤◌, nat_le, true, [], ◌∷◌, ◌++◌, All, map, subst, sym, ap, ◌∙◌}
use Rattle.std.proofs.lemmas.List.{map-append}
use Rattle.std.proofs.lemmas.List.Elements.{All-push}
use Rattle.std.proofs.lemmas.Bool.{leb-true}
use Rattle.cqe_base.specs.Formula.{formula_of, nodes, is_sentence_of}
use Rattle.entailment.specs.GroundSentences.{sentence_of, IsGroundOver}
use Rattle.censors.proofs.Probing.{each_passes, taken_more}
use Rattle.censors.proofs.guards.each_sentence.Goals as goal

pub new-requires-clause-sentence : goal.new-requires-clause-sentence
new-requires-clause-sentence c =
    ap (is_sentence_of c.args.schema.now) c.in_ok-copy.ensures
    ∙ each_passes formula_of (is_sentence_of c.args.schema.now) c.args.sentences.now c.loop-sentence.sentence-index c.sentence-item.result
    c.sentence-item.is c.loop-sentence-test.true c.requires.sentences

pub new-requires-clause-small : goal.new-requires-clause-small
new-requires-clause-small c =
    subst (λ s. nodes c.args.schema.now s ≤ 40000) (sym c.in_ok-copy.ensures)
    (leb-true _ 40000
    (each_passes formula_of (λ s. nat_le (nodes c.args.schema.now s) 40000) c.args.sentences.now c.loop-sentence.sentence-index
    c.sentence-item.result c.sentence-item.is c.loop-sentence-test.true c.requires.small))

pub loop-sentence-preserved : goal.loop-sentence-preserved
loop-sentence-preserved c =
    let made = c.loop-sentence.made.items in
    let one = c.in_ok-new.field-0 in
    let before = c.loop-sentence.invariant in
    record {
      same = ap (map sentence_of) c.in_ok-push.ensures.items ∙ map-append sentence_of made (one ∷ [])
          ∙ (λ k. before.same k ++ (ap formula_of c.in_ok-new.ensures.same ∙ c.in_ok-copy.ensures) k ∷ [])
          ∙ sym (taken_more formula_of c.args.sentences.now c.loop-sentence.sentence-index c.sentence-item.result c.sentence-item.is
          c.loop-sentence-test.true);
      grounded = subst (All (IsGroundOver c.args.schema.now)) (sym c.in_ok-push.ensures.items)
          (All-push (IsGroundOver c.args.schema.now) made one before.grounded c.in_ok-new.ensures.grounded);
    }
