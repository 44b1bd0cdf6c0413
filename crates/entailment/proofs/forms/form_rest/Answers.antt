use Rattle.std.proofs.Common.{map, take, refl, sym, ap, ◌∙◌, arith}
use Rattle.std.proofs.lemmas.List.{map-append}
use Rattle.cqe_base.specs.Outcome.{grounded_signed}
use Rattle.clause_form.specs.Forms.{form_of}
use Rattle.entailment.specs.Logs.{told_log}
use Rattle.entailment.specs.Forms.{form_of_log}
use Rattle.entailment.proofs.LogItems.{item-sentence, item-small, item-more, nodes-before}
use Rattle.entailment.proofs.LogForms.{variables-few}
use Rattle.entailment.proofs.forms.form_rest.Goals as goal

pub add_sentence-requires-clause-sentence : goal.add_sentence-requires-clause-sentence
add_sentence-requires-clause-sentence c =
    item-sentence c.args.schema.now c.args.log.now c.loop-number.number c.index-log-number.result c.loop-number-test.true c.index-log-number.is
    c.requires.small

pub add_sentence-requires-clause-small : goal.add_sentence-requires-clause-small
add_sentence-requires-clause-small c =
    let small = item-small c.args.schema.now c.args.log.now c.loop-number.number c.index-log-number.result c.loop-number-test.true c.index-log-number.is
    c.requires.small in
    omega arith

pub add_sentence-requires-clause-room : goal.add_sentence-requires-clause-room
add_sentence-requires-clause-room c =
    let small = item-small c.args.schema.now c.args.log.now c.loop-number.number c.index-log-number.result c.loop-number-test.true c.index-log-number.is
    c.requires.small in
    let before = nodes-before c.args.schema.now (told_log c.args.log.now) c.loop-number.number c.requires.small in
    let few = variables-few c.law_variables_are_few.ensures c.law_grounded_nodes.ensures c.args.schema.now
    (take c.loop-number.number (told_log c.args.log.now)) c.loop-number.former c.loop-number.invariant.form in
    omega arith

pub loop-number-preserved : goal.loop-number-preserved
loop-number-preserved c =
    let from = c.loop-number.invariant.from in
    let before = take c.loop-number.number (told_log c.args.log.now) in
    record {
      from = omega arith;
      formed = refl;
      form = c.in_ok-add_sentence.ensures.added (map (grounded_signed c.args.schema.now) before) c.loop-number.invariant.form
          ∙ ap form_of (sym (map-append (grounded_signed c.args.schema.now) before _))
          ∙ ap (form_of_log c.args.schema.now)
          (sym (item-more c.args.log.now c.loop-number.number c.index-log-number.result c.loop-number-test.true c.index-log-number.is));
    }
