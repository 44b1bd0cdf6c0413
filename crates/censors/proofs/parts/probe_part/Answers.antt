use Rattle.std.proofs.Common.{◌+◌, ◌∙◌, map, length, true, false, sym, ap, subst, arith}
use Rattle.entailment.specs.Views.{LogView}
use Rattle.entailment.specs.GroundSentences.{sentence_of}
use Rattle.censors.specs.Parts.{yes_before, no_before, CanBeAskedAt}
use Rattle.censors.proofs.Parting.{start-rises, start-within, answer_at}
use Rattle.censors.proofs.parts.probe_part.Goals as goal

pub implied_in-requires-clause-sentence : goal.implied_in-requires-clause-sentence
implied_in-requires-clause-sentence c = c.requires.can.sentence

pub implied_in-requires-clause-grounded : goal.implied_in-requires-clause-grounded
implied_in-requires-clause-grounded c = c.requires.can.grounded

pub implied_in-requires-clause-all_nodes : goal.implied_in-requires-clause-all_nodes
implied_in-requires-clause-all_nodes c = c.requires.can.all_nodes

pub implied_in-requires-clause-budget : goal.implied_in-requires-clause-budget
implied_in-requires-clause-budget c = c.requires.can.budget

pub ask_some-requires-clause-can : goal.ask_some-requires-clause-can
ask_some-requires-clause-can c =
    subst (λ (w : LogView). CanBeAskedAt c.args.user.now c.args.query.now c.args.goals.now w) (sym c.implied_in.ensures.same) c.requires.can

pub ask_some-requires-clause-order : goal.ask_some-requires-clause-order
ask_some-requires-clause-order c =
    omega (arith, start-rises (length c.args.goals.now) c.args.cut c.requires.cut c.args.part, c.start_of-from.ensures, c.end_of-to.ensures)

pub ask_some-requires-clause-within : goal.ask_some-requires-clause-within
ask_some-requires-clause-within c =
    omega (arith, start-within (length c.args.goals.now) c.args.cut c.requires.cut (c.args.part + 1), c.end_of-to.ensures)

pub ask_some-requires-2-clause-can : goal.ask_some-requires-2-clause-can
ask_some-requires-2-clause-can c =
    subst (λ (w : LogView). CanBeAskedAt c.args.user.now c.args.query.now c.args.goals.now w)
    (sym (c.ask_some.ensures.same ∙ c.implied_in.ensures.same)) c.requires.can

pub ask_some-requires-2-clause-order : goal.ask_some-requires-2-clause-order
ask_some-requires-2-clause-order c =
    omega (arith, start-rises (length c.args.goals.now) c.args.cut c.requires.cut c.args.part, c.start_of-from.ensures, c.end_of-to.ensures)

pub ask_some-requires-2-clause-within : goal.ask_some-requires-2-clause-within
ask_some-requires-2-clause-within c =
    omega (arith, start-within (length c.args.goals.now) c.args.cut c.requires.cut (c.args.part + 1), c.end_of-to.ensures)

pub returns-in_err-yes-clause-same : goal.returns-in_err-yes-clause-same
returns-in_err-yes-clause-same c = c.ask_some.ensures.same ∙ c.implied_in.ensures.same

pub returns-in_err-no-clause-same : goal.returns-in_err-no-clause-same
returns-in_err-no-clause-same c = c.ask_some-2.ensures.same ∙ c.ask_some.ensures.same ∙ c.implied_in.ensures.same

pub returns-clause-same : goal.returns-clause-same
returns-clause-same c = c.ask_some-2.ensures.same ∙ c.ask_some.ensures.same ∙ c.implied_in.ensures.same

pub returns-clause-found : goal.returns-clause-found
returns-clause-found c =
    let view = c.args.view.now in
    let budget = c.args.user.now.budget in
    let query = sentence_of c.args.query.now in
    let goals = map sentence_of c.args.goals.now in
    let first = c.implied_in.ensures.same in
    let from = c.start_of-from.ensures in
    let to = c.end_of-to.ensures in
    record {
      implied = c.in_ok-implied.ensures.implied;
      yes = answer_at view c.implied_in.new.view first budget query true _ _ _ _ (ap yes_before from) (ap yes_before to) goals c.in_ok-yes.yes
          c.in_ok-yes.ensures.answer;
      no = answer_at view c.ask_some.new.view (c.ask_some.ensures.same ∙ first) budget query false _ _ _ _ (ap no_before from) (ap no_before to) goals
          c.in_ok-no.no c.in_ok-no.ensures.answer;
    }
