use Rattle.std.proofs.Common.{◌∷◌, ◌++◌, [], nat_le, subst}
use Rattle.cqe_base.specs.Formula.{nodes, is_sentence_of}
use Rattle.entailment.specs.Views.{schema_of, log_of}
use Rattle.entailment.specs.GroundSentences.{sentence_of, IsGroundOver}
use Rattle.censors.specs.Asked.{IsAnswerOfAll}
use Rattle.censors.proofs.Parting.{part_all, part_passes, part_shown}
use Rattle.censors.proofs.parts.ask_some.Goals as goal

pub ask_each-requires-clause-premise : goal.ask_each-requires-clause-premise
ask_each-requires-clause-premise c = c.requires.can.sentence

pub ask_each-requires-clause-grounded : goal.ask_each-requires-clause-grounded
ask_each-requires-clause-grounded c = c.requires.can.grounded

pub ask_each-requires-clause-all_nodes : goal.ask_each-requires-clause-all_nodes
ask_each-requires-clause-all_nodes c = c.requires.can.all_nodes

pub ask_each-requires-clause-goals : goal.ask_each-requires-clause-goals
ask_each-requires-clause-goals c =
    part_passes sentence_of c.args.numbers.0 c.args.numbers.1 c.args.goals.now c.goals_between-some.result.now c.goals_between-some.ensures
    (is_sentence_of (schema_of c.args.view.now)) c.requires.can.goal_sentences

pub ask_each-requires-clause-goal_nodes : goal.ask_each-requires-clause-goal_nodes
ask_each-requires-clause-goal_nodes c =
    part_passes sentence_of c.args.numbers.0 c.args.numbers.1 c.args.goals.now c.goals_between-some.result.now c.goals_between-some.ensures
    (λ goal. nat_le (nodes (schema_of c.args.view.now) goal) 40000) c.requires.can.goal_nodes

pub ask_each-requires-clause-grounded_goals : goal.ask_each-requires-clause-grounded_goals
ask_each-requires-clause-grounded_goals c =
    part_all sentence_of c.args.numbers.0 c.args.numbers.1 c.args.goals.now c.goals_between-some.result.now c.goals_between-some.ensures
    (IsGroundOver (schema_of c.args.view.now)) c.requires.can.grounded_goals

pub ask_each-requires-clause-budget : goal.ask_each-requires-clause-budget
ask_each-requires-clause-budget c = c.requires.can.budget

pub returns-clause-answer : goal.returns-clause-answer
returns-clause-answer c =
    let view = c.args.view.now in
    subst (λ goals. IsAnswerOfAll (schema_of view) c.args.user.now.budget (log_of view ++ (sentence_of c.args.query.now, c.args.yes) ∷ []) goals
    c.in_ok-answer.answer)
    (part_shown sentence_of c.args.numbers.0 c.args.numbers.1 c.args.goals.now c.goals_between-some.result.now c.goals_between-some.ensures)
    c.in_ok-answer.ensures.answer
