use Rattle.std.proofs.Common.{◌≡◌, ◌≢◌, ◌≤◌, ◌+◌, ◌++◌, [], true, refl, sym, ap, subst, ◌∙◌, arith}
use Rattle.std.specs.Prelude.{nat_le, string_bytes}
use Rattle.std.proofs.lemmas.Bool.{leb-true}
use Rattle.std.proofs.lemmas.List.Elements.{All-get_or}
use Rattle.cqe_base.specs.Formula.{nodes, is_sentence_of}
use Rattle.cqe_base.specs.Entailment.{are_sentences_of}
use Rattle.cqe_base.specs.Outcome.{Spent, outcome}
use Rattle.entailment.specs.Logs.{log_nodes, sentence_nodes}
use Rattle.entailment.specs.Views.{LogView, schema_of, log_of}
use Rattle.entailment.specs.GroundSentences.{sentence_of, IsGroundOver}
use Rattle.entailment.specs.Probes.{premise_list, IsGroundPremise}
use Rattle.dossier.specs.Written.{IsBlock, AreBlocks}
use Rattle.dossier.specs.Adding.{Grows}
use Rattle.dossier.proofs.Each.{passes-at}
use Rattle.dossier.proofs.Pushed.{grows-none, unspent-at, goals-pushed, goals-all}
use Rattle.dossier.proofs.writing.push_goals.Goals as goal

pub loop-goal-init : goal.loop-goal-init
loop-goal-init c = record {
  grown = grows-none (AreBlocks c.args.schema.now []) (string_bytes c.args.text.now) refl;
  same = refl;
}

-- ---- what a block is written with

pub push_block-requires-clause-schema : goal.push_block-requires-clause-schema
push_block-requires-clause-schema c = ap schema_of c.loop-goal.invariant.same ∙ c.requires.schema

pub push_block-requires-clause-premise : goal.push_block-requires-clause-premise
push_block-requires-clause-premise c =
    subst (λ s. are_sentences_of s (premise_list c.args.premise) ≡ true) (sym (ap schema_of c.loop-goal.invariant.same ∙ c.requires.schema))
    c.requires.premise

pub push_block-requires-clause-goal : goal.push_block-requires-clause-goal
push_block-requires-clause-goal c =
    subst (λ s. is_sentence_of s (sentence_of c.goal-item.result) ≡ true) (sym (ap schema_of c.loop-goal.invariant.same ∙ c.requires.schema))
    (passes-at sentence_of c.args.goals.now c.loop-goal.goal-index c.goal-item.result c.goal-item.is c.loop-goal-test.true
    (is_sentence_of c.args.schema.now) c.requires.goals)

pub push_block-requires-clause-all_nodes : goal.push_block-requires-clause-all_nodes
push_block-requires-clause-all_nodes c =
    let schema = c.args.schema.now in
    let view = c.args.view.now in
    let small : nodes schema (sentence_of c.goal-item.result) ≤ 40000 =
    leb-true _ 40000 (passes-at sentence_of c.args.goals.now c.loop-goal.goal-index c.goal-item.result c.goal-item.is c.loop-goal-test.true
    (λ goal. nat_le (nodes schema goal) 40000) c.requires.goal_nodes) in
    let all : log_nodes schema (log_of view) + sentence_nodes schema (premise_list c.args.premise) + nodes schema (sentence_of c.goal-item.result) ≤ 100000 =
    omega (arith, c.requires.room) in
    subst (λ (v : LogView). log_nodes (schema_of v) (log_of v) + sentence_nodes (schema_of v) (premise_list c.args.premise)
    + nodes (schema_of v) (sentence_of c.goal-item.result) ≤ 100000) (sym c.loop-goal.invariant.same)
    (subst (λ s. log_nodes s (log_of view) + sentence_nodes s (premise_list c.args.premise) + nodes s (sentence_of c.goal-item.result) ≤ 100000)
    (sym c.requires.schema) all)

pub push_block-requires-clause-grounded_premise : goal.push_block-requires-clause-grounded_premise
push_block-requires-clause-grounded_premise c =
    subst (λ s. IsGroundPremise s c.args.premise) (sym (ap schema_of c.loop-goal.invariant.same ∙ c.requires.schema)) c.requires.grounded

pub push_block-requires-clause-grounded_goal : goal.push_block-requires-clause-grounded_goal
push_block-requires-clause-grounded_goal c =
    subst (λ s. IsGroundOver s c.goal-item.result) (sym (ap schema_of c.loop-goal.invariant.same ∙ c.requires.schema))
    (subst (IsGroundOver c.args.schema.now) (sym c.goal-item.is)
    (All-get_or (IsGroundOver c.args.schema.now) c.args.goals.now c.loop-goal.goal-index c.goal-item.result c.loop-goal-test.true
    c.requires.grounded_goals))

pub push_block-requires-clause-unspent : goal.push_block-requires-clause-unspent
push_block-requires-clause-unspent c =
    let view = c.args.view.now in
    subst (λ (v : LogView). outcome (schema_of v) (log_of v ++ premise_list c.args.premise) (sentence_of c.goal-item.result, true) c.args.budget ≢ Spent)
    (sym c.loop-goal.invariant.same)
    (subst (λ s. outcome s (log_of view ++ premise_list c.args.premise) (sentence_of c.goal-item.result, true) c.args.budget ≢ Spent)
    (sym c.requires.schema)
    (unspent-at c.args.schema.now c.args.budget (log_of view ++ premise_list c.args.premise) sentence_of c.args.goals.now c.loop-goal.goal-index
    c.goal-item.result c.goal-item.is c.loop-goal-test.true c.requires.unspent))

-- ---- what is written

pub loop-goal-preserved : goal.loop-goal-preserved
loop-goal-preserved c =
    let schema = c.args.schema.now in
    let premises = log_of c.args.view.now ++ premise_list c.args.premise in
    record {
      grown = goals-pushed schema premises sentence_of c.args.goals.now c.loop-goal.goal-index c.goal-item.result c.goal-item.is c.loop-goal-test.true
          (string_bytes c.args.text.now) (string_bytes c.loop-goal.text) (string_bytes c.push_block.new.text) c.loop-goal.invariant.grown
          (subst (λ (v : LogView). Grows (IsBlock schema (record {
            premises = log_of v ++ premise_list c.args.premise;
            goal = (sentence_of c.goal-item.result, true);
          })) (string_bytes c.loop-goal.text) (string_bytes c.push_block.new.text)) c.loop-goal.invariant.same c.in_ok-push_block.ensures.block);
      same = c.push_block.ensures.same ∙ c.loop-goal.invariant.same;
    }

pub returns-in_err-push_block-clause-same : goal.returns-in_err-push_block-clause-same
returns-in_err-push_block-clause-same c = c.push_block.ensures.same ∙ c.loop-goal.invariant.same

pub returns-clause-blocks : goal.returns-clause-blocks
returns-clause-blocks c =
    goals-all c.args.schema.now (log_of c.args.view.now ++ premise_list c.args.premise) sentence_of c.args.goals.now c.loop-goal.goal-index
    (omega (arith, c.loop-goal-test.false)) (string_bytes c.args.text.now) (string_bytes c.loop-goal.text) c.loop-goal.invariant.grown
