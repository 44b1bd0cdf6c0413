use Rattle.std.proofs.Common.{◌≡◌, ◌≢◌, ◌≤◌, ◌+◌, ◌++◌, [], true, sym, subst, ◌∙◌, arith, append-nil}
use Rattle.std.specs.Prelude.{string_bytes, OnOk}
use Rattle.cqe_base.specs.Formula.{nodes, is_sentence_of}
use Rattle.cqe_base.specs.History.{log}
use Rattle.cqe_base.specs.Outcome.{Spent, outcome}
use Rattle.entailment.specs.Logs.{log_nodes, sentence_nodes}
use Rattle.entailment.specs.GroundSentences.{IsGroundOver}
use Rattle.entailment.specs.Probes.{signed_at}
use Rattle.dossier.specs.Logs.{past_schema, past_user, past_history}
use Rattle.dossier.specs.Items.{goal_probe}
use Rattle.dossier.specs.Written.{IsBlock}
use Rattle.dossier.specs.Adding.{Grows}
use Rattle.dossier.proofs.Pushed.{unspent-first}
use Rattle.dossier.proofs.writing.push_goal.Goals as goal

pub push_block-requires-clause-schema : goal.push_block-requires-clause-schema
push_block-requires-clause-schema c = c.requires.kept.view.0

pub push_block-requires-clause-goal : goal.push_block-requires-clause-goal
push_block-requires-clause-goal c =
    subst (λ s. is_sentence_of s (signed_at c.args.goal).0 ≡ true) (sym c.requires.kept.view.0) c.requires.sentence

pub push_block-requires-clause-all_nodes : goal.push_block-requires-clause-all_nodes
push_block-requires-clause-all_nodes c =
    let past = c.args.past.now in
    let schema = past_schema past in
    let query = (signed_at c.args.goal).0 in
    let all : log_nodes schema (log (past_user past) (past_history past)) + sentence_nodes schema [] + nodes schema query ≤ 100000 =
    omega (arith, c.requires.all_nodes) in
    subst (λ s. log_nodes s past.view.log + sentence_nodes s [] + nodes s query ≤ 100000) (sym c.requires.kept.view.0)
    (subst (λ told. log_nodes schema told + sentence_nodes schema [] + nodes schema query ≤ 100000) (sym c.requires.kept.view.1) all)

pub push_block-requires-clause-grounded_goal : goal.push_block-requires-clause-grounded_goal
push_block-requires-clause-grounded_goal c =
    subst (λ s. IsGroundOver s c.args.goal.0.now) (sym c.requires.kept.view.0) c.requires.grounded

pub push_block-requires-clause-unspent : goal.push_block-requires-clause-unspent
push_block-requires-clause-unspent c =
    let past = c.args.past.now in
    let schema = past_schema past in
    let query = signed_at c.args.goal in
    subst (λ s. outcome s (past.view.log ++ []) query c.args.budget ≢ Spent) (sym c.requires.kept.view.0)
    (subst (λ told. outcome schema told query c.args.budget ≢ Spent) (sym (append-nil past.view.log ∙ c.requires.kept.view.1))
    (unspent-first schema c.args.budget (goal_probe (log (past_user past) (past_history past)) query) [] c.requires.unspent).0)

pub returns-clause-block : goal.returns-clause-block
returns-clause-block c =
    let past = c.args.past.now in
    subst (λ told. OnOk c.push_block.result (Grows (IsBlock (past_schema past) (goal_probe told (signed_at c.args.goal)))
    (string_bytes c.args.text.now) (string_bytes c.push_block.new.text))) (append-nil past.view.log ∙ c.requires.kept.view.1) c.push_block.ensures.block

-- the view is as it was
pub returns-clause-kept : goal.returns-clause-kept
returns-clause-kept c = rw c.push_block.ensures.same c.requires.kept
