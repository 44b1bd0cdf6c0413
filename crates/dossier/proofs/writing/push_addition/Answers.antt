use Rattle.std.proofs.Common.{◌≤◌, [], ◌∷◌, true, sym, ap, subst, ◌∙◌, arith}
use Rattle.std.specs.Prelude.{string_bytes}
use Rattle.cqe_base.specs.Formula.{formula_of, nodes, is_sentence_of}
use Rattle.cqe_base.specs.History.{log, user_at}
use Rattle.cqe_base.specs.Outcome.{outcome}
use Rattle.cqe_base.specs.Censor.{guarded_with, safe_with, admission_budget}
use Rattle.entailment.specs.GroundSentences.{sentence_of}
use Rattle.dossier.specs.Logs.{past_schema, past_user, past_history}
use Rattle.dossier.specs.Items.{goal_probe}
use Rattle.dossier.specs.Written.{IsBlock}
use Rattle.dossier.specs.Adding.{AreUnspent, Grows}
use Rattle.dossier.proofs.Added.{guard-at}
use Rattle.dossier.proofs.Pushed.{open-unspent}
use Rattle.dossier.proofs.writing.push_addition.Goals as goal

pub new-requires-clause-sentence : goal.new-requires-clause-sentence
new-requires-clause-sentence c =
    let past = c.args.past.now in
    ap (is_sentence_of (past_schema past))
    (guard-at _ (past_user past) (past_history past) (formula_of c.args.secret.now) (formula_of c.in_ok-guarded.guarded) c.requires.kept.current
    c.in_ok-guarded.ensures)
    ∙ c.requires.addition.goal_sentence

pub new-requires-clause-small : goal.new-requires-clause-small
new-requires-clause-small c =
    let past = c.args.past.now in
    subst (λ goal. nodes (past_schema past) goal ≤ 40000)
    (sym (guard-at _ (past_user past) (past_history past) (formula_of c.args.secret.now) (formula_of c.in_ok-guarded.guarded) c.requires.kept.current
    c.in_ok-guarded.ensures)) c.requires.addition.goal_nodes

pub push_goal-requires-clause-sentence : goal.push_goal-requires-clause-sentence
push_goal-requires-clause-sentence c =
    let past = c.args.past.now in
    ap (λ s. is_sentence_of (past_schema past) (formula_of s)) c.in_ok-goal.ensures.same
    ∙ ap (is_sentence_of (past_schema past))
    (guard-at _ (past_user past) (past_history past) (formula_of c.args.secret.now) (formula_of c.in_ok-guarded.guarded) c.requires.kept.current
    c.in_ok-guarded.ensures)
    ∙ c.requires.addition.goal_sentence

pub push_goal-requires-clause-all_nodes : goal.push_goal-requires-clause-all_nodes
push_goal-requires-clause-all_nodes c =
    let past = c.args.past.now in
    let small : nodes (past_schema past) (sentence_of c.in_ok-goal.goal) ≤ 40000 =
    subst (λ goal. nodes (past_schema past) goal ≤ 40000)
    (sym (ap formula_of c.in_ok-goal.ensures.same
    ∙ guard-at _ (past_user past) (past_history past) (formula_of c.args.secret.now) (formula_of c.in_ok-guarded.guarded) c.requires.kept.current
    c.in_ok-guarded.ensures)) c.requires.addition.goal_nodes in
    omega (arith, c.requires.room)

pub push_goal-requires-clause-unspent : goal.push_goal-requires-clause-unspent
unfolding outcome safe_with
push_goal-requires-clause-unspent c =
    let past = c.args.past.now in
    let told = log (past_user past) (past_history past) in
    subst (λ goal. AreUnspent (past_schema past) admission_budget (goal_probe told (goal, true) ∷ []))
    (sym (ap formula_of c.in_ok-goal.ensures.same
    ∙ guard-at _ (past_user past) (past_history past) (formula_of c.args.secret.now) (formula_of c.in_ok-guarded.guarded) c.requires.kept.current
    c.in_ok-guarded.ensures))
    (open-unspent (past_schema past)
    (outcome (past_schema past) told (guarded_with (user_at (past_user past) (past_history past)) (formula_of c.args.secret.now), true) admission_budget)
    c.requires.safe)

pub returns-clause-block : goal.returns-clause-block
returns-clause-block c =
    let past = c.args.past.now in
    subst (λ goal. Grows (IsBlock (past_schema past) (goal_probe (log (past_user past) (past_history past)) (goal, true)))
    (string_bytes c.args.text.now) (string_bytes c.push_goal.new.text))
    (ap formula_of c.in_ok-goal.ensures.same
    ∙ guard-at _ (past_user past) (past_history past) (formula_of c.args.secret.now) (formula_of c.in_ok-guarded.guarded) c.requires.kept.current
    c.in_ok-guarded.ensures) c.in_ok-push_goal.ensures.block
