use Rattle.std.proofs.Common.{◌≤◌, ◌+◌, ◌++◌, sym, ap, subst, ◌∙◌}
use Rattle.std.specs.Prelude.{nat_le, string_bytes, All, OnOk}
use Rattle.std.specs.List.{list_all}
use Rattle.cqe_base.specs.Formula.{nodes, is_sentence_of}
use Rattle.cqe_base.specs.History.{log, user_at}
use Rattle.cqe_base.specs.Censor.{guarded, probes_against}
use Rattle.entailment.specs.Logs.{log_nodes, sentence_nodes}
use Rattle.entailment.specs.GroundSentences.{IsGroundOver}
use Rattle.entailment.specs.Probes.{premise_list}
use Rattle.dossier.specs.Logs.{past_schema, past_user, past_history}
use Rattle.dossier.specs.Written.{AreBlocks}
use Rattle.dossier.specs.Adding.{AreUnspent, Grows}
use Rattle.dossier.proofs.writing.push_each.Goals as goal

pub push_goals-requires-clause-schema : goal.push_goals-requires-clause-schema
push_goals-requires-clause-schema c = c.requires.kept.view.0

pub push_goals-requires-clause-room : goal.push_goals-requires-clause-room
push_goals-requires-clause-room c =
    let schema = past_schema c.args.past.now in
    subst (λ told. log_nodes schema told + sentence_nodes schema (premise_list c.args.premise) ≤ 60000) (sym c.requires.kept.view.1) c.requires.room

pub push_goals-requires-clause-goals : goal.push_goals-requires-clause-goals
push_goals-requires-clause-goals c =
    let past = c.args.past.now in
    let fits = c.law_amended_limits.ensures.probes (past_schema past) (past_user past) (past_history past) c.requires.kept.limits c.requires.kept.sizes in
    ap (list_all (is_sentence_of (past_schema past))) (c.sentences-goals.ensures.sentences ∙ c.requires.kept.guarded_now) ∙ fits.guarded_sentences

pub push_goals-requires-clause-goal_nodes : goal.push_goals-requires-clause-goal_nodes
push_goals-requires-clause-goal_nodes c =
    let past = c.args.past.now in
    let fits = c.law_amended_limits.ensures.probes (past_schema past) (past_user past) (past_history past) c.requires.kept.limits c.requires.kept.sizes in
    ap (list_all (λ goal. nat_le (nodes (past_schema past) goal) 40000)) (c.sentences-goals.ensures.sentences ∙ c.requires.kept.guarded_now)
    ∙ fits.guarded_nodes

pub push_goals-requires-clause-grounded_goals : goal.push_goals-requires-clause-grounded_goals
push_goals-requires-clause-grounded_goals c =
    subst (λ schema. All (IsGroundOver schema) c.sentences-goals.result.now) c.requires.kept.guards_schema c.sentences-goals.ensures.grounded

pub push_goals-requires-clause-unspent : goal.push_goals-requires-clause-unspent
push_goals-requires-clause-unspent c =
    let past = c.args.past.now in
    subst (λ goals. AreUnspent (past_schema past) c.args.budget (probes_against (past.view.log ++ premise_list c.args.premise) goals))
    (sym (c.sentences-goals.ensures.sentences ∙ c.requires.kept.guarded_now))
    (subst (λ told. AreUnspent (past_schema past) c.args.budget
    (probes_against (told ++ premise_list c.args.premise) (guarded (user_at (past_user past) (past_history past)))))
    (sym c.requires.kept.view.1) c.requires.unspent)

pub returns-clause-blocks : goal.returns-clause-blocks
returns-clause-blocks c =
    let past = c.args.past.now in
    subst (λ told. OnOk c.push_goals.result (Grows (AreBlocks (past_schema past)
    (probes_against (told ++ premise_list c.args.premise) (guarded (user_at (past_user past) (past_history past)))))
    (string_bytes c.args.text.now) (string_bytes c.push_goals.new.text))) c.requires.kept.view.1
    (subst (λ goals. OnOk c.push_goals.result (Grows (AreBlocks (past_schema past)
    (probes_against (past.view.log ++ premise_list c.args.premise) goals))
    (string_bytes c.args.text.now) (string_bytes c.push_goals.new.text)))
    (c.sentences-goals.ensures.sentences ∙ c.requires.kept.guarded_now) c.push_goals.ensures.blocks)

-- the view is as it was
pub returns-clause-kept : goal.returns-clause-kept
returns-clause-kept c = rw c.push_goals.ensures.same c.requires.kept
