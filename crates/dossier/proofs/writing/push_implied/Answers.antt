use Rattle.std.proofs.Common.{◌≡◌, ◌≤◌, ◌+◌, [], ◌∷◌, true, false, refl, sym, subst, ◌∙◌, arith}
use Rattle.std.specs.Prelude.{string_bytes}
use Rattle.cqe_base.specs.Formula.{nodes, is_sentence_of}
use Rattle.cqe_base.specs.History.{log}
use Rattle.entailment.specs.Logs.{log_nodes}
use Rattle.entailment.specs.GroundSentences.{sentence_of, IsGroundOver}
use Rattle.dossier.specs.Logs.{past_schema, past_user, past_history}
use Rattle.dossier.specs.Items.{goal_probe, implied_probes}
use Rattle.dossier.specs.Written.{IsBlock, AreBlocks}
use Rattle.dossier.specs.Adding.{AreUnspent, Grows}
use Rattle.dossier.proofs.Verdicts.{refusal-is, none-implied}
use Rattle.dossier.proofs.Pushed.{grows-none, grows-then, blocks-append, blocks-one, unspent-append}
use Rattle.dossier.proofs.writing.push_implied.Goals as goal

-- the other methods have none
pub returns-then-not-is_refusal-clause-blocks : goal.returns-then-not-is_refusal-clause-blocks
returns-then-not-is_refusal-clause-blocks c =
    let past = c.args.past.now in
    let told = log (past_user past) (past_history past) in
    let none = none-implied (past_user past).method told (sentence_of c.args.query.now) (sym c.is_refusal.ensures ∙ c.if-not-is_refusal.true) in
    grows-none (AreBlocks (past_schema past) (implied_probes (past_user past).method told (sentence_of c.args.query.now)))
    (string_bytes c.args.text.now) (subst (λ ps. AreBlocks (past_schema past) ps []) (sym none) refl)

-- ---- what the blocks are written with

pub push_goal-requires-clause-all_nodes : goal.push_goal-requires-clause-all_nodes
push_goal-requires-clause-all_nodes c =
    let past = c.args.past.now in
    let schema = past_schema past in
    let query = sentence_of c.args.query.now in
    let small : log_nodes schema (log (past_user past) (past_history past)) + (1 + nodes schema query) ≤ 60000 = c.requires.fits.log_nodes false in
    omega arith

pub push_goal-requires-clause-unspent : goal.push_goal-requires-clause-unspent
push_goal-requires-clause-unspent c =
    let past = c.args.past.now in
    let told = log (past_user past) (past_history past) in
    let query = sentence_of c.args.query.now in
    let method = refusal-is (past_user past).method (sym c.is_refusal.ensures ∙ c.if-not-is_refusal.false) in
    (unspent-append (past_schema past) c.args.budget (goal_probe told (query, true) ∷ []) (goal_probe told (query, false) ∷ [])
    (subst (λ m. AreUnspent (past_schema past) c.args.budget (implied_probes m told query)) method c.requires.unspent)).0

pub push_goal-requires-2-clause-sentence : goal.push_goal-requires-2-clause-sentence
push_goal-requires-2-clause-sentence c =
    subst (λ s. is_sentence_of s (sentence_of c.args.query.now) ≡ true) (sym c.push_goal.ensures.same.0.schema) c.requires.sentence

pub push_goal-requires-2-clause-grounded : goal.push_goal-requires-2-clause-grounded
push_goal-requires-2-clause-grounded c = subst (λ s. IsGroundOver s c.args.query.now) (sym c.push_goal.ensures.same.0.schema) c.requires.grounded

pub push_goal-requires-2-clause-all_nodes : goal.push_goal-requires-2-clause-all_nodes
push_goal-requires-2-clause-all_nodes c =
    let past = c.args.past.now in
    let schema = past_schema past in
    let query = sentence_of c.args.query.now in
    let same = c.push_goal.ensures.same in
    let small : log_nodes schema (log (past_user past) (past_history past)) + (1 + nodes schema query) ≤ 60000 = c.requires.fits.log_nodes false in
    let all : log_nodes schema (log (past_user past) (past_history past)) + nodes schema query ≤ 100000 = omega arith in
    subst (λ s. log_nodes s (log (past_user c.push_goal.new.past) (past_history c.push_goal.new.past)) + nodes s query ≤ 100000) (sym same.0.schema)
    (subst (λ u. log_nodes schema (log u (past_history c.push_goal.new.past)) + nodes schema query ≤ 100000) (sym same.0.user)
    (subst (λ h. log_nodes schema (log (past_user past) h) + nodes schema query ≤ 100000) (sym same.1) all))

pub push_goal-requires-2-clause-unspent : goal.push_goal-requires-2-clause-unspent
push_goal-requires-2-clause-unspent c =
    let past = c.args.past.now in
    let told = log (past_user past) (past_history past) in
    let query = sentence_of c.args.query.now in
    let same = c.push_goal.ensures.same in
    let method = refusal-is (past_user past).method (sym c.is_refusal.ensures ∙ c.if-not-is_refusal.false) in
    let second = (unspent-append (past_schema past) c.args.budget (goal_probe told (query, true) ∷ []) (goal_probe told (query, false) ∷ [])
    (subst (λ m. AreUnspent (past_schema past) c.args.budget (implied_probes m told query)) method c.requires.unspent)).1 in
    subst (λ s. AreUnspent s c.args.budget
    (goal_probe (log (past_user c.push_goal.new.past) (past_history c.push_goal.new.past)) (query, false) ∷ [])) (sym same.0.schema)
    (subst (λ u. AreUnspent (past_schema past) c.args.budget (goal_probe (log u (past_history c.push_goal.new.past)) (query, false) ∷ []))
    (sym same.0.user)
    (subst (λ h. AreUnspent (past_schema past) c.args.budget (goal_probe (log (past_user past) h) (query, false) ∷ [])) (sym same.1) second))

-- ---- what is written

pub returns-clause-blocks : goal.returns-clause-blocks
returns-clause-blocks c =
    let past = c.args.past.now in
    let schema = past_schema past in
    let told = log (past_user past) (past_history past) in
    let query = sentence_of c.args.query.now in
    let same = c.push_goal.ensures.same in
    let method = refusal-is (past_user past).method (sym c.is_refusal.ensures ∙ c.if-not-is_refusal.false) in
    let second : Grows (IsBlock schema (goal_probe told (query, false))) (string_bytes c.push_goal.new.text) (string_bytes c.push_goal-2.new.text) =
    subst (λ s. Grows (IsBlock s (goal_probe told (query, false))) (string_bytes c.push_goal.new.text) (string_bytes c.push_goal-2.new.text))
    same.0.schema
    (subst (λ u. Grows (IsBlock (past_schema c.push_goal.new.past) (goal_probe (log u (past_history past)) (query, false)))
    (string_bytes c.push_goal.new.text) (string_bytes c.push_goal-2.new.text)) same.0.user
    (subst (λ h. Grows (IsBlock (past_schema c.push_goal.new.past) (goal_probe (log (past_user c.push_goal.new.past) h) (query, false)))
    (string_bytes c.push_goal.new.text) (string_bytes c.push_goal-2.new.text)) same.1 c.in_ok-push_goal-2.ensures.block)) in
    subst (λ m. Grows (AreBlocks schema (implied_probes m told query)) (string_bytes c.args.text.now) (string_bytes c.push_goal-2.new.text)) (sym method)
    (grows-then (IsBlock schema (goal_probe told (query, true))) (IsBlock schema (goal_probe told (query, false)))
    (AreBlocks schema (goal_probe told (query, true) ∷ (goal_probe told (query, false) ∷ []))) (string_bytes c.args.text.now)
    (string_bytes c.push_goal.new.text) (string_bytes c.push_goal-2.new.text) c.in_ok-push_goal.ensures.block second
    (λ first other here there.
    blocks-append schema (goal_probe told (query, true) ∷ []) (goal_probe told (query, false) ∷ []) first other
    (blocks-one schema (goal_probe told (query, true)) first here) (blocks-one schema (goal_probe told (query, false)) other there)))

-- ---- the items are as they were

pub returns-in_err-push_goal-2-clause-same : goal.returns-in_err-push_goal-2-clause-same
returns-in_err-push_goal-2-clause-same c = (
  record {
    schema = c.push_goal-2.ensures.same.0.schema ∙ c.push_goal.ensures.same.0.schema;
    user = c.push_goal-2.ensures.same.0.user ∙ c.push_goal.ensures.same.0.user;
  },
  c.push_goal-2.ensures.same.1 ∙ c.push_goal.ensures.same.1,
)

pub returns-clause-same : goal.returns-clause-same
returns-clause-same c = (
  record {
    schema = c.push_goal-2.ensures.same.0.schema ∙ c.push_goal.ensures.same.0.schema;
    user = c.push_goal-2.ensures.same.0.user ∙ c.push_goal.ensures.same.0.user;
  },
  c.push_goal-2.ensures.same.1 ∙ c.push_goal.ensures.same.1,
)
