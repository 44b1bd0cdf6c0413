use Rattle.std.proofs.Common.{◌≡◌, ◌≤◌, ◌+◌, [], ◌∷◌, ◌++◌, length, map, false, sym, ap, subst, ◌∙◌, arith}
use Rattle.std.specs.Prelude.{nat_le}
use Rattle.std.specs.List.{list_all}
use Rattle.std.specs.Prelude.{All}
use Rattle.std.proofs.lemmas.List.{length-map}
use Rattle.cqe_base.specs.Formula.{nodes, is_sentence_of}
use Rattle.cqe_base.specs.History.{answered_query_of, log, user_at, is_history_of}
use Rattle.cqe_base.specs.Censor.{guarded}
use Rattle.entailment.specs.Logs.{log_nodes}
use Rattle.entailment.specs.GroundSentences.{sentence_of, IsGroundOver}
use Rattle.entailment.specs.Probes.{signed_at}
use Rattle.dossier.specs.Logs.{past_schema, past_user, past_history}
use Rattle.dossier.proofs.Probing.{each-at}
use Rattle.dossier.proofs.items.read_harm.Goals as goal

-- ---- what the blocks are read with

pub read_each-requires-clause-user : goal.read_each-requires-clause-user
read_each-requires-clause-user c = c.requires.kept.limits.sentences

pub read_each-requires-clause-history : goal.read_each-requires-clause-history
read_each-requires-clause-history c =
    let past = c.args.past.now in
    ap (λ es. is_history_of (past_schema past) (map answered_query_of es)) c.as_slice.ensures.value
    ∙ c.law_sizes.ensures.of_schema (past_schema past) (past_user past) (past_history past) c.requires.kept.sizes

pub read_each-requires-clause-view : goal.read_each-requires-clause-view
read_each-requires-clause-view c = (
  c.requires.kept.view.0,
  c.requires.kept.view.1 ∙ sym (ap (λ es. log (past_user c.args.past.now) (map answered_query_of es)) c.as_slice.ensures.value),
)

pub read_each-requires-clause-all_nodes : goal.read_each-requires-clause-all_nodes
read_each-requires-clause-all_nodes c =
    let schema = past_schema c.args.past.now in
    let user = past_user c.args.past.now in
    let query = (signed_at c.args.premise).0 in
    let same : log_nodes schema (log user (map answered_query_of c.as_slice.result.now)) ≡ log_nodes schema (log user (past_history c.args.past.now)) =
    ap (λ es. log_nodes schema (log user (map answered_query_of es))) c.as_slice.ensures.value in
    let small : log_nodes schema (log user (past_history c.args.past.now)) + (1 + nodes schema query) ≤ 60000 = c.requires.fits.log_nodes false in
    omega arith

pub read_each-requires-clause-goals : goal.read_each-requires-clause-goals
read_each-requires-clause-goals c =
    let past = c.args.past.now in
    let fits = c.law_amended_limits.ensures.probes (past_schema past) (past_user past) (past_history past) c.requires.kept.limits c.requires.kept.sizes in
    ap (list_all (is_sentence_of (past_schema past))) (c.sentences.ensures.sentences ∙ c.requires.kept.guarded_now) ∙ fits.guarded_sentences

pub read_each-requires-clause-goal_nodes : goal.read_each-requires-clause-goal_nodes
read_each-requires-clause-goal_nodes c =
    let past = c.args.past.now in
    let fits = c.law_amended_limits.ensures.probes (past_schema past) (past_user past) (past_history past) c.requires.kept.limits c.requires.kept.sizes in
    ap (list_all (λ goal. nat_le (nodes (past_schema past) goal) 40000)) (c.sentences.ensures.sentences ∙ c.requires.kept.guarded_now)
    ∙ fits.guarded_nodes

pub read_each-requires-clause-grounded_goals : goal.read_each-requires-clause-grounded_goals
read_each-requires-clause-grounded_goals c =
    subst (λ schema. All (IsGroundOver schema) c.sentences.result.now) c.requires.kept.guards_schema c.sentences.ensures.grounded

-- ---- what is read

pub returns-clause-reads : goal.returns-clause-reads
returns-clause-reads c world name task more shown of =
    let past = c.args.past.now in
    let user = past_user past in
    let told = map answered_query_of c.as_slice.result.now in
    let goals = c.sentences.result.now in
    let are : map sentence_of goals ≡ guarded (user_at user (past_history past)) = c.sentences.ensures.sentences ∙ c.requires.kept.guarded_now in
    each-at (past_schema past) world name user (past_history past) task more shown
    (log user (past_history past) ++ signed_at c.args.premise ∷ []) (log user told ++ signed_at c.args.premise ∷ [])
    (guarded (user_at user (past_history past))) (map sentence_of goals)
    (length (guarded (user_at user (past_history past)))) (length goals) c.args.lines.now c.read_each.new.lines c.read_each.result
    (ap (λ es. log user (map answered_query_of es) ++ signed_at c.args.premise ∷ []) c.as_slice.ensures.value)
    are (sym (length-map goals sentence_of) ∙ ap length are)
    (c.read_each.ensures.reads world name user (past_history past) task more shown of)

-- the view is as it was
pub returns-clause-kept : goal.returns-clause-kept
returns-clause-kept c = rw c.read_each.ensures.same c.requires.kept
