use Rattle.std.proofs.Common.{◌≡◌, ◌≤◌, ◌+◌, true, false, [], ◌∷◌, ◌++◌, map, sum_by, sym, ap, subst, ◌∙◌, rules}
use Rattle.std.proofs.lemmas.List.{map-append}
use Rattle.cqe_base.specs.Formula.{formula_of, nodes, is_sentence_of}
use Rattle.cqe_base.specs.History.{answered_query_of, log, told_by, user_at, view_size}
use Rattle.cqe_base.specs.Censor.{guarded}
use Rattle.cqe_base.specs.Limits.{KeepsSizes}
use Rattle.entailment.specs.Logs.{log_nodes}
use Rattle.user_log.proofs.Keeping.{sizes_push}
use Rattle.user_log.proofs.Sizes.{view_size-push}
use Rattle.dossier.specs.Logs.{past_schema, past_user, past_history}
use Rattle.dossier.proofs.Kept.{bytes-more, user-asked}
use Rattle.dossier.proofs.past.Past.add_answered.Goals as goal

pub tell-requires-clause-sentence : goal.tell-requires-clause-sentence
tell-requires-clause-sentence c =
    subst (λ s. is_sentence_of s (formula_of c.args.item.query) ≡ true) (sym c.requires.kept.view.0) c.requires.fits.sentence

pub tell-requires-clause-query : goal.tell-requires-clause-query
tell-requires-clause-query c =
    let before = c.args.self.now in
    let fits = c.law_limits.ensures.queries (past_schema before) (past_user before) (past_history before) (formula_of c.args.item.query)
    c.requires.kept.limits c.requires.fits.small in
    subst (λ s. nodes s (formula_of c.args.item.query) ≤ 20000) (sym c.requires.kept.view.0) fits.query_nodes

pub tell-requires-clause-room : goal.tell-requires-clause-room
tell-requires-clause-room c =
    let before = c.args.self.now in
    let fits = c.law_limits.ensures.queries (past_schema before) (past_user before) (past_history before) (formula_of c.args.item.query)
    c.requires.kept.limits c.requires.fits.small in
    subst (λ s. log_nodes s before.view.log + (1 + nodes s (formula_of c.args.item.query)) ≤ 60000) (sym c.requires.kept.view.0)
    (subst (λ l. log_nodes (past_schema before) l + (1 + nodes (past_schema before) (formula_of c.args.item.query)) ≤ 60000)
    (sym c.requires.kept.view.1) (fits.log_nodes false))

pub returns-clause-kept : goal.returns-clause-kept
returns-clause-kept c =
    let before = c.args.self.now in
    let item = answered_query_of c.args.item in
    let schema = past_schema before in
    let user = past_user before in
    let history = past_history before in
    let more : map answered_query_of c.push.new.self.items ≡ history ++ item ∷ [] =
    ap (map answered_query_of) c.in_ok-push.ensures.items ∙ map-append answered_query_of c.args.self.now.entries.items (c.args.item ∷ []) in
    let same = user-asked c.law_logs.ensures.grows c.law_added_secrets.ensures.grows user history item c.requires.asked in
    record {
      limits = c.requires.kept.limits;
      sizes = subst (KeepsSizes schema user) (sym more) (sizes_push schema user history item c.requires.kept.sizes c.requires.fits);
      current = c.requires.kept.current ∙ sym same ∙ ap (user_at user) (sym more);
      guards_schema = c.requires.kept.guards_schema;
      guarded_now = c.requires.kept.guarded_now ∙ ap guarded (sym same ∙ ap (user_at user) (sym more));
      view = (
        c.tell.ensures.schema ∙ c.requires.kept.view.0,
        c.in_ok-tell.ensures.log ∙ ap (λ l. l ++ told_by item.mark item.query) c.requires.kept.view.1
            ∙ sym (c.law_logs.ensures.grows user history item) ∙ ap (log user) (sym more),
      );
      bytes = (λ i. c.requires.kept.bytes i + c.from.ensures i) ∙ sym (bytes-more history item) ∙ ap (sum_by (λ entry. entry.length)) (sym more);
      nodes = (λ i. c.requires.kept.nodes i + c.told_nodes.ensures i)
          ∙ sym (view_size-push schema user history item c.law_logs.ensures.grows c.law_added_secrets.ensures.grows) ∙ ap (view_size schema user) (sym more);
    }

pub returns-clause-added : goal.returns-clause-added
returns-clause-added c = (
  search rules,
  ap (map answered_query_of) c.in_ok-push.ensures.items ∙ map-append answered_query_of c.args.self.now.entries.items (c.args.item ∷ []),
)
