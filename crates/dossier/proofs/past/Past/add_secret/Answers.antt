use Rattle.std.proofs.Common.{◌≡◌, ◌+◌, [], ◌∷◌, ◌++◌, map, sum_by, sym, ap, subst, ◌∙◌, rules}
use Rattle.std.proofs.lemmas.List.{map-append}
use Rattle.cqe_base.specs.Formula.{formula_of}
use Rattle.cqe_base.specs.History.{answered_query_of, profile_of, log, user_at, with_secrets, view_size}
use Rattle.cqe_base.specs.Censor.{guarded}
use Rattle.cqe_base.specs.Limits.{KeepsSizes, FitsProbes}
use Rattle.user_log.proofs.Keeping.{sizes_push}
use Rattle.user_log.proofs.Sizes.{view_size-push}
use Rattle.dossier.specs.Logs.{past_schema, past_user, past_history}
use Rattle.dossier.proofs.Kept.{bytes-more, user-added, log-added}
use Rattle.dossier.proofs.past.Past.add_secret.Goals as goal

pub new-requires : goal.new-requires
new-requires c =
    let before = c.args.self.now in
    let item = answered_query_of c.args.item in
    let schema = past_schema before in
    let user = past_user before in
    let history = past_history before in
    let current : profile_of c.in_ok-current.current ≡ user_at user (history ++ item ∷ []) =
    c.in_ok-current.ensures
    ∙ ap (λ u. with_secrets u (u.secrets ++ formula_of c.args.item.query ∷ [])) c.requires.kept.current
    ∙ sym (user-added c.law_logs.ensures.grows c.law_added_secrets.ensures.grows user history item c.requires.added) in
    subst (FitsProbes schema) (sym current)
    (c.law_amended_limits.ensures.probes schema user (history ++ item ∷ []) c.requires.kept.limits
    (sizes_push schema user history item c.requires.kept.sizes c.requires.fits))

pub returns-clause-kept : goal.returns-clause-kept
returns-clause-kept c =
    let before = c.args.self.now in
    let item = answered_query_of c.args.item in
    let schema = past_schema before in
    let user = past_user before in
    let history = past_history before in
    let current : profile_of c.in_ok-current.current ≡ user_at user (history ++ item ∷ []) =
    c.in_ok-current.ensures
    ∙ ap (λ u. with_secrets u (u.secrets ++ formula_of c.args.item.query ∷ [])) c.requires.kept.current
    ∙ sym (user-added c.law_logs.ensures.grows c.law_added_secrets.ensures.grows user history item c.requires.added) in
    let more : map answered_query_of c.push.new.self.items ≡ history ++ item ∷ [] =
    ap (map answered_query_of) c.in_ok-push.ensures.items ∙ map-append answered_query_of c.args.self.now.entries.items (c.args.item ∷ []) in
    record {
      limits = c.requires.kept.limits;
      sizes = subst (KeepsSizes schema user) (sym more) (sizes_push schema user history item c.requires.kept.sizes c.requires.fits);
      current = current ∙ ap (user_at user) (sym more);
      guards_schema = c.in_ok-self.ensures.schema;
      guarded_now = c.in_ok-self.ensures.guarded ∙ ap guarded (current ∙ ap (user_at user) (sym more));
      view = (
        c.requires.kept.view.0,
        c.requires.kept.view.1
            ∙ sym (log-added c.law_logs.ensures.grows c.law_added_secrets.ensures.grows user history item c.requires.added)
            ∙ ap (log user) (sym more),
      );
      bytes = (λ i. c.requires.kept.bytes i + c.from.ensures i) ∙ sym (bytes-more history item) ∙ ap (sum_by (λ entry. entry.length)) (sym more);
      nodes = (λ i. c.requires.kept.nodes i + c.told_nodes.ensures i)
          ∙ sym (view_size-push schema user history item c.law_logs.ensures.grows c.law_added_secrets.ensures.grows) ∙ ap (view_size schema user) (sym more);
    }

pub returns-clause-added : goal.returns-clause-added
returns-clause-added c = (
  search rules,
  ap (map answered_query_of) c.in_ok-push.ensures.items ∙ map-append answered_query_of c.args.self.now.entries.items (c.args.item ∷ []),
)
