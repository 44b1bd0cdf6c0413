use Rattle.std.proofs.Common.{◌≡◌, [], map, sum_by, sym, ap, subst, ◌∙◌, arith}
use Rattle.cqe_base.specs.History.{answered_query_of, profile_of, log, user_at, view_size}
use Rattle.cqe_base.specs.Censor.{guarded}
use Rattle.cqe_base.specs.Limits.{FitsProbes}
use Rattle.dossier.proofs.Kept.{no-sizes}
use Rattle.dossier.proofs.past.Past.new.Goals as goal

pub new-requires : goal.new-requires
new-requires c =
    let user = profile_of c.args.user.now in
    let none = ap (map answered_query_of) (c.as_slice.ensures.value ∙ c.new-entries.ensures.items) in
    let current_is : profile_of c.in_ok-current.current ≡ user = c.in_ok-current.ensures ∙ ap (user_at user) none ∙ c.law_added_secrets.ensures.empty user in
    subst (FitsProbes c.args.schema.now) (sym current_is) (c.law_limits.ensures.probes c.args.schema.now user c.requires)

pub returns-clause-kept : goal.returns-clause-kept
returns-clause-kept c =
    let user = profile_of c.args.user.now in
    let counted = c.view_nodes-view_nodes.ensures in
    let small = c.requires.view in
    let same : c.view_nodes-view_nodes.result ≡ view_size c.args.schema.now user [] = omega (arith, counted, small) in
    let items : map answered_query_of c.new-entries.result.items ≡ [] = ap (map answered_query_of) c.new-entries.ensures.items in
    let current : profile_of c.in_ok-current.current ≡ user_at user (map answered_query_of c.new-entries.result.items) =
    c.in_ok-current.ensures ∙ ap (λ es. user_at user (map answered_query_of es)) c.as_slice.ensures.value in
    record {
      limits = c.requires;
      sizes = no-sizes c.args.schema.now user (map answered_query_of c.new-entries.result.items) items;
      current = current;
      guards_schema = c.in_ok-guards.ensures.schema;
      guarded_now = c.in_ok-guards.ensures.guarded ∙ ap guarded current;
      view = (c.in_ok-view.ensures.schema, c.in_ok-view.ensures.log ∙ sym (ap (log user) items ∙ c.law_logs.ensures.empty user));
      bytes = sym (ap (sum_by (λ entry. entry.length)) items);
      nodes = same ∙ sym (ap (view_size c.args.schema.now user) items);
    }

pub returns-clause-none : goal.returns-clause-none
returns-clause-none c = ap (map answered_query_of) c.new-entries.ensures.items
