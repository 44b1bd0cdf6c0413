use Rattle.std.proofs.Common.{◌≡◌, [], map, sym, ap, subst, ◌∙◌, arith}
use Rattle.cqe_base.specs.History.{answered_query_of, profile_of, user_at, view_size}
use Rattle.cqe_base.specs.Limits.{FitsProbes}
use Rattle.user_log.proofs.Keeping.{kept_empty}
use Rattle.user_log.proofs.log.UserLog.new.Goals as goal

pub new-requires : goal.new-requires
new-requires c =
    let user = profile_of c.args.user.now in
    let none = ap (map answered_query_of) (c.as_slice.ensures.value ∙ c.new-entries.ensures.items) in
    let current_is : profile_of c.in_ok-current.current ≡ user = c.in_ok-current.ensures ∙ ap (user_at user) none ∙ c.law_added_secrets.ensures.empty user in
    subst (FitsProbes c.args.schema.now) (sym current_is) (c.law_limits.ensures.probes c.args.schema.now user c.requires)

pub invariant_of-result : goal.invariant_of-result
invariant_of-result c =
    let counted = c.view_nodes-view_nodes.ensures in
    let small = c.requires.view in
    let same : c.view_nodes-view_nodes.result ≡ view_size c.args.schema.now (profile_of c.args.user.now) [] = omega (arith, counted, small) in
    record {
      kept = kept_empty _ _ _ _ _ _ _ (ap (map answered_query_of) c.new-entries.ensures.items) c.requires c.law_legal_grows.ensures.empty
          c.law_logs.ensures.empty c.in_ok-views.ensures.schema c.in_ok-views.ensures.log same;
      amended = record {
        current_is = c.in_ok-current.ensures ∙ ap (λ es. user_at (profile_of c.args.user.now) (map answered_query_of es)) c.as_slice.ensures.value;
        guarding = record { schema_is = c.in_ok-guards.ensures.schema; guarded_are = c.in_ok-guards.ensures.guarded };
      };
    }
