use Rattle.std.proofs.Common.{◌≡◌, ◌++◌, ◌∷◌, [], sym, subst}
use Rattle.cqe_base.specs.History.{profile_of, answered_query_of, user_at}
use Rattle.cqe_base.specs.Limits.{FitsProbes}
use Rattle.user_log.specs.UserLogs.{kept_schema, kept_user, kept_history}
use Rattle.user_log.proofs.Keeping.{sizes_push, amended_added}
use Rattle.user_log.proofs.log.UserLog.behind.Goals as goal

pub new-requires : goal.new-requires
new-requires c =
    let self = c.args.self.now in
    let item = answered_query_of c.args.entry.now in
    let made_is : profile_of c.in_ok-user-in-Protected.user ≡ user_at (kept_user self) (kept_history self ++ item ∷ []) =
    amended_added (kept_user self) (kept_history self) item (profile_of self.current) (profile_of c.in_ok-user-in-Protected.user)
    c.law_added_secrets.ensures.grows c.in-Protected.is self.amended.current_is c.in_ok-user-in-Protected.ensures in
    subst (FitsProbes (kept_schema self)) (sym made_is)
    (c.law_amended_limits.ensures.probes (kept_schema self) (kept_user self) (kept_history self ++ item ∷ []) self.kept.limits
    (sizes_push (kept_schema self) (kept_user self) (kept_history self) item self.kept.sizes c.requires))

pub returns-in_ok-guards-in-Protected : goal.returns-in_ok-guards-in-Protected
returns-in_ok-guards-in-Protected c =
    let self = c.args.self.now in
    let item = answered_query_of c.args.entry.now in
    record {
      current_is = amended_added (kept_user self) (kept_history self) item (profile_of self.current) (profile_of c.in_ok-user-in-Protected.user)
          c.law_added_secrets.ensures.grows c.in-Protected.is self.amended.current_is c.in_ok-user-in-Protected.ensures;
      guarding = record { schema_is = c.in_ok-guards-in-Protected.ensures.schema; guarded_are = c.in_ok-guards-in-Protected.ensures.guarded };
    }
