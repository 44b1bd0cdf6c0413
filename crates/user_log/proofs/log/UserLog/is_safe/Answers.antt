use Rattle.std.proofs.Common.{◌≤◌, true, sym, subst, ◌∙◌, arith}
use Rattle.std.proofs.lemmas.Bool.{or_parts}
use Rattle.cqe_base.specs.Formula.{formula_of}
use Rattle.cqe_base.specs.Run.{is_too_large}
use Rattle.cqe_base.specs.Limits.{FitsAddition}
use Rattle.cqe_base.specs.Censor.{safe_with}
use Rattle.entailment.specs.Logs.{log_nodes}
use Rattle.user_log.specs.UserLogs.{kept_schema, kept_user, kept_history}
use Rattle.user_log.proofs.SameLogs.{kept_with, same_log}
use Rattle.user_log.proofs.log.UserLog.is_safe.Goals as goal

pub safe_after-requires-clause-schema : goal.safe_after-requires-clause-schema
safe_after-requires-clause-schema c = c.args.self.now.kept.schema_is

pub safe_after-requires-clause-addition : goal.safe_after-requires-clause-addition
safe_after-requires-clause-addition c =
    let self = c.args.self.now in
    subst (λ user. FitsAddition (kept_schema self) user (formula_of c.args.secret.now)) (sym self.amended.current_is)
    (c.law_amended_limits.ensures.additions (kept_schema self) (kept_user self) (kept_history self) (formula_of c.args.secret.now) self.kept.limits
    self.kept.sizes c.requires.sentence c.requires.small)

pub safe_after-requires-clause-log_nodes : goal.safe_after-requires-clause-log_nodes
safe_after-requires-clause-log_nodes c =
    let self = c.args.self.now in
    let secret = formula_of c.args.secret.now in
    let small = (or_parts (is_too_large (kept_schema self) (kept_user self) (kept_history self) secret) _ c.requires.small).0 in
    let fits = c.law_limits.ensures.queries (kept_schema self) (kept_user self) (kept_history self) secret self.kept.limits small in
    let room = fits.log_nodes true in
    subst (λ told. log_nodes (kept_schema self) told ≤ 60000) (sym self.kept.log_is) (omega (arith, room))

pub invariant_of-self : goal.invariant_of-self
invariant_of-self c = record { kept = kept_with c.args.self.now c.safe_after.new.views c.safe_after.ensures.same; amended = c.args.self.now.amended }

pub returns-in_err-safe-clause-same : goal.returns-in_err-safe-clause-same
returns-in_err-safe-clause-same c = same_log c.args.self.now c.safe_after.new.views c.safe_after.ensures.same _ _

pub returns-clause-same : goal.returns-clause-same
returns-clause-same c = same_log c.args.self.now c.safe_after.new.views c.safe_after.ensures.same _ _

pub returns-clause-safe : goal.returns-clause-safe
returns-clause-safe c =
    let self = c.args.self.now in
    c.in_ok-safe.ensures.safe
    ∙ (λ k. safe_with (kept_schema self) (self.amended.current_is k) (self.kept.log_is k) (formula_of c.args.secret.now))
