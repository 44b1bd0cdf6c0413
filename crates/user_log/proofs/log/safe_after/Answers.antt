use Rattle.std.proofs.Common.{◌≡◌, ◌≤◌, [], sym, ap, subst, ◌∙◌}
use Rattle.std.proofs.lemmas.List.{append-nil}
use Rattle.std.specs.Prelude.{IfOk}
use Rattle.cqe_base.specs.Formula.{formula_of}
use Rattle.cqe_base.specs.History.{profile_of}
use Rattle.cqe_base.specs.Censor.{safe_with}
use Rattle.entailment.specs.Logs.{log_nodes}
use Rattle.entailment.specs.Views.{LogView, schema_of, log_of, IsViewWithin}
use Rattle.user_log.proofs.log.safe_after.Goals as goal

pub safe_with-safe-requires-clause-schema : goal.safe_with-safe-requires-clause-schema
safe_with-safe-requires-clause-schema c = c.in_ok-view.ensures.schema ∙ c.requires.schema

pub safe_with-safe-requires-clause-addition : goal.safe_with-safe-requires-clause-addition
safe_with-safe-requires-clause-addition c = c.requires.addition

pub safe_with-safe-requires-clause-log_nodes : goal.safe_with-safe-requires-clause-log_nodes
safe_with-safe-requires-clause-log_nodes c =
    subst (λ told. log_nodes c.args.schema.now told ≤ 60000) (sym c.in_ok-view.ensures.log) c.requires.log_nodes

pub put-requires : goal.put-requires
put-requires c =
    let view = c.safe_with-safe.new.view in
    let told = ap log_of c.safe_with-safe.ensures.same ∙ c.in_ok-view.ensures.log in
    subst (λ (w : LogView). IsViewWithin (schema_of w) (log_of w) view) (sym c.lend.ensures.same)
    (ap schema_of c.safe_with-safe.ensures.same ∙ c.in_ok-view.ensures.schema, ([], sym told ∙ sym (append-nil (log_of view))))

pub returns-clause-safe : goal.returns-clause-safe
returns-clause-safe c =
    subst (λ told. IfOk c.safe_with-safe.result (λ safe. safe ≡ safe_with c.args.schema.now (profile_of c.args.user.now) told (formula_of c.args.secret.now)))
    c.in_ok-view.ensures.log c.safe_with-safe.ensures.safe

pub returns-clause-same : goal.returns-clause-same
returns-clause-same c = c.put.ensures ∙ c.lend.ensures.same
