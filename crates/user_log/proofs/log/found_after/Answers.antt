use Rattle.std.proofs.Common.{◌≡◌, ◌≤◌, ◌+◌, [], true, sym, ap, subst, ◌∙◌}
use Rattle.std.proofs.lemmas.List.{append-nil}
use Rattle.std.specs.Prelude.{IfOk}
use Rattle.cqe_base.specs.Formula.{nodes, is_sentence_of}
use Rattle.cqe_base.specs.History.{profile_of}
use Rattle.cqe_base.specs.Limits.{FitsProbes}
use Rattle.entailment.specs.Logs.{log_nodes}
use Rattle.entailment.specs.Views.{LogView, schema_of, log_of, IsViewWithin}
use Rattle.entailment.specs.GroundSentences.{sentence_of, IsGroundOver}
use Rattle.censors.specs.Found.{HasFindings}
use Rattle.user_log.proofs.log.found_after.Goals as goal

pub examine-found-requires-clause-fits : goal.examine-found-requires-clause-fits
examine-found-requires-clause-fits c =
    subst (λ s. FitsProbes s (profile_of c.args.user.now)) (sym c.in_ok-view.ensures.schema) c.requires.fits

pub examine-found-requires-clause-guards_schema : goal.examine-found-requires-clause-guards_schema
examine-found-requires-clause-guards_schema c = c.requires.guards_schema ∙ sym c.in_ok-view.ensures.schema

pub examine-found-requires-clause-sentence : goal.examine-found-requires-clause-sentence
examine-found-requires-clause-sentence c =
    subst (λ s. is_sentence_of s (sentence_of c.args.query.now) ≡ true) (sym c.in_ok-view.ensures.schema) c.requires.sentence

pub examine-found-requires-clause-grounded : goal.examine-found-requires-clause-grounded
examine-found-requires-clause-grounded c = subst (λ s. IsGroundOver s c.args.query.now) (sym c.in_ok-view.ensures.schema) c.requires.grounded

pub examine-found-requires-clause-all_nodes : goal.examine-found-requires-clause-all_nodes
examine-found-requires-clause-all_nodes c =
    let views = c.args.views.now in
    let query = sentence_of c.args.query.now in
    subst (λ s. log_nodes s (log_of c.in_ok-view.view) + nodes s query ≤ 60000) (sym c.in_ok-view.ensures.schema)
    (subst (λ told. log_nodes (schema_of views) told + nodes (schema_of views) query ≤ 60000) (sym c.in_ok-view.ensures.log) c.requires.all_nodes)

pub put-requires : goal.put-requires
put-requires c =
    let view = c.examine-found.new.view in
    let told = ap log_of c.examine-found.ensures.same ∙ c.in_ok-view.ensures.log in
    subst (λ (w : LogView). IsViewWithin (schema_of w) (log_of w) view) (sym c.lend.ensures.same)
    (ap schema_of c.examine-found.ensures.same ∙ c.in_ok-view.ensures.schema, ([], sym told ∙ sym (append-nil (log_of view))))

pub returns-clause-findings : goal.returns-clause-findings
returns-clause-findings c =
    let views = c.args.views.now in
    let query = sentence_of c.args.query.now in
    let user = profile_of c.args.user.now in
    subst (λ told. IfOk c.examine-found.result (HasFindings (schema_of views) user told query)) c.in_ok-view.ensures.log
    (subst (λ s. IfOk c.examine-found.result (HasFindings s user (log_of c.in_ok-view.view) query)) c.in_ok-view.ensures.schema
    c.examine-found.ensures.findings)

pub returns-clause-same : goal.returns-clause-same
returns-clause-same c = c.put.ensures ∙ c.lend.ensures.same
