use Rattle.std.proofs.Common.{◌≤◌, ◌+◌, ◌++◌, arith, sym, ap, subst, ◌∙◌}
use Rattle.std.proofs.lemmas.Grind.{common_steps}
use Rattle.cqe_base.specs.Formula.{formula_of, nodes, is_sentence_of}
use Rattle.cqe_base.specs.History.{profile_of, log, told_by, signed_nodes}
use Rattle.entailment.specs.Logs.{log_nodes}
use Rattle.entailment.specs.Views.{log_of}
use Rattle.user_log.specs.Prepared.{prepared_entry}
use Rattle.user_log.specs.UserLogs.{kept_schema, kept_user, kept_history}
use Rattle.user_log.proofs.Keeping.{kept_push, amended_behind}
use Rattle.user_log.proofs.log.UserLog.commit.Goals as goal

pub tell-requires-clause-sentence : goal.tell-requires-clause-sentence
tell-requires-clause-sentence c =
    (λ k. is_sentence_of (c.args.self.now.kept.schema_is k) (c.requires.told k)) ∙ c.requires.sizes.sentence

pub tell-requires-clause-query : goal.tell-requires-clause-query
tell-requires-clause-query c =
    let before = c.args.self.now in
    let fits = c.law_limits.ensures.queries (kept_schema before) (kept_user before) (kept_history before)
    (prepared_entry c.args.prepared).query before.kept.limits c.requires.sizes.small in
    subst (λ s. nodes s (formula_of c.args.prepared.told) ≤ 20000) (sym before.kept.schema_is)
    (subst (λ q. nodes (kept_schema before) q ≤ 20000) (sym c.requires.told) fits.query_nodes)

pub tell-requires-clause-nodes : goal.tell-requires-clause-nodes
tell-requires-clause-nodes c =
    let before = c.args.self.now in
    let fits = c.law_limits.ensures.queries (kept_schema before) (kept_user before) (kept_history before)
    (prepared_entry c.args.prepared).query before.kept.limits c.requires.sizes.small in
    λ yes. subst (λ s. log_nodes s (log_of before.views) + signed_nodes s (formula_of c.args.prepared.told) yes ≤ 60000) (sym before.kept.schema_is)
    (subst (λ told. log_nodes (kept_schema before) told + signed_nodes (kept_schema before) (formula_of c.args.prepared.told) yes
    ≤ 60000) (sym before.kept.log_is)
    (subst (λ q. log_nodes (kept_schema before) (log (kept_user before) (kept_history before)) + signed_nodes (kept_schema before) q yes
    ≤ 60000) (sym c.requires.told) (fits.log_nodes yes)))

pub invariant_of-self : goal.invariant_of-self
invariant_of-self c =
    let before = c.args.self.now in
    let entry = prepared_entry c.args.prepared in
    record {
      kept = kept_push _ _ _ _ _ entry _ _ _ _ _ _ _ _ before.kept c.law_legal_grows.ensures.grows c.law_logs.ensures.grows
          c.law_added_secrets.ensures.grows c.requires.sizes c.requires.legal
          (grind (arith, common_steps)) c.tell.ensures.schema
          (c.tell.ensures.told ∙ ap (λ q. log_of before.views ++ told_by entry.mark q) c.requires.told) c.from.ensures c.requires.nodes;
      amended = amended_behind (kept_schema before) (kept_user before) (kept_history before) _ entry c.args.prepared.amended
          (profile_of before.current) (profile_of c.amend.new.current) before.guards c.amend.new.guarding c.law_added_secrets.ensures.grows
          (grind (arith, common_steps)) c.requires.amended c.amend.ensures before.amended;
    }
