use Rattle.std.proofs.Common.{◌≡◌, ◌≤◌, ◌+◌, ◌++◌, true, false, take, sym, ap, subst, ◌∙◌}
use Rattle.cqe_base.specs.Formula.{formula_of, nodes, is_sentence_of}
use Rattle.cqe_base.specs.History.{profile_of, answered_query_of, told_by, log}
use Rattle.entailment.specs.Logs.{log_nodes}
use Rattle.entailment.specs.Views.{log_of}
use Rattle.two_worlds.proofs.Told.{history_of, before_and, sizes_at}
use Rattle.two_worlds.proofs.worlds.told_view.Goals as goal

pub tell-requires-clause-sentence : goal.tell-requires-clause-sentence
tell-requires-clause-sentence c =
    let sizes = sizes_at c.args.entries.now c.loop-entry.entry-index c.entry-item.result c.entry-item.is c.loop-entry-test.true c.args.schema.now
    (profile_of c.args.user.now) c.requires.sizes in
    subst (λ schema. is_sentence_of schema (formula_of c.entry-item.result.query) ≡ true) (sym c.loop-entry.invariant.schema) sizes.sentence

pub tell-requires-clause-query : goal.tell-requires-clause-query
tell-requires-clause-query c =
    let sizes = sizes_at c.args.entries.now c.loop-entry.entry-index c.entry-item.result c.entry-item.is c.loop-entry-test.true c.args.schema.now
    (profile_of c.args.user.now) c.requires.sizes in
    let fits = c.law_limits.ensures.queries c.args.schema.now (profile_of c.args.user.now) (take c.loop-entry.entry-index (history_of c.args.entries.now))
    (formula_of c.entry-item.result.query) c.requires.limits sizes.small in
    subst (λ schema. nodes schema (formula_of c.entry-item.result.query) ≤ 20000) (sym c.loop-entry.invariant.schema) fits.query_nodes

pub tell-requires-clause-room : goal.tell-requires-clause-room
tell-requires-clause-room c =
    let sizes = sizes_at c.args.entries.now c.loop-entry.entry-index c.entry-item.result c.entry-item.is c.loop-entry-test.true c.args.schema.now
    (profile_of c.args.user.now) c.requires.sizes in
    let fits = c.law_limits.ensures.queries c.args.schema.now (profile_of c.args.user.now) (take c.loop-entry.entry-index (history_of c.args.entries.now))
    (formula_of c.entry-item.result.query) c.requires.limits sizes.small in
    subst (λ schema. log_nodes schema (log_of c.loop-entry.view) + (1 + nodes schema (formula_of c.entry-item.result.query))
    ≤ 60000) (sym c.loop-entry.invariant.schema)
    (subst (λ told. log_nodes c.args.schema.now told + (1 + nodes c.args.schema.now (formula_of c.entry-item.result.query))
    ≤ 60000) (sym c.loop-entry.invariant.log) (fits.log_nodes false))

pub loop-entry-preserved : goal.loop-entry-preserved
loop-entry-preserved c =
    let user = profile_of c.args.user.now in
    record {
      nodes = c.in_ok-tell.ensures.nodes;
      schema = c.in_ok-tell.ensures.schema ∙ c.loop-entry.invariant.schema;
      log = c.in_ok-tell.ensures.log ∙ ap (λ told. told ++ told_by c.entry-item.result.mark (formula_of c.entry-item.result.query)) c.loop-entry.invariant.log
          ∙ sym (c.law_logs.ensures.grows user (take c.loop-entry.entry-index (history_of c.args.entries.now)) (answered_query_of c.entry-item.result))
          ∙ ap (log user) (sym (before_and c.args.entries.now c.loop-entry.entry-index c.entry-item.result c.entry-item.is c.loop-entry-test.true));
    }
