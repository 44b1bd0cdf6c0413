use Rattle.std.proofs.Common.{◌≡◌, ◌≤◌, nat_le, true, length, map, sym, ap, subst, ◌∙◌, arith}
use Rattle.std.proofs.lemmas.List.{length-map}
use Rattle.std.proofs.lemmas.Result.{IfOk-weaker}
use Rattle.std.proofs.lemmas.Bool.{leb-true}
use Rattle.cqe_base.specs.Formula.{formula_of, nodes, is_sentence_of}
use Rattle.cqe_base.specs.Outcome.{outcome}
use Rattle.cqe_base.specs.Entailment.{entails, IsCountermodel}
use Rattle.cqe_base.specs.History.{profile_of, answered_query_of, log, user_at}
use Rattle.cqe_base.specs.Limits.{FitsProbes}
use Rattle.cqe_base.specs.OtherWorlds.{guard_at}
use Rattle.cqe_base.specs.Censor.{admission_budget}
use Rattle.entailment.specs.Views.{schema_of, log_of}
use Rattle.entailment.specs.GroundSentences.{sentence_of, IsGroundOver}
use Rattle.entailment.specs.Verdicts.{verdict_of_probe}
use Rattle.two_worlds.specs.Others.{HidesSecret}
use Rattle.two_worlds.specs.OtherWorld.{world_in}
use Rattle.two_worlds.proofs.HiddenSecrets.{unknown, guard_passes, hidden, of_found, one-for-lies}
use Rattle.two_worlds.proofs.worlds.other_world.Goals as goal

pub ground_guard-requires-clause-fits : goal.ground_guard-requires-clause-fits
ground_guard-requires-clause-fits c =
    subst (FitsProbes c.args.schema.now) (sym c.in_ok-amended.ensures)
    (c.law_amended_limits.ensures.probes c.args.schema.now (profile_of c.args.user.now) (map answered_query_of c.args.entries.now)
    c.requires.limits c.requires.sizes)

pub ground_guard-requires-clause-secret : goal.ground_guard-requires-clause-secret
ground_guard-requires-clause-secret c =
    let amended = c.in_ok-amended.amended in
    let secrets = ap (λ u. length u.secrets) c.in_ok-amended.ensures in
    omega (arith, secrets, length-map amended.secrets.items formula_of, amended.secrets.ok.0, c.requires.secret)

pub countermodel-requires-clause-sentence : goal.countermodel-requires-clause-sentence
countermodel-requires-clause-sentence c =
    let user = profile_of c.args.user.now in
    let entries = map answered_query_of c.args.entries.now in
    let fits = c.law_amended_limits.ensures.probes c.args.schema.now user entries c.requires.limits c.requires.sizes in
    let guards = c.in_ok-goal.ensures.guard ∙ ap (λ u. guard_at u c.args.secret) c.in_ok-amended.ensures in
    (λ k. is_sentence_of (c.in_ok-view.ensures.schema k) (guards k))
    ∙ guard_passes (user_at user entries) c.args.secret c.requires.secret (is_sentence_of c.args.schema.now) fits.guarded_sentences

pub countermodel-requires-clause-grounded : goal.countermodel-requires-clause-grounded
countermodel-requires-clause-grounded c =
    subst (λ schema. IsGroundOver schema c.in_ok-goal.goal) (sym c.in_ok-view.ensures.schema) c.in_ok-goal.ensures.grounded

pub countermodel-requires-clause-goal_nodes : goal.countermodel-requires-clause-goal_nodes
countermodel-requires-clause-goal_nodes c =
    let user = profile_of c.args.user.now in
    let entries = map answered_query_of c.args.entries.now in
    let fits = c.law_amended_limits.ensures.probes c.args.schema.now user entries c.requires.limits c.requires.sizes in
    let guards = c.in_ok-goal.ensures.guard ∙ ap (λ u. guard_at u c.args.secret) c.in_ok-amended.ensures in
    let same : nodes (schema_of c.in_ok-view.view) (sentence_of c.in_ok-goal.goal) ≡ nodes c.args.schema.now (guard_at (user_at user entries) c.args.secret) =
    λ k. nodes (c.in_ok-view.ensures.schema k) (guards k) in
    subst (λ n. n ≤ 40000) (sym same) (leb-true _ 40000
    (guard_passes (user_at user entries) c.args.secret c.requires.secret (λ goal. nat_le (nodes c.args.schema.now goal) 40000) fits.guarded_nodes))

pub returns-clause-spent : goal.returns-clause-spent
returns-clause-spent c =
    let user = profile_of c.args.user.now in
    let entries = map answered_query_of c.args.entries.now in
    let guards = c.in_ok-goal.ensures.guard ∙ ap (λ u. guard_at u c.args.secret) c.in_ok-amended.ensures in
    let same : outcome (schema_of c.in_ok-view.view) (log_of c.in_ok-view.view) (sentence_of c.in_ok-goal.goal, true) admission_budget
    ≡ outcome c.args.schema.now (log user entries) (guard_at (user_at user entries) c.args.secret, true) admission_budget =
    λ k. outcome (c.in_ok-view.ensures.schema k) (c.in_ok-view.ensures.log k) (guards k, true) admission_budget in
    IfOk-weaker c.countermodel.result _ _
    (λ found both. (λ none. sym same ∙ both.0 none, λ spent. both.1 (same ∙ spent)))
    c.countermodel.ensures.spent

pub countermodel-requires-clause-unknown : goal.countermodel-requires-clause-unknown
countermodel-requires-clause-unknown c =
    let user = profile_of c.args.user.now in
    let entries = map answered_query_of c.args.entries.now in
    let guards = c.in_ok-goal.ensures.guard ∙ ap (λ u. guard_at u c.args.secret) c.in_ok-amended.ensures in
    (λ k. entails (c.in_ok-view.ensures.schema k) (c.in_ok-view.ensures.log k) (guards k, true))
    ∙ unknown c.args.schema.now user entries c.args.secret c.requires.secret c.law_admissible.ensures c.law_alike.ensures.kept c.known.ensures
    c.requires.limits.sentences (c.law_sizes.ensures.of_schema c.args.schema.now user entries c.requires.sizes) c.requires.legal

pub returns-clause-hides : goal.returns-clause-hides
returns-clause-hides c =
    let user = profile_of c.args.user.now in
    let entries = map answered_query_of c.args.entries.now in
    let guards = c.in_ok-goal.ensures.guard ∙ ap (λ u. guard_at u c.args.secret) c.in_ok-amended.ensures in
    of_found (IsCountermodel (schema_of c.in_ok-view.view) (log_of c.in_ok-view.view) (sentence_of c.in_ok-goal.goal, true))
    (HidesSecret c.args.schema.now user entries c.args.secret)
    (λ other is. hidden c.args.schema.now user entries c.args.secret c.requires.secret other c.law_alike.ensures.disjunctions c.law_alike.ensures.alike
    c.law_alike.ensures.replies c.requires.legal
    (subst (λ schema. IsCountermodel schema (log user entries) (guard_at (user_at user entries) c.args.secret, true) other) c.in_ok-view.ensures.schema
    (subst (λ told. IsCountermodel (schema_of c.in_ok-view.view) told (guard_at (user_at user entries) c.args.secret, true) other)
    c.in_ok-view.ensures.log
    (subst (λ goal. IsCountermodel (schema_of c.in_ok-view.view) (log_of c.in_ok-view.view) (goal, true) other) guards is))))
    c.countermodel.result c.countermodel.ensures.open

pub returns-clause-world : goal.returns-clause-world
returns-clause-world c =
    let guards = c.in_ok-goal.ensures.guard ∙ ap (λ u. guard_at u c.args.secret) c.in_ok-amended.ensures in
    IfOk-weaker c.countermodel.result _ _
    (λ found is. is ∙ λ k. world_in (verdict_of_probe (c.in_ok-view.ensures.schema k) (c.in_ok-view.ensures.log k) (guards k, true) admission_budget))
    c.countermodel.ensures.world

pub returns-clause-one_for_lies : goal.returns-clause-one_for_lies
returns-clause-one_for_lies c =
    IfOk-weaker c.countermodel.result _ _
    (one-for-lies c.args.schema.now (profile_of c.args.user.now)
    (map answered_query_of c.args.entries.now) c.args.secret)
    (returns-clause-world c)
