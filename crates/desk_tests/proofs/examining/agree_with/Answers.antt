use Rattle.std.proofs.Common.{◌≡◌, ◌≤◌, ◌+◌, ◌∙◌, true, sym, ap, subst, arith}
use Rattle.cqe_base.specs.declared.user.User.{User}
use Rattle.cqe_base.specs.Schema.{DatabaseSchema}
use Rattle.cqe_base.specs.Formula.{nodes, is_sentence_of}
use Rattle.cqe_base.specs.History.{known, profile_of}
use Rattle.cqe_base.specs.Limits.{FitsProbes}
use Rattle.cqe_base.specs.Censor.{guarded}
use Rattle.entailment.specs.Logs.{log_nodes}
use Rattle.entailment.specs.Views.{LogView, schema_of, log_of}
use Rattle.entailment.specs.GroundSentences.{sentence_of, IsGroundOver}
use Rattle.entailment.specs.declared.sentences.GroundSentence.{GroundSentence}
use Rattle.censors.specs.Guards.{GuardedSentences}
use Rattle.censors.specs.Parts.{CanBeExamined}
use Rattle.desk_tests.proofs.examining.agree_with.Goals as goal

-- a small query can be examined over what a user who fits his probes knows
can_be_examined : (schema : DatabaseSchema) (guards : GuardedSentences) (user : User) (query : GroundSentence) (views : LogView)
    → schema_of views ≡ schema → log_of views ≡ known (profile_of user)
    → FitsProbes schema (profile_of user) → guards.schema ≡ schema → guards.sentences ≡ guarded (profile_of user)
    → is_sentence_of schema (sentence_of query) ≡ true → nodes schema (sentence_of query) ≤ 1000 → IsGroundOver schema query
    → CanBeExamined guards user query views
can_be_examined schema guards user query views of-schema of-log fits guards-schema guarded-are sentence small grounded =
    let there = sym of-schema in
    let few : log_nodes schema (known (profile_of user)) ≤ 40000 = fits.known_nodes in
    record {
      fits = subst (λ s. FitsProbes s (profile_of user)) there fits;
      guards_schema = guards-schema ∙ there;
      guarded_are = guarded-are;
      sentence = ap (λ s. is_sentence_of s (sentence_of query)) of-schema ∙ sentence;
      grounded = subst (λ s. IsGroundOver s query) there grounded;
      all_nodes = subst (λ s. log_nodes s (log_of views) + nodes s (sentence_of query) ≤ 60000) there
          (subst (λ l. log_nodes schema l + nodes schema (sentence_of query) ≤ 60000) (sym of-log) (omega (arith, few, small)));
    }

pub found_plainly-requires : goal.found_plainly-requires
found_plainly-requires g c =
    let views = c.in_ok-views in
    let needs = c.requires in
    let fits = c.law_limits.ensures.probes c.args.clinic.now.schema (profile_of c.args.user.now) needs.limits in
    can_be_examined c.args.clinic.now.schema c.args.guards.now c.args.user.now c.args.query.now views.views views.ensures.schema views.ensures.log
    fits needs.schema needs.guarded needs.sentence needs.small needs.grounded

pub found_beside-requires-after_bounds : goal.found_beside-requires-after_bounds
found_beside-requires-after_bounds g c κs within =
    let views = c.in_ok-views in
    let needs = c.requires in
    let fits = c.law_limits.ensures.probes c.args.clinic.now.schema (profile_of c.args.user.now) needs.limits in
    subst (λ (w : LogView). CanBeExamined c.args.guards.now c.args.user.now c.args.query.now w) (sym c.found_plainly.ensures)
    (can_be_examined c.args.clinic.now.schema c.args.guards.now c.args.user.now c.args.query.now views.views views.ensures.schema views.ensures.log
    fits needs.schema needs.guarded needs.sentence needs.small needs.grounded)
