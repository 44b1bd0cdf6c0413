use Rattle.std.proofs.Common.{◌≡◌, ◌≤◌, ◌+◌, [], refl, sym, ap, subst, ◌∙◌}
use Rattle.std.specs.Prelude.{Ok, IfSome}
use Rattle.std.proofs.lemmas.List.{append-nil}
use Rattle.cqe_base.specs.Formula.{nodes, is_sentence_of}
use Rattle.cqe_base.specs.Reading.{reading}
use Rattle.cqe_base.specs.History.{profile_of, user_at}
use Rattle.cqe_base.specs.Limits.{FitsProbes}
use Rattle.entailment.specs.Logs.{log_nodes}
use Rattle.entailment.specs.Views.{log_of}
use Rattle.entailment.specs.GroundSentences.{sentence_of, IsGroundOver}
use Rattle.user_log.specs.Examining.{lent_view, IsLentTo, IsExamined}
use Rattle.user_log.specs.UserLogs.{kept_schema, kept_user, kept_history}
use Rattle.user_log.specs.declared.log.UserLog.{UserLog}
use Rattle.user_log.proofs.SameLogs.{same_log}
use Rattle.user_log.proofs.log.UserLog.examined.Goals as goal

pub examined_after-requires-clause-fits : goal.examined_after-requires-clause-fits
examined_after-requires-clause-fits g c κs within =
    let self = c.lend_views.new.self in
    subst (λ s. FitsProbes s (profile_of self.current)) (sym self.amended.guarding.schema_is)
    (subst (FitsProbes (kept_schema self)) (sym self.amended.current_is)
    (c.law_amended_limits.ensures.probes (kept_schema self) (kept_user self) (kept_history self) self.kept.limits self.kept.sizes))

pub examined_after-requires-clause-guarded : goal.examined_after-requires-clause-guarded
examined_after-requires-clause-guarded g c κs within = c.lend_views.new.self.amended.guarding.guarded_are

pub examined_after-requires-clause-schema : goal.examined_after-requires-clause-schema
examined_after-requires-clause-schema g c κs within =
    c.in_ok-lent.ensures.lent.schema_is ∙ sym (c.lend_views.new.self.amended.guarding.schema_is ∙ ap kept_schema c.lend_views.ensures.same)

pub examined_after-requires-clause-sentence : goal.examined_after-requires-clause-sentence
examined_after-requires-clause-sentence g c κs within =
    let there = c.lend_views.new.self.amended.guarding.schema_is ∙ ap kept_schema c.lend_views.ensures.same in
    ap (λ s. is_sentence_of s (sentence_of c.in_ok-query.query)) there ∙ c.in_ok-query.ensures.sentence

pub examined_after-requires-clause-grounded : goal.examined_after-requires-clause-grounded
examined_after-requires-clause-grounded g c κs within =
    let there = c.lend_views.new.self.amended.guarding.schema_is ∙ ap kept_schema c.lend_views.ensures.same in
    subst (λ s. IsGroundOver s c.in_ok-query.query) (sym there) c.in_ok-query.ensures.grounded

pub examined_after-requires-clause-all_nodes : goal.examined_after-requires-clause-all_nodes
examined_after-requires-clause-all_nodes g c κs within =
    let there = c.lend_views.new.self.amended.guarding.schema_is ∙ ap kept_schema c.lend_views.ensures.same in
    let lent = c.in_ok-lent.ensures.lent in
    let query = sentence_of c.in_ok-query.query in
    subst (λ s. log_nodes s (log_of (lent_view c.in_ok-lent.lent)) + nodes s query ≤ 60000) (sym there)
    (subst (λ told. log_nodes (kept_schema c.args.self.now) told + nodes (kept_schema c.args.self.now) query ≤ 60000) (sym lent.log_is) lent.fits)

pub returns-clause-same : goal.returns-clause-same
returns-clause-same g c = same_log c.lend_views.new.self c.lend_views.new.self.views refl _ _ ∙ c.lend_views.ensures.same

pub returns-clause-examined : goal.returns-clause-examined
returns-clause-examined g c =
    let old = c.args.self.now in
    let new = c.lend_views.new.self in
    let user = kept_user old in
    let entries = kept_history old in
    let text = c.args.text.now in
    let query = sentence_of c.in_ok-query.query in
    let views = c.in_ok-lent.lent in
    let there = new.amended.guarding.schema_is ∙ ap kept_schema c.lend_views.ensures.same in
    let now_is : profile_of new.current ≡ user_at user entries =
    new.amended.current_is ∙ ap (λ (l : UserLog). user_at (kept_user l) (kept_history l)) c.lend_views.ensures.same in
    let read = subst (λ s. reading s text ≡ Ok query) (sym there) c.in_ok-query.ensures.read in
    let lent = subst (λ s. IsLentTo s user (profile_of new.current) entries query views) (sym there)
    (subst (λ now. IsLentTo (kept_schema old) user now entries query views) (sym now_is) c.in_ok-lent.ensures.lent) in
    subst (λ s. IfSome c.examined_after.result (IsExamined s user entries text)) there
    (c.examined_after.ensures user entries entries text read lent ([], sym (append-nil entries)))
