use Rattle.std.proofs.Common.{◌≡◌, ◌≤◌, ◌+◌, sym, ap, subst, ◌∙◌}
use Rattle.std.specs.Prelude.{Ok, IfSome}
use Rattle.cqe_base.specs.Formula.{nodes, is_sentence_of}
use Rattle.cqe_base.specs.Reading.{reading}
use Rattle.cqe_base.specs.Limits.{FitsProbes}
use Rattle.entailment.specs.Logs.{log_nodes}
use Rattle.entailment.specs.Views.{log_of}
use Rattle.entailment.specs.GroundSentences.{sentence_of, IsGroundOver}
use Rattle.user_log.specs.Examiners.{examiner_schema, examiner_user}
use Rattle.user_log.specs.Examining.{lent_view, IsLent, IsExamined}
use Rattle.user_log.proofs.examiner.Examiner.examine.Goals as goal

pub examined_after-requires-clause-fits : goal.examined_after-requires-clause-fits
examined_after-requires-clause-fits g c κs within =
    let self = c.args.self.now in
    subst (λ s. FitsProbes s (examiner_user self)) (sym self.guarding.schema_is)
    (c.law_limits.ensures.probes (examiner_schema self) (examiner_user self) self.limits)

pub examined_after-requires-clause-guarded : goal.examined_after-requires-clause-guarded
examined_after-requires-clause-guarded g c κs within = c.args.self.now.guarding.guarded_are

pub examined_after-requires-clause-schema : goal.examined_after-requires-clause-schema
examined_after-requires-clause-schema g c κs within = c.requires.schema ∙ sym c.args.self.now.guarding.schema_is

pub examined_after-requires-clause-sentence : goal.examined_after-requires-clause-sentence
examined_after-requires-clause-sentence g c κs within =
    ap (λ s. is_sentence_of s (sentence_of c.args.query)) c.args.self.now.guarding.schema_is ∙ c.requires.sentence

pub examined_after-requires-clause-grounded : goal.examined_after-requires-clause-grounded
examined_after-requires-clause-grounded g c κs within =
    subst (λ s. IsGroundOver s c.args.query) (sym c.args.self.now.guarding.schema_is) c.requires.grounded

pub examined_after-requires-clause-all_nodes : goal.examined_after-requires-clause-all_nodes
examined_after-requires-clause-all_nodes g c κs within =
    subst (λ s. log_nodes s (log_of (lent_view c.args.lent)) + nodes s (sentence_of c.args.query) ≤ 60000) (sym c.args.self.now.guarding.schema_is)
    c.requires.fits

pub returns : goal.returns
returns g c before entries text read lent first =
    let self = c.args.self.now in
    let same = self.guarding.schema_is in
    let query = sentence_of c.args.query in
    subst (λ s. IfSome c.examined_after.result (IsExamined s (examiner_user self) entries text)) same
    (c.examined_after.ensures (examiner_user self) before entries text (subst (λ s. reading s text ≡ Ok query) (sym same) read)
    (subst (λ s. IsLent s (examiner_user self) before query c.args.lent) (sym same) lent) first)
