use Rattle.std.proofs.Common.{◌≡◌, ◌≤◌, ◌+◌, true, sym, ap, subst, ◌∙◌}
use Rattle.cqe_base.specs.Formula.{nodes, is_sentence_of}
use Rattle.cqe_base.specs.Limits.{FitsProbes}
use Rattle.cqe_base.specs.History.{profile_of, log}
use Rattle.entailment.specs.Logs.{log_nodes}
use Rattle.entailment.specs.Views.{LogView, schema_of, log_of, IsLogBeginning}
use Rattle.entailment.specs.GroundSentences.{sentence_of, IsGroundOver}
use Rattle.user_log.proofs.Examining.{log_on, found_whole}
use Rattle.user_log.proofs.examiner.examined_after.Goals as goal

pub examine_beside-requires-clause-fits : goal.examine_beside-requires-clause-fits
examine_beside-requires-clause-fits g c κs within = subst (λ s. FitsProbes s (profile_of c.args.user.now)) (sym c.requires.schema) c.requires.fits

pub examine_beside-requires-clause-guards_schema : goal.examine_beside-requires-clause-guards_schema
examine_beside-requires-clause-guards_schema g c κs within = sym c.requires.schema

pub examine_beside-requires-clause-guarded : goal.examine_beside-requires-clause-guarded
examine_beside-requires-clause-guarded g c κs within = c.requires.guarded

pub examine_beside-requires-clause-sentence : goal.examine_beside-requires-clause-sentence
examine_beside-requires-clause-sentence g c κs within =
    subst (λ s. is_sentence_of s (sentence_of c.args.query) ≡ true) (sym c.requires.schema) c.requires.sentence

pub examine_beside-requires-clause-grounded : goal.examine_beside-requires-clause-grounded
examine_beside-requires-clause-grounded g c κs within = subst (λ s. IsGroundOver s c.args.query) (sym c.requires.schema) c.requires.grounded

pub examine_beside-requires-clause-all_nodes : goal.examine_beside-requires-clause-all_nodes
examine_beside-requires-clause-all_nodes g c κs within =
    subst (λ s. log_nodes s (log_of c.args.lent.views) + nodes s (sentence_of c.args.query) ≤ 60000) (sym c.requires.schema) c.requires.all_nodes

pub returns-in-Ok : goal.returns-in-Ok
returns-in-Ok g c whose before entries text read lent first =
    let schema = c.args.guards.now.schema in
    let views = c.args.lent.views in
    let same = c.examine_beside.ensures.same in
    let query = sentence_of c.args.query in
    let begins : IsLogBeginning (log whose before) (log whose entries) =
    subst (λ es. IsLogBeginning (log whose before) (log whose es)) (sym first.1) (log_on c.law_logs.ensures.grows whose before first.0) in
    record {
      read = read;
      grounded = c.requires.grounded;
      within = (
        ap schema_of same ∙ c.requires.schema,
        subst (λ (w : LogView). IsLogBeginning (log_of w) (log whose entries)) (sym same)
            (subst (λ told. IsLogBeginning told (log whose entries)) (sym lent.log_is) begins),
      );
      findings = λ many. found_whole schema whose (profile_of c.args.user.now) before entries query views c.in-Ok.findings c.requires.schema lent.log_is
          lent.now_is first (sym lent.items_are ∙ many) c.in-Ok.ensures.findings;
    }
