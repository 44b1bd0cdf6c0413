use Rattle.std.proofs.Common.{true, refl, sym, ◌∙◌}
use Rattle.std.proofs.lemmas.List.{length-map}
use Rattle.cqe_base.specs.History.{answered_query_of}
use Rattle.entailment.specs.GroundSentences.{sentence_of}
use Rattle.user_log.specs.UserLogs.{kept_schema, kept_user, kept_history}
use Rattle.user_log.proofs.SameLogs.{kept_with, same_log}
use Rattle.user_log.proofs.log.UserLog.lend_views.Goals as goal

pub invariant_of-self : goal.invariant_of-self
invariant_of-self c = record {
  kept = kept_with c.args.self.now c.lend.new.views c.lend.ensures.same;
  amended = c.args.self.now.amended;
}

pub returns-in-Ok-clause-same : goal.returns-in-Ok-clause-same
returns-in-Ok-clause-same c = same_log c.args.self.now c.lend.new.views c.lend.ensures.same _ _

pub returns-in-Ok-clause-lent : goal.returns-in-Ok-clause-lent
returns-in-Ok-clause-lent c =
    let self = c.args.self.now in
    let fits = c.law_limits.ensures.queries (kept_schema self) (kept_user self) (kept_history self) (sentence_of c.args.query.now)
    self.kept.limits c.in_default.ensures.small in
    record {
      schema_is = c.in-Ok.ensures.schema ∙ self.kept.schema_is;
      log_is = c.in-Ok.ensures.log ∙ self.kept.log_is;
      items_are = c.len-items.ensures ∙ self.entries.ok.0 ∙ sym (length-map self.entries.items answered_query_of);
      now_is = refl;
      fits = fits.log_nodes true;
    }

pub returns-in-Err-clause-same : goal.returns-in-Err-clause-same
returns-in-Err-clause-same c = same_log c.args.self.now c.lend.new.views c.lend.ensures.same _ _
