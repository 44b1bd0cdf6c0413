use Rattle.std.proofs.Common.{◌≤◌, ◌+◌, sym, ◌∙◌, subst}
use Rattle.cqe_base.specs.Formula.{nodes}
use Rattle.entailment.specs.Logs.{log_nodes}
use Rattle.entailment.specs.Views.{log_of}
use Rattle.entailment.specs.GroundSentences.{sentence_of}
use Rattle.turnstile.specs.Passes.{seen}
use Rattle.user_log.specs.Examiners.{examiner_schema, examiner_user}
use Rattle.user_log.specs.Examining.{lent_view, IsLent}
use Rattle.desk_counter.specs.Items.{history_of}
use Rattle.desk_counter.specs.Counters.{kept_by}
use Rattle.desk_counter.proofs.Asking.{looked_not}
use Rattle.desk_counter.proofs.Examining.{first_behind, examined_behind}
use Rattle.desk_counter.proofs.counter.CounterOf+TicketedDesk+D.examined.Goals as goal

pub returns-then-shares-eq-ALL_SHARES-clause-looked : goal.returns-then-shares-eq-ALL_SHARES-clause-looked
returns-then-shares-eq-ALL_SHARES-clause-looked g c = looked_not (kept_by c.args.self.now) c.args.pass.now

pub returns-then-is_large-clause-looked : goal.returns-then-is_large-clause-looked
returns-then-is_large-clause-looked g c = looked_not (kept_by c.args.self.now) c.args.pass.now

pub returns-in_err-query-clause-looked : goal.returns-in_err-query-clause-looked
returns-in_err-query-clause-looked g c = looked_not (kept_by c.args.self.now) c.args.pass.now

pub examine-requires-clause-schema : goal.examine-requires-clause-schema
examine-requires-clause-schema g c κs within = c.in_ok-lent.ensures.lent.schema_is ∙ sym c.args.self.now.schemed

pub examine-requires-clause-fits : goal.examine-requires-clause-fits
examine-requires-clause-fits g c κs within =
    let self = c.args.self.now in
    let lent = c.in_ok-lent.ensures.lent in
    let query = sentence_of c.in_ok-query.query in
    subst (λ s. log_nodes s (log_of (lent_view c.in_ok-lent.lent)) + nodes s query ≤ 60000) (sym self.schemed)
    (subst (λ told. log_nodes (kept_by self).schema told + nodes (kept_by self).schema query ≤ 60000) (sym lent.log_is) lent.fits)

pub returns-clause-examined : goal.returns-clause-examined
returns-clause-examined g c =
    let self = c.args.self.now in
    let query = sentence_of c.in_ok-query.query in
    let before = history_of (seen c.lend.new.pass) in
    let lent = subst (λ s. IsLent s (examiner_user self.examiner) before query c.in_ok-lent.lent) (sym self.schemed)
    (subst (λ u. IsLent (kept_by self).schema u before query c.in_ok-lent.lent) (sym self.owned) c.in_ok-lent.ensures.lent) in
    examined_behind (kept_by self) (seen c.lend.new.pass) c.args.text.now c.examine.result (examiner_schema self.examiner) (examiner_user self.examiner)
    self.schemed self.owned
    (λ later prefix. c.examine.ensures before (history_of later) c.args.text.now c.in_ok-query.ensures.read lent
    (first_behind (seen c.lend.new.pass) later prefix))
