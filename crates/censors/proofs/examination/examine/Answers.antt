use Rattle.std.proofs.Common.{map, sym, ap, subst, ◌∙◌}
use Rattle.cqe_base.specs.History.{profile_of}
use Rattle.cqe_base.specs.Censor.{guarded}
use Rattle.entailment.specs.Views.{schema_of, log_of}
use Rattle.entailment.specs.GroundSentences.{sentence_of}
use Rattle.censors.specs.Found.{HasFindings}
use Rattle.censors.proofs.Found.{found_by, same_harms}
use Rattle.censors.proofs.Costs.{spent-by-cost, decide-undecided}
use Rattle.censors.proofs.examination.examine.Goals as goal

pub returns-clause-findings : goal.returns-clause-findings
returns-clause-findings c =
    let view = c.args.view.now in
    let user = profile_of c.args.user.now in
    let query = sentence_of c.args.query.now in
    let same = c.in_ok-implied.ensures.same in
    subst (HasFindings (schema_of view) user (log_of view) query) (sym c.found.ensures)
    (found_by (schema_of view) user (log_of view) query c.in_ok-implied.implied c.in_ok-implied.ensures.implied c.in_ok-harms.harms
    (same_harms (schema_of c.ask_implied.new.view) (schema_of view) (log_of c.ask_implied.new.view) (log_of view)
    (map sentence_of c.sentences.result.now) (guarded user)
    (ap schema_of same) (ap log_of same) (c.sentences.ensures.sentences ∙ c.requires.guarded) user.budget
    query c.in_ok-harms.harms c.in_ok-harms.ensures.harms))

pub returns-clause-spent : goal.returns-clause-spent
returns-clause-spent c =
    spent-by-cost c.law_spent_is_cost.ensures (schema_of c.args.view.now) (profile_of c.args.user.now) (log_of c.args.view.now)
    (sentence_of c.args.query.now) _ (returns-clause-findings c)

pub returns-clause-undecided : goal.returns-clause-undecided
returns-clause-undecided c =
    decide-undecided c.law_undecided_is_cost.ensures (schema_of c.args.view.now) (profile_of c.args.user.now) (log_of c.args.view.now)
    (sentence_of c.args.query.now) c.found.result (returns-clause-spent c)
