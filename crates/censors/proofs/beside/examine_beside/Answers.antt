use Rattle.std.proofs.Common.{◌∙◌, sym, ap, subst}
use Rattle.cqe_base.specs.History.{profile_of}
use Rattle.entailment.specs.Views.{LogView, schema_of, log_of}
use Rattle.entailment.specs.GroundSentences.{sentence_of}
use Rattle.censors.specs.Found.{HasFindings}
use Rattle.censors.specs.Lent.{first_view, AreTogether}
use Rattle.censors.specs.Parts.{CanBeExamined}
use Rattle.censors.proofs.Costs.{spent-by-cost, decide-undecided}
use Rattle.censors.proofs.beside.examine_beside.Goals as goal

pub examine_held-requires-clause-together : goal.examine_held-requires-clause-together
examine_held-requires-clause-together g c _ _ = c.lent.invariant

pub examine_held-requires-clause-can : goal.examine_held-requires-clause-can
examine_held-requires-clause-can g c _ _ =
    subst (λ (w : LogView). CanBeExamined c.args.guards.now c.args.user.now c.args.query.now w) (sym c.lent.view_is)
    (record {
      fits = c.requires.fits;
      guards_schema = c.requires.guards_schema;
      guarded_are = c.requires.guarded;
      sentence = c.requires.sentence;
      grounded = c.requires.grounded;
      all_nodes = c.requires.all_nodes;
    })

-- the views are as they were, whether findings came or memory was wanting
pub invariant_of-lent : goal.invariant_of-lent
invariant_of-lent g c = subst AreTogether (sym c.examine_held.ensures.same) c.lent.invariant

pub invariant_of-lent-2 : goal.invariant_of-lent-2
invariant_of-lent-2 g c = subst AreTogether (sym c.examine_held.ensures.same) c.lent.invariant

pub returns-in_err-findings-clause-same : goal.returns-in_err-findings-clause-same
returns-in_err-findings-clause-same g c = ap first_view c.examine_held.ensures.same ∙ c.lent.view_is

pub returns-clause-same : goal.returns-clause-same
returns-clause-same g c = ap first_view c.examine_held.ensures.same ∙ c.lent.view_is

pub returns-clause-findings : goal.returns-clause-findings
returns-clause-findings g c =
    subst (λ (w : LogView). HasFindings (schema_of w) (profile_of c.args.user.now) (log_of w) (sentence_of c.args.query.now) c.in_ok-findings.findings)
    c.lent.view_is c.in_ok-findings.ensures.findings

pub returns-clause-spent : goal.returns-clause-spent
returns-clause-spent g c =
    let lent = c.args.lent.now in
    spent-by-cost c.law_spent_is_cost.ensures (schema_of lent) (profile_of c.args.user.now) (log_of lent) (sentence_of c.args.query.now) _
    (returns-clause-findings g c)

pub returns-clause-undecided : goal.returns-clause-undecided
returns-clause-undecided g c =
    let lent = c.args.lent.now in
    decide-undecided c.law_undecided_is_cost.ensures (schema_of lent) (profile_of c.args.user.now) (log_of lent) (sentence_of c.args.query.now)
    c.in_ok-findings.findings (returns-clause-spent g c)
