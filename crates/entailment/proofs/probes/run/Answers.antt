use Rattle.std.proofs.Common.{◌≡◌, ◌++◌, true, map, take, ap, sym, subst, ◌∙◌}
use Rattle.std.proofs.lemmas.Result.{IfOk-weaker}
use Rattle.cqe_base.specs.Schema.{is_valid_schema}
use Rattle.cqe_base.specs.Outcome.{grounded_signed}
use Rattle.clause_form.specs.Forms.{Form, form_of, size_of}
use Rattle.clause_solver.specs.Beginnings.{IsBeginning}
use Rattle.entailment.specs.Logs.{told_log}
use Rattle.entailment.specs.Views.{schema_of, log_of}
use Rattle.entailment.specs.Forms.{with_negated, IsForProbe}
use Rattle.entailment.specs.Probes.{premise_of, goal_of, outcome_of, IsTrueVerdict}
use Rattle.entailment.specs.Verdicts.{IsCheckedOf, searched_end}
use Rattle.entailment.specs.Certificates.{as_verdict, IsRightFor, IsMachines}
use Rattle.entailment.specs.declared.probes.Certified.{Certified}
use Rattle.entailment.proofs.LogForms.{premises-sentences, probe-sentences, added-is, probe-form}
use Rattle.entailment.proofs.OpenViews.{kept-on, sound-on, IsOwn, own, own-told, own-right, own-lines}
use Rattle.entailment.proofs.Verdicts.{IsTold, searched, searched-true, told-outcome, told-verdict, told-true-outcome, told-true}
use Rattle.entailment.proofs.CostBounds.{spent-by-cost}
use Rattle.entailment.proofs.probes.run.Goals as goal
use Rattle.entailment.proofs.probes.run.Goals.{After-cut}

pub probed-found-requires-clause-form : goal.probed-found-requires-clause-form
probed-found-requires-clause-form c =
    let ours = own c.view.view_is c.view.invariant c.as_slice.ensures.value c.in_ok-form_rest.ensures.whole in
    subst (λ s. IsForProbe s (premise_of c.args.probe.now) (goal_of c.args.probe.now) c.form_rest.new.former) (sym ours.schema_is) (
      log_of c.args.view.now,
      record {
        form_is = ours.form_is;
        sentences = ours.small.sentences;
        premise_sentence = c.requires.premise;
        goal_sentence = c.requires.goal;
        all_nodes = c.requires.all_nodes;
      },
    )

pub probed-found-requires-clause-added : goal.probed-found-requires-clause-added
probed-found-requires-clause-added c =
    let same : c.view.inside.schema.now ≡ schema_of c.args.view.now = ap schema_of c.view.view_is in
    rw same (added-is (schema_of c.args.view.now) c.args.probe.now c.requires.grounded_premise c.requires.grounded_goal)

pub cut-requires : goal.cut-requires
cut-requires c =
    let formulas = map (grounded_signed c.view.inside.schema.now) (told_log c.as_slice.result.now) in
    let more = c.probed-found.ensures.more formulas c.in_ok-form_rest.ensures.whole in
    (formulas, more.0, more.1, c.mark-before.ensures ∙ ap size_of c.in_ok-form_rest.ensures.whole)

pub probed-found-requires-clause-kept : goal.probed-found-requires-clause-kept
probed-found-requires-clause-kept c =
    kept-on c.law_clause_form_is_prefix.ensures c.view.invariant c.as_slice.ensures.value c.form_rest.ensures.grows c.form_rest.ensures.form

pub invariant_of-view : goal.invariant_of-view
invariant_of-view c =
    sound-on c.view.invariant c.as_slice.ensures.value c.form_rest.ensures.within c.form_rest.ensures.form c.view.inside.kept
    (kept-on c.law_clause_form_is_prefix.ensures c.view.invariant c.as_slice.ensures.value c.form_rest.ensures.grows c.form_rest.ensures.form)

pub invariant_of-view-2 : goal.invariant_of-view-2
invariant_of-view-2 c =
    let formulas = map (grounded_signed c.view.inside.schema.now) (take c.form_rest.new.formed (told_log c.as_slice.result.now)) in
    let more = c.probed-found.ensures.more formulas c.form_rest.ensures.form in
    let back : c.cut.new.self ≡ form_of formulas =
    c.cut.ensures formulas more.0 more.1 (c.mark-before.ensures ∙ ap size_of c.form_rest.ensures.form) in
    sound-on c.view.invariant c.as_slice.ensures.value c.form_rest.ensures.within back c.probed-found.new.kept
    (subst (λ (f : Form). IsBeginning c.probed-found.new.kept f.clauses) (c.form_rest.ensures.form ∙ sym back) c.probed-found.ensures.kept)

-- ---- what is told

ours : (c : After-cut) → IsOwn c.view.inside c.args.view.now c.form_rest.new.former
ours c = own c.view.view_is c.view.invariant c.as_slice.ensures.value c.in_ok-form_rest.ensures.whole

told : (c : After-cut) (found : Certified)
    → IsCheckedOf c.view.inside.schema.now (premise_of c.args.probe.now) (goal_of c.args.probe.now) c.args.budget c.args.wanted c.form_rest.new.former
    (as_verdict found)
    → IsTold (schema_of c.args.view.now) (log_of c.args.view.now ++ premise_of c.args.probe.now) (goal_of c.args.probe.now) c.args.budget c.args.wanted
    (as_verdict found)
told c found = own-told (ours c) (premise_of c.args.probe.now) (goal_of c.args.probe.now) c.args.budget c.args.wanted (as_verdict found)

valid : (c : After-cut) → is_valid_schema (schema_of c.args.view.now) ≡ true
valid c = subst (λ s. is_valid_schema s ≡ true) (ours c).schema_is c.known.ensures

-- the machine's verdict is true
holds : (c : After-cut)
    → IsTrueVerdict (schema_of c.args.view.now) (log_of c.args.view.now ++ premise_of c.args.probe.now) (goal_of c.args.probe.now)
    (searched (schema_of c.args.view.now) (log_of c.args.view.now ++ premise_of c.args.probe.now) (goal_of c.args.probe.now) c.args.budget)
holds c =
    let view = c.args.view.now in
    let premise = premise_of c.args.probe.now in
    searched-true (schema_of view) (log_of view ++ premise) (goal_of c.args.probe.now) c.args.budget
    c.law_refutation_entails.ensures c.law_model_is_countermodel.ensures (valid c)
    (premises-sentences (schema_of view) (log_of view) premise (ours c).small.sentences c.requires.premise) c.requires.goal

pub returns-clause-outcome : goal.returns-clause-outcome
returns-clause-outcome c =
    let at = (goal.at.returns-clause-outcome c).After-cut in
    IfOk-weaker c.probed-found.result _ _ (λ found checked. told-outcome (told at found checked)) c.probed-found.ensures.verdict

pub returns-clause-end : goal.returns-clause-end
returns-clause-end c =
    let at = (goal.at.returns-clause-end c).After-cut in
    IfOk-weaker c.probed-found.result _ _
    (λ found checked.
    told-verdict (told at found checked) c.law_clause_form_uses_its_variables.ensures c.law_clause_form_has_no_repeat.ensures
    c.law_budget_is_whole_cost.ensures c.law_machine_ends_are_right.ensures)
    c.probed-found.ensures.verdict

pub returns-clause-sound : goal.returns-clause-sound
returns-clause-sound c =
    let at = (goal.at.returns-clause-sound c).After-cut in
    IfOk-weaker c.probed-found.result _ _ (λ found checked. told-true-outcome (told at found checked) (holds at)) c.probed-found.ensures.verdict

pub returns-clause-world : goal.returns-clause-world
returns-clause-world c =
    let at = (goal.at.returns-clause-world c).After-cut in
    IfOk-weaker c.probed-found.result _ _ (λ found checked. told-true (told at found checked) (holds at)) c.probed-found.ensures.verdict

pub returns-clause-right : goal.returns-clause-right
returns-clause-right c =
    let at = (goal.at.returns-clause-right c).After-cut in
    let view = c.args.view.now in
    let premise = premise_of c.args.probe.now in
    let asked = goal_of c.args.probe.now in
    IfOk-weaker c.probed-found.result _ _
    (λ found right.
    subst (λ (form : Form). IsRightFor form.clauses found) (probe-form (schema_of view) (log_of view ++ premise) asked)
    (own-right (ours at) premise asked found right))
    c.probed-found.ensures.right

pub returns-clause-lines : goal.returns-clause-lines
returns-clause-lines c =
    let at = (goal.at.returns-clause-lines c).After-cut in
    let view = c.args.view.now in
    let premise = premise_of c.args.probe.now in
    let asked = goal_of c.args.probe.now in
    IfOk-weaker c.probed-found.result _ _
    (λ found machines.
    subst (λ form. IsMachines (searched_end form c.args.budget) found) (probe-form (schema_of view) (log_of view ++ premise) asked)
    (own-lines (ours at) premise asked c.args.budget found machines))
    c.probed-found.ensures.lines

pub returns-clause-spent : goal.returns-clause-spent
returns-clause-spent c =
    IfOk-weaker c.probed-found.result _ _
    (λ found is. spent-by-cost c.law_spent_is_cost.ensures (schema_of c.args.view.now) (log_of c.args.view.now ++ premise_of c.args.probe.now)
    (goal_of c.args.probe.now) c.args.budget (outcome_of (as_verdict found)) is)
    (returns-clause-outcome c)

pub returns-clause-models : goal.returns-clause-models
returns-clause-models c =
    let at = (goal.at.returns-clause-models c).After-cut in
    let view = c.args.view.now in
    let premise = premise_of c.args.probe.now in
    let asked = goal_of c.args.probe.now in
    IfOk-weaker c.probed-found.result _ _
    (λ found checked. c.law_models_are_worlds_of_schema.ensures (schema_of view) (with_negated (log_of view ++ premise) asked) (valid at)
    (probe-sentences (schema_of view) (log_of view) premise asked (ours at).small.sentences c.requires.premise c.requires.goal))
    c.probed-found.ensures.verdict
