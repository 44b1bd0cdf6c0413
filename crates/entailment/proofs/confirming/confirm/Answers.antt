use Rattle.std.proofs.Common.{◌≡◌, ◌++◌, map, take, ap, sym, subst, ◌∙◌}
use Rattle.std.proofs.lemmas.Result.{IfOk-weaker}
use Rattle.cqe_base.specs.Refutation.{is_refutation}
use Rattle.cqe_base.specs.Outcome.{grounded_signed}
use Rattle.clause_store.specs.PlainLines.{lines_of}
use Rattle.clause_form.specs.Forms.{Form, form_of, size_of}
use Rattle.clause_solver.specs.Beginnings.{IsBeginning}
use Rattle.entailment.specs.Logs.{told_log}
use Rattle.entailment.specs.Views.{schema_of, log_of}
use Rattle.entailment.specs.Probes.{premise_of, goal_of, added_by}
use Rattle.entailment.proofs.LogForms.{added-is, probe-room, probe-whole}
use Rattle.entailment.proofs.OpenViews.{kept-on, sound-on, own}
use Rattle.entailment.proofs.confirming.confirm.Goals as goal

pub refutes-confirmed-requires : goal.refutes-confirmed-requires
refutes-confirmed-requires c =
    let view = c.args.view.now in
    let probe = c.args.probe.now in
    let ours = own c.view.view_is c.view.invariant c.as_slice.ensures.value c.in_ok-form_rest.ensures.whole in
    probe-room c.law_grounded_nodes.ensures (schema_of view) (log_of view) (premise_of probe) (goal_of probe) (added_by probe) c.form_rest.new.former
    (added-is (schema_of view) probe c.requires.grounded_premise c.requires.grounded_goal)
    (record {
      form_is = ours.form_is;
      sentences = ours.small.sentences;
      premise_sentence = c.requires.premise;
      goal_sentence = c.requires.goal;
      all_nodes = c.requires.all_nodes;
    })

pub cut-requires : goal.cut-requires
cut-requires c =
    let formulas = map (grounded_signed c.view.inside.schema.now) (told_log c.as_slice.result.now) in
    let more = c.refutes-confirmed.ensures.more formulas c.in_ok-form_rest.ensures.whole in
    (formulas, more.0, more.1, c.mark-before.ensures ∙ ap size_of c.in_ok-form_rest.ensures.whole)

pub invariant_of-view : goal.invariant_of-view
invariant_of-view c =
    sound-on c.view.invariant c.as_slice.ensures.value c.form_rest.ensures.within c.form_rest.ensures.form c.view.inside.kept
    (kept-on c.law_clause_form_is_prefix.ensures c.view.invariant c.as_slice.ensures.value c.form_rest.ensures.grows c.form_rest.ensures.form)

pub invariant_of-view-2 : goal.invariant_of-view-2
invariant_of-view-2 c =
    let formulas = map (grounded_signed c.view.inside.schema.now) (take c.form_rest.new.formed (told_log c.as_slice.result.now)) in
    let more = c.refutes-confirmed.ensures.more formulas c.form_rest.ensures.form in
    let back : c.cut.new.self ≡ form_of formulas =
    c.cut.ensures formulas more.0 more.1 (c.mark-before.ensures ∙ ap size_of c.form_rest.ensures.form) in
    sound-on c.view.invariant c.as_slice.ensures.value c.form_rest.ensures.within back c.view.inside.kept
    (subst (λ (f : Form). IsBeginning c.view.inside.kept f.clauses) (c.form_rest.ensures.form ∙ sym back)
    (kept-on c.law_clause_form_is_prefix.ensures c.view.invariant c.as_slice.ensures.value c.form_rest.ensures.grows c.form_rest.ensures.form))

pub returns-clause-right : goal.returns-clause-right
returns-clause-right c =
    let view = c.args.view.now in
    let ours = own c.view.view_is c.view.invariant c.as_slice.ensures.value c.in_ok-form_rest.ensures.whole in
    IfOk-weaker c.refutes-confirmed.result _ _
    (λ confirmed is.
    is (map (grounded_signed (schema_of view)) (log_of view)) ours.form_is
    ∙ ap (λ (form : Form). is_refutation form.clauses (lines_of c.args.refutation.now))
    (probe-whole (schema_of view) (log_of view) c.args.probe.now c.requires.grounded_premise c.requires.grounded_goal))
    c.refutes-confirmed.ensures.right

pub returns-clause-sound : goal.returns-clause-sound
returns-clause-sound c =
    let view = c.args.view.now in
    let probe = c.args.probe.now in
    IfOk-weaker c.refutes-confirmed.result _ _
    (λ confirmed is yes.
    c.law_refutation_entails.ensures (schema_of view) (log_of view ++ premise_of probe) (goal_of probe) (lines_of c.args.refutation.now) (sym is ∙ yes))
    (returns-clause-right c)
