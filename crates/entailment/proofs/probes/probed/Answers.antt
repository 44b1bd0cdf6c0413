use Rattle.std.proofs.Common.{length, map, ap, subst, ◌∙◌, arith}
use Rattle.std.proofs.lemmas.Result.{IfOk-weaker}
use Rattle.cqe_base.specs.Outcome.{grounded_signed}
use Rattle.clause_form.specs.Forms.{Form}
use Rattle.entailment.specs.Forms.{IsSearchable}
use Rattle.entailment.specs.Probes.{premise_of, goal_of, added_by}
use Rattle.entailment.specs.Verdicts.{as_wanted, searched_end, searched_verdict}
use Rattle.entailment.specs.Certificates.{IsRightFor, IsMachines}
use Rattle.entailment.proofs.LogForms.{probe-searchable, own-searchable, probe-room, probe-added}
use Rattle.entailment.proofs.SmallNumbers.{small-result}
use Rattle.entailment.proofs.KeptClauses.{none-begins, all-begin, stays-begins, begins-more, form-begins}
use Rattle.entailment.proofs.probes.probed.Goals as goal

pub keep-requires-clause-variables : goal.keep-requires-clause-variables
keep-requires-clause-variables c =
    let searchable : IsSearchable c.args.schema.now c.args.former.now =
    own-searchable c.law_variables_are_few.ensures c.law_grounded_nodes.ensures c.law_clause_form_uses_its_variables.ensures
    c.law_clause_form_has_no_repeat.ensures c.law_numbered_facts_are_few.ensures c.law_numbered_facts_are_of_schema.ensures
    c.args.schema.now c.requires.form.0 (premise_of c.args.probe.now) (goal_of c.args.probe.now) c.args.former.now c.known.ensures c.requires.form.1 in
    omega (arith, searchable.few_variables, c.variables.ensures)

pub keep-requires-clause-room : goal.keep-requires-clause-room
keep-requires-clause-room c =
    let searchable : IsSearchable c.args.schema.now c.args.former.now =
    own-searchable c.law_variables_are_few.ensures c.law_grounded_nodes.ensures c.law_clause_form_uses_its_variables.ensures
    c.law_clause_form_has_no_repeat.ensures c.law_numbered_facts_are_few.ensures c.law_numbered_facts_are_of_schema.ensures
    c.args.schema.now c.requires.form.0 (premise_of c.args.probe.now) (goal_of c.args.probe.now) c.args.former.now c.known.ensures c.requires.form.1 in
    omega (arith, searchable.few_clauses, ap length c.clauses.ensures)

pub add_probe-requires : goal.add_probe-requires
add_probe-requires c =
    probe-room c.law_grounded_nodes.ensures c.args.schema.now c.requires.form.0 (premise_of c.args.probe.now) (goal_of c.args.probe.now)
    (added_by c.args.probe.now) c.args.former.now c.requires.added c.requires.form.1

pub returns-in_err-keep-clause-kept : goal.returns-in_err-keep-clause-kept
returns-in_err-keep-clause-kept c = none-begins c.keep.new.self c.args.former.now.clauses c.in_err-keep.ensures.refused

pub certificate_of-requires-clause-kept : goal.certificate_of-requires-clause-kept
certificate_of-requires-clause-kept c =
    let log = c.requires.form.0 in
    let is = c.requires.form.1.form_is in
    let formulas = map (grounded_signed c.args.schema.now) log in
    let more = c.in_ok-add_probe.ensures.more formulas is in
    begins-more c.keep.new.self c.args.former.now.clauses c.add_probe.new.former.clauses (c.in_ok-keep.ensures.kept ∙ c.clauses.ensures)
    (form-begins c.law_clause_form_is_prefix.ensures formulas more.0 c.args.former.now c.add_probe.new.former is more.1)

pub returns-clause-kept : goal.returns-clause-kept
returns-clause-kept c =
    stays-begins c.keep.new.self c.certificate_of.new.kept c.args.former.now.clauses c.certificate_of.ensures.kept
    (all-begin c.keep.new.self c.args.former.now.clauses (c.in_ok-keep.ensures.kept ∙ c.clauses.ensures))

pub certificate_of-requires-clause-searchable : goal.certificate_of-requires-clause-searchable
certificate_of-requires-clause-searchable c =
    let log = c.requires.form.0 in
    let can = c.requires.form.1 in
    probe-searchable c.law_variables_are_few.ensures c.law_grounded_nodes.ensures c.law_clause_form_uses_its_variables.ensures
    c.law_clause_form_has_no_repeat.ensures c.law_numbered_facts_are_few.ensures c.law_numbered_facts_are_of_schema.ensures
    c.args.schema.now log (premise_of c.args.probe.now) (goal_of c.args.probe.now) c.add_probe.new.former
    (probe-added c.args.schema.now log (premise_of c.args.probe.now) (goal_of c.args.probe.now) (added_by c.args.probe.now) c.args.former.now
    c.add_probe.new.former c.requires.added c.in_ok-add_probe.ensures.added can.form_is)
    c.known.ensures can.sentences can.premise_sentence can.goal_sentence can.all_nodes

pub returns-clause-verdict : goal.returns-clause-verdict
returns-clause-verdict c =
    IfOk-weaker c.certificate_of.result _ _
    (λ found is log at. is ∙ ap (λ form. as_wanted c.args.wanted (searched_verdict form c.args.budget))
    (probe-added c.args.schema.now log (premise_of c.args.probe.now) (goal_of c.args.probe.now) (added_by c.args.probe.now) c.args.former.now
    c.add_probe.new.former c.requires.added c.in_ok-add_probe.ensures.added at))
    c.certificate_of.ensures.verdict

pub returns-clause-right : goal.returns-clause-right
returns-clause-right c =
    IfOk-weaker c.certificate_of.result _ _
    (λ found right log at. subst (λ (form : Form). IsRightFor form.clauses found)
    (probe-added c.args.schema.now log (premise_of c.args.probe.now) (goal_of c.args.probe.now) (added_by c.args.probe.now) c.args.former.now
    c.add_probe.new.former c.requires.added c.in_ok-add_probe.ensures.added at) right)
    c.certificate_of.ensures.right

pub returns-clause-lines : goal.returns-clause-lines
returns-clause-lines c =
    IfOk-weaker c.certificate_of.result _ _
    (λ found machines log at. subst (λ (form : Form). IsMachines (searched_end form c.args.budget) found)
    (probe-added c.args.schema.now log (premise_of c.args.probe.now) (goal_of c.args.probe.now) (added_by c.args.probe.now) c.args.former.now
    c.add_probe.new.former c.requires.added c.in_ok-add_probe.ensures.added at) machines)
    c.certificate_of.ensures.lines

pub returns-clause-small : goal.returns-clause-small
returns-clause-small c =
    let log = c.requires.form.0 in
    let can = c.requires.form.1 in
    small-result c.law_budget_is_whole_cost.ensures c.args.schema.now c.add_probe.new.former c.args.budget c.certificate_of.result
    (probe-searchable c.law_variables_are_few.ensures c.law_grounded_nodes.ensures c.law_clause_form_uses_its_variables.ensures
    c.law_clause_form_has_no_repeat.ensures c.law_numbered_facts_are_few.ensures c.law_numbered_facts_are_of_schema.ensures
    c.args.schema.now log (premise_of c.args.probe.now) (goal_of c.args.probe.now) c.add_probe.new.former
    (probe-added c.args.schema.now log (premise_of c.args.probe.now) (goal_of c.args.probe.now) (added_by c.args.probe.now) c.args.former.now
    c.add_probe.new.former c.requires.added c.in_ok-add_probe.ensures.added can.form_is)
    c.known.ensures can.sentences can.premise_sentence can.goal_sentence can.all_nodes)
    c.requires.budget c.certificate_of.ensures.right c.certificate_of.ensures.lines
