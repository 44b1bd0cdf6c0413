use Rattle.std.proofs.Common.{[], ◌∷◌, sym, subst}
use Rattle.cqe_base.specs.SignedGround.{negated}
use Rattle.clause_form.specs.Forms.{Form}
use Rattle.entailment.specs.Forms.{HasAdded}
use Rattle.entailment.specs.Probes.{premise_props, prop_at, added_by}
use Rattle.entailment.proofs.LogForms.{has_added, has_added-both, has_added-goes_on, room-for-first, room-for-rest, room-for-one}
use Rattle.entailment.proofs.forms.add_probe.Goals as goal

pub add_premise-requires : goal.add_premise-requires
add_premise-requires c =
    room-for-first (premise_props c.args.probe.now.premise) (negated (prop_at c.args.probe.now.goal) ∷ []) c.args.former.now c.requires

pub add-requires : goal.add-requires
add-requires c =
    let premise = premise_props c.args.probe.now.premise in
    let goal_added = negated (prop_at c.args.probe.now.goal) in
    room-for-one c.law_variables_are_few.ensures goal_added c.add_premise.new.former
    (room-for-rest premise (goal_added ∷ []) c.args.former.now c.add_premise.new.former c.requires c.in_ok-add_premise.ensures.added)

pub returns-clause-added : goal.returns-clause-added
returns-clause-added c =
    let goal_added = negated (prop_at c.args.probe.now.goal) in
    has_added-both (premise_props c.args.probe.now.premise) (goal_added ∷ []) c.args.former.now c.add_premise.new.former c.add.new.self
    c.in_ok-add_premise.ensures.added
    (subst (λ (after : Form). HasAdded (goal_added ∷ []) c.add_premise.new.former after) (sym c.in_ok-add.ensures.added)
    (has_added c.law_added_forms_grow.ensures goal_added c.add_premise.new.former))

pub returns-clause-more : goal.returns-clause-more
returns-clause-more c =
    has_added-goes_on (added_by c.args.probe.now) c.args.former.now c.add.new.self (returns-clause-added c)
