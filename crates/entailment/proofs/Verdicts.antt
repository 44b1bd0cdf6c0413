-- What a checked verdict tells of a probe.
use Rattle.std.proofs.Common.{◌≡◌, ℕ, Bool, true, false, List, refl, ap, sym, ◌∙◌, subst}
use Rattle.std.specs.Prelude.{Option, Some, None, if◌then◌else◌}
use Rattle.cqe_base.specs.Schema.{DatabaseSchema, is_valid_schema}
use Rattle.cqe_base.specs.Formula.{is_sentence_of}
use Rattle.cqe_base.specs.Entailment.{Signed, are_sentences_of}
use Rattle.cqe_base.specs.ClauseForm.{clause_form, numbering_of, world_of}
use Rattle.cqe_base.specs.Literal.{sign_at}
use Rattle.cqe_base.specs.Refutation.{is_refutation, is_model}
use Rattle.cqe_base.specs.Machine.{End, Model, Refuted}
use Rattle.cqe_base.specs.Outcome as told
use Rattle.cqe_base.specs.Outcome.{Outcome, outcome, ground_outcome, outcome_of_end, is_right_end, grounded_probe}
use Rattle.cqe_base.specs.MachineLaws.{RefutationEntails, ModelIsCountermodel, ClauseFormUsesItsVariables, ClauseFormHasNoRepeat, BudgetIsWholeCost}
use Rattle.cqe_base.specs.MachineLaws.{MachineEndsAreRight}
use Rattle.clause_form.specs.Forms.{Form, form_of}
use Rattle.entailment.specs.declared.probes.Verdict.{Verdict}
use Rattle.entailment.specs.declared.probes.Verdict.TheVariants.{Follows, Open, Spent}
use Rattle.entailment.specs.Forms.{form_of_log, with_negated}
use Rattle.entailment.specs.Probes.{outcome_of, IsTrueOutcome, IsTrueVerdict}
use Rattle.entailment.specs.declared.probes.Wanted.{Wanted}
use Rattle.entailment.specs.declared.probes.Wanted.TheVariants as wanted
use Rattle.entailment.specs.Verdicts.{as_wanted, end_of_probe, verdict_of_end, verdict_of_probe, checked_verdict, searched_verdict}
use Rattle.entailment.proofs.LogForms.{probe-form}

-- the checked verdict of what the machine finds for a probe
abbrev pub searched : DatabaseSchema → List Signed → Signed → ℕ → Verdict
searched schema premises goal budget = searched_verdict (form_of_log schema (with_negated premises goal)) budget

-- that is told of the probe, as it is wanted
pub record IsTold (schema : DatabaseSchema) (premises : List Signed) (goal : Signed) (budget : ℕ) (aim : Wanted) (verdict : Verdict) : Type 0 where
  pub is : verdict ≡ as_wanted aim (searched schema premises goal budget)

-- a world or none, the outcome is the same
wanted-outcome : (wanted : Wanted) (verdict : Verdict) → outcome_of (as_wanted wanted verdict) ≡ outcome_of verdict
wanted-outcome wanted.World verdict = refl
wanted-outcome wanted.Outcome Follows = refl
wanted-outcome wanted.Outcome (Open world) = refl
wanted-outcome wanted.Outcome Spent = refl

-- a true verdict is a true outcome
true-outcome : (schema : DatabaseSchema) (premises : List Signed) (goal : Signed) (verdict : Verdict) → IsTrueVerdict schema premises goal verdict
    → IsTrueOutcome schema premises goal (outcome_of verdict)
true-outcome schema premises goal Follows is = is
true-outcome schema premises goal (Open world) is = (world, is)
true-outcome schema premises goal Spent is = tt

-- ---- of one end

module _ (form : Form) where
  -- the world of signs
  abbrev open_at : List Bool → Verdict
  open_at signs = Open (world_of form.numbering.facts (sign_at signs))

  -- the outcome that a checked verdict is
  checked-outcome : (end : Option End)
      → outcome_of (checked_verdict form end) ≡ outcome_of_end form.clauses end
  checked-outcome None = refl
  checked-outcome (Some (Refuted lines)) = by (is_refutation form.clauses lines)
    where
      by : (b : Bool)
          → outcome_of (if b then Follows else Spent) ≡ (if b then told.Follows else told.Spent)
      by true = refl
      by false = refl
  checked-outcome (Some (Model signs)) = by (is_model form.clauses signs)
    where
      by : (b : Bool)
          → outcome_of (if b then open_at signs else Spent) ≡ (if b then told.Open else told.Spent)
      by true = refl
      by false = refl

  -- where the end is right, checking it changes nothing
  right-verdict : (end : Option End)
      → ((e : End) → end ≡ Some e → is_right_end form.clauses e ≡ true)
      → checked_verdict form end ≡ verdict_of_end form.numbering.facts end
  right-verdict None right = refl
  right-verdict (Some (Refuted lines)) right =
      ap (λ b. if b then Follows else Spent) (right (Refuted lines) refl)
  right-verdict (Some (Model signs)) right =
      ap (λ b. if b then open_at signs else Spent) (right (Model signs) refl)

-- ---- of a probe

module _ (schema : DatabaseSchema) (premises : List Signed) (goal : Signed) where
  -- the form of the probe
  abbrev own_form : Form
  own_form = form_of (grounded_probe schema premises goal)

  -- a checked verdict of the probe's form is true
  checked-true : RefutationEntails → ModelIsCountermodel
      → is_valid_schema schema ≡ true → are_sentences_of schema premises ≡ true
      → is_sentence_of schema goal.0 ≡ true
      → (end : Option End) → IsTrueVerdict schema premises goal (checked_verdict own_form end)
  checked-true follows refutes valid all well None = tt
  checked-true follows refutes valid all well (Some (Refuted lines)) =
      by (is_refutation own_form.clauses lines) refl
    where
      by : (b : Bool) → is_refutation own_form.clauses lines ≡ b
          → IsTrueVerdict schema premises goal (if b then Follows else Spent)
      by true e = follows schema premises goal lines e
      by false e = tt
  checked-true follows refutes valid all well (Some (Model signs)) =
      by (is_model own_form.clauses signs) refl
    where
      by : (b : Bool) → is_model own_form.clauses signs ≡ b
          → IsTrueVerdict schema premises goal (if b then open_at own_form signs else Spent)
      by true e = refutes schema premises goal signs valid all well e
      by false e = tt

  -- the machine's end on the probe is right
  right-end : ClauseFormUsesItsVariables → ClauseFormHasNoRepeat
      → BudgetIsWholeCost → MachineEndsAreRight
      → (budget : ℕ) (e : End) → end_of_probe schema premises goal budget ≡ Some e
      → is_right_end own_form.clauses e ≡ true
  right-end below no_repeat cost right budget e is =
      let formulas = grounded_probe schema premises goal in
      let variables = (numbering_of formulas).variables in
      let found = (cost (clause_form formulas) variables budget e).0 is in
      right (clause_form formulas) variables (record { end = e; cost = found.0 })
      (below formulas) (no_repeat formulas) found.1

  -- what is told of the probe is that of its form
  module _ (budget : ℕ) where
    own : searched schema premises goal budget ≡ checked_verdict own_form (end_of_probe schema premises goal budget)
    own = ap (λ form. searched_verdict form budget) (probe-form schema premises goal)

    pub searched-true : RefutationEntails → ModelIsCountermodel
        → is_valid_schema schema ≡ true → are_sentences_of schema premises ≡ true
        → is_sentence_of schema goal.0 ≡ true
        → IsTrueVerdict schema premises goal (searched schema premises goal budget)
    searched-true follows refutes valid all well =
        subst (IsTrueVerdict schema premises goal) (sym own)
        (checked-true follows refutes valid all well (end_of_probe schema premises goal budget))

module _ {schema : DatabaseSchema} {premises : List Signed} {goal : Signed} {budget : ℕ} {aim : Wanted} {verdict : Verdict}
    (it : IsTold schema premises goal budget aim verdict) where
  told-so : outcome_of verdict ≡ outcome_of (searched schema premises goal budget)
  told-so = ap outcome_of it.is ∙ wanted-outcome aim (searched schema premises goal budget)

  pub told-outcome : outcome_of verdict ≡ outcome schema premises goal budget
  unfolding outcome ground_outcome
  told-outcome =
      told-so ∙ ap outcome_of (own schema premises goal budget)
      ∙ checked-outcome (own_form schema premises goal) (end_of_probe schema premises goal budget)

  pub told-verdict : ClauseFormUsesItsVariables → ClauseFormHasNoRepeat → BudgetIsWholeCost → MachineEndsAreRight
      → verdict ≡ as_wanted aim (verdict_of_probe schema premises goal budget)
  told-verdict below no_repeat cost right =
      it.is
      ∙ ap (as_wanted aim) (own schema premises goal budget
      ∙ right-verdict (own_form schema premises goal) (end_of_probe schema premises goal budget)
      (right-end schema premises goal below no_repeat cost right budget))

  -- where that is true, the outcome is, and so is the verdict that has a world
  module _ (true_one : IsTrueVerdict schema premises goal (searched schema premises goal budget)) where
    pub told-true-outcome : IsTrueOutcome schema premises goal (outcome_of verdict)
    told-true-outcome =
        subst (IsTrueOutcome schema premises goal) (sym told-so) (true-outcome schema premises goal (searched schema premises goal budget) true_one)

    pub told-true : aim ≡ wanted.World → IsTrueVerdict schema premises goal verdict
    told-true is =
        subst (IsTrueVerdict schema premises goal) (sym (it.is ∙ ap (λ w. as_wanted w (searched schema premises goal budget)) is)) true_one
