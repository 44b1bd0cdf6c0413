-- The verdict of a probe, by the end of the search machine.
use Rattle.std.specs.Prelude.{◌≡◌, ℕ, List, ◌++◌, Option, Some, None, if◌then◌else◌}
use Rattle.std.specs.FinSet as set
use Rattle.cqe_base.specs.Schema.{DatabaseSchema}
use Rattle.cqe_base.specs.Entailment.{Signed}
use Rattle.cqe_base.specs.Literal.{sign_at}
use Rattle.cqe_base.specs.ClauseForm.{NumberedFact, clause_form, numbering_of, world_of}
use Rattle.cqe_base.specs.Refutation.{is_refutation, is_model}
use Rattle.cqe_base.specs.Machine.{End, Model, Refuted, end_within_budget}
use Rattle.cqe_base.specs.Outcome.{grounded_probe}
use Rattle.clause_form.specs.Forms.{Form}
use Rattle.entailment.specs.Forms.{form_of_log, with_negated}
use Rattle.entailment.specs.declared.probes.Wanted.{Wanted}
use Rattle.entailment.specs.declared.probes.Wanted.TheVariants as wanted
use Rattle.entailment.specs.declared.probes.Verdict.{Verdict}
use Rattle.entailment.specs.declared.probes.Verdict.TheVariants.{Follows, Open, Spent}

-- the machine's end on the clause form of the premises and the negated goal,
-- where its whole cost is within the budget
abbrev pub end_of_probe : DatabaseSchema → List Signed → Signed → ℕ → Option End
end_of_probe schema premises goal budget =
    let formulas = grounded_probe schema premises goal in
    end_within_budget (clause_form formulas) (numbering_of formulas).variables budget

-- the verdict of an end: after a refutation the goal follows; after a model it is open,
-- in the world of the facts that the model makes true; and without an end the budget is spent
abbrev pub verdict_of_end : List NumberedFact → Option End → Verdict
verdict_of_end facts None = Spent
verdict_of_end facts (Some (Refuted lines)) = Follows
verdict_of_end facts (Some (Model signs)) = Open (world_of facts (sign_at signs))

-- a verdict with its world, or where the outcome alone is wanted with the empty one
abbrev pub as_wanted : Wanted → Verdict → Verdict
as_wanted wanted.World verdict = verdict
as_wanted wanted.Outcome Follows = Follows
as_wanted wanted.Outcome (Open world) = Open set.empty
as_wanted wanted.Outcome Spent = Spent

-- the verdict of a probe is that of the machine's end
abbrev pub verdict_of_probe : DatabaseSchema → List Signed → Signed → ℕ → Verdict
verdict_of_probe schema premises goal budget =
    let formulas = grounded_probe schema premises goal in
    verdict_of_end (numbering_of formulas).facts (end_of_probe schema premises goal budget)

-- the verdict of an end that is checked before it is told: what isn't right counts as spent
abbrev pub checked_verdict : Form → Option End → Verdict
checked_verdict form None = Spent
checked_verdict form (Some (Refuted lines)) =
    if is_refutation form.clauses lines then Follows else Spent
checked_verdict form (Some (Model signs)) =
    if is_model form.clauses signs
    then Open (world_of form.numbering.facts (sign_at signs))
    else Spent

-- the machine's end on a form, where its whole cost is within the budget
abbrev pub searched_end : Form → ℕ → Option End
searched_end form budget = end_within_budget form.clauses form.numbering.variables budget

-- the checked verdict of what the machine finds within a budget on a form
abbrev pub searched_verdict : Form → ℕ → Verdict
searched_verdict form budget = checked_verdict form (searched_end form budget)

-- a verdict is the checked one of the probe of the log whose form it is, as it is wanted
abbrev pub IsCheckedOf : DatabaseSchema → (premise : List Signed) (goal : Signed) (budget : ℕ)
    → Wanted → Form → Verdict → Type 0
IsCheckedOf schema premise goal budget wanted form verdict =
    (log : List Signed) → form ≡ form_of_log schema log → verdict ≡ as_wanted wanted
    (searched_verdict (form_of_log schema (with_negated (log ++ premise) goal)) budget)
