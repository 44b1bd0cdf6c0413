-- What the search of a probe costs, and budgets that suffice.
use Rattle.std.specs.Prelude.{◌≡◌, ◌<◌, ◌≤◌, ℕ, ◌↔◌, List}
use Rattle.cqe_base.specs.Schema.{DatabaseSchema}
use Rattle.cqe_base.specs.Entailment.{Signed}
use Rattle.cqe_base.specs.ClauseForm.{clause_form, numbering_of}
use Rattle.cqe_base.specs.Machine.{Ended, MachineEnds}
use Rattle.cqe_base.specs.Outcome.{Spent, outcome, grounded_probe}
use Rattle.entailment.specs.declared.probes.Verdict.{Verdict}
use Rattle.entailment.specs.Probes.{outcome_of}

-- the machine ends on the clause form of the probe, at a whole cost above the budget
abbrev pub CostsMore : DatabaseSchema → List Signed → Signed → ℕ → Type 0
CostsMore schema premises goal budget =
    let formulas = grounded_probe schema premises goal in
    (e : Ended) × MachineEnds (clause_form formulas) (numbering_of formulas).variables e
    × (budget < e.cost)

-- a verdict is spent exactly where the search costs more than the budget
abbrev pub IsSpentByCost : DatabaseSchema → List Signed → Signed → ℕ → Verdict → Type 0
IsSpentByCost schema premises goal budget verdict =
    (outcome_of verdict ≡ Spent) ↔ CostsMore schema premises goal budget

-- how many variables the clause form of a probe takes
abbrev pub variables_of : DatabaseSchema → List Signed → Signed → ℕ
variables_of schema premises goal = (numbering_of (grounded_probe schema premises goal)).variables

-- no probe whose clause form takes at most so many variables is spent at a budget of at least this
-- number
abbrev pub NeverSpends : ℕ → ℕ → Type 0
NeverSpends variables enough =
    (schema : DatabaseSchema) (premises : List Signed) (goal : Signed) (budget : ℕ)
    → variables_of schema premises goal ≤ variables → enough ≤ budget
    → outcome schema premises goal budget ≡ Spent → ⊥
