-- What the machine finds is right.
use Rattle.std.proofs.Common.{◌≡◌, ℕ, List, sym}
use Rattle.cqe_base.specs.Literal.{Literal, ClausesBelow, HaveNoRepeat}
use Rattle.cqe_base.specs.Machine.{Model as ModelEnd, Refuted as RefutedEnd, end_within_budget}
use Rattle.cqe_base.specs.MachineLaws.{BudgetIsWholeCost, MachineEndsAreRight}
use Rattle.clause_store.specs.PlainLines.{lines_of}
use Rattle.clause_solver.specs.declared.ends.Found.{Found}
use Rattle.clause_solver.specs.declared.ends.Found.TheVariants.{Model, Refuted, Spent}
use Rattle.clause_solver.specs.PlainStates.{found_of}
use Rattle.clause_solver.specs.RightEnds.{IsRightFound}

-- an end that is found within a budget is the machine's, and each of those is right
pub right_found : BudgetIsWholeCost → MachineEndsAreRight → (clauses : List (List Literal)) (variables budget : ℕ) (found : Found)
    → ClausesBelow variables clauses → HaveNoRepeat clauses
    → found_of found ≡ end_within_budget clauses variables budget → IsRightFound clauses found
right_found whole right clauses variables budget (Model signs) below no_repeat is =
    let ended = (whole clauses variables budget (ModelEnd signs.values.items)).0 (sym is) in
    right clauses variables (record { end = ModelEnd signs.values.items; cost = ended.0 }) below no_repeat ended.1
right_found whole right clauses variables budget (Refuted refutation) below no_repeat is =
    let ended = (whole clauses variables budget (RefutedEnd (lines_of refutation))).0 (sym is) in
    right clauses variables (record { end = RefutedEnd (lines_of refutation); cost = ended.0 }) below no_repeat ended.1
right_found whole right clauses variables budget Spent below no_repeat is = tt
