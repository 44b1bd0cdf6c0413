-- The code's state as plain data.
use Rattle.std.specs.Prelude.{◌≡◌, reverse, map, Option, Some, None}
use Rattle.cqe_base.specs.Machine.{State as PlainState, Step, Continues, Ends, End, Model}
use Rattle.cqe_base.specs.Machine.{Refuted as MachineRefuted}
use Rattle.clause_store.specs.PlainLines.{line_of, lines_of}
use Rattle.clause_solver.specs.declared.plain.state.State.{State}
use Rattle.clause_solver.specs.declared.ends.Found.{Found}
use Rattle.clause_solver.specs.declared.ends.Found.TheVariants.{Model as ModelFound}
use Rattle.clause_solver.specs.declared.ends.Found.TheVariants.{Refuted as RefutationFound, Spent}
use Rattle.clause_solver.specs.declared.ends.Advance.{Advance}
use Rattle.clause_solver.specs.declared.ends.Advance.TheVariants.{Went, Refuted, Satisfied}

-- a state as plain data
abbrev pub state_of : State → PlainState
state_of s =
    record { clauses = s.clauses; trail = reverse s.trail.items; lines = map line_of s.lines.items }

-- what the code's step says of the machine's step
abbrev pub StepIs : Step → Advance → PlainState → Type 0
StepIs x (Went cost) new = x ≡ Continues cost new
StepIs x (Refuted cost) new = x ≡ Ends cost (MachineRefuted new.lines)
StepIs x (Satisfied cost signs) new = x ≡ Ends cost (Model signs.values.items)

-- what a search found, as an end of the machine, or none where the budget was spent
abbrev pub found_of : Found → Option End
found_of (ModelFound signs) = Some (Model signs.values.items)
found_of (RefutationFound refutation) = Some (MachineRefuted (lines_of refutation))
found_of Spent = None
