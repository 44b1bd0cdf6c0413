-- The fields of an assignment as its trail.
use Rattle.std.specs.Prelude.{reverse}
use Rattle.clause_solver.specs.Assigning.{Assigning, IsKept}
use Rattle.clause_solver.specs.declared.assignment.Assignment.TheInside.{Inside}

-- what is assigned
abbrev pub assigning_inside : Inside → Assigning
assigning_inside a = record { variables = a.variables; trail = reverse a.trail.items }

-- what is kept is that of the trail
abbrev pub KeepsTrail : Inside → Type 0
KeepsTrail a = IsKept a.variables
    (reverse a.trail.items) a.truths.items a.signs.items a.levels.items a.places.items a.decisions
    a.next
