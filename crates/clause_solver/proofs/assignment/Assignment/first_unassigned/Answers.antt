use Rattle.std.proofs.Common.{◌≡◌, reverse, sym, ap, ◌∙◌, subst}
use Rattle.std.specs.Prelude.{IfSome, ◌<◌, false}
use Rattle.cqe_base.specs.Machine.{first_unassigned}
use Rattle.cqe_base.specs.MachineStates.{is_assigned}
use Rattle.clause_solver.specs.Assigning.{Assigning, IsFirstZero, IsKept}
use Rattle.clause_solver.proofs.Kept.{first_open, first_kept, first_below, first_free}
use Rattle.clause_solver.proofs.assignment.Assignment.first_unassigned.Goals as goal
use Rattle.clause_solver.proofs.assignment.Assignment.first_unassigned.Goals.{After-first_zero-found}

zero : (c : After-first_zero-found) → IsFirstZero c.self.inside.places.items c.self.inside.next c.self.inside.variables c.first_zero-found.result
zero c = subst (λ xs. IsFirstZero xs c.self.inside.next c.self.inside.variables c.first_zero-found.result) c.deref.ensures.value c.first_zero-found.ensures

pub invariant_of-self : goal.invariant_of-self
invariant_of-self c =
    let a = c.self.inside in
    subst (λ k. IsKept a.variables (reverse a.trail.items) a.truths.items a.signs.items a.levels.items a.places.items a.decisions k)
    (sym c.unwrap_or-self-inside.ensures)
    (first_kept a.variables (reverse a.trail.items) a.truths.items a.signs.items a.levels.items a.places.items a.decisions a.next c.self.invariant
    c.first_zero-found.result (zero (goal.at.invariant_of-self c).After-first_zero-found))

pub returns-clause-first : goal.returns-clause-first
returns-clause-first c =
    let a = c.self.inside in
    first_open a.variables (reverse a.trail.items) a.truths.items a.signs.items a.levels.items a.places.items a.decisions a.next c.self.invariant
    c.first_zero-found.result (zero (goal.at.returns-clause-first c).After-first_zero-found)
    ∙ ap (λ (s : Assigning). first_unassigned s.trail s.variables) c.self.view_is

pub returns-clause-below : goal.returns-clause-below
returns-clause-below c =
    let a = c.self.inside in
    subst (λ (s : Assigning). IfSome c.first_zero-found.result (λ v. v < s.variables)) c.self.view_is
    (first_below a.variables (reverse a.trail.items) a.truths.items a.signs.items a.levels.items a.places.items a.decisions a.next c.self.invariant
    c.first_zero-found.result (zero (goal.at.returns-clause-below c).After-first_zero-found))

pub returns-clause-free : goal.returns-clause-free
returns-clause-free c =
    let a = c.self.inside in
    subst (λ (s : Assigning). IfSome c.first_zero-found.result (λ v. is_assigned s.trail v ≡ false)) c.self.view_is
    (first_free a.variables (reverse a.trail.items) a.truths.items a.signs.items a.levels.items a.places.items a.decisions a.next c.self.invariant
    c.first_zero-found.result (zero (goal.at.returns-clause-free c).After-first_zero-found))
