use Rattle.std.proofs.Common.{◌≡◌, reverse, take, ap, ◌∙◌, subst}
use Rattle.cqe_base.specs.Machine.{signs_of}
use Rattle.clause_solver.specs.Assigning.{Assigning}
use Rattle.clause_solver.proofs.Kept.{signs_are}
use Rattle.clause_solver.proofs.assignment.Assignment.signs.Goals as goal

pub returns : goal.returns
returns c =
    let a = c.self.inside in
    subst (λ (s : Assigning). take s.variables c.as_slice.result.now ≡ signs_of s.trail s.variables) c.self.view_is
    (ap (take a.variables) c.as_slice.ensures.value
    ∙ signs_are a.variables (reverse a.trail.items) a.signs.items c.self.invariant.signs_room c.self.invariant.sign_at)
