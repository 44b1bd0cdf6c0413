use Rattle.std.proofs.Common.{◌≡◌, cond, ap, ◌∙◌, sym, subst}
use Rattle.cqe_base.specs.Literal.{variable_of}
use Rattle.cqe_base.specs.Machine.{is_false}
use Rattle.cqe_base.specs.MachineStates.{IsDistinct}
use Rattle.cqe_base.specs.KeptTrail.{place_against}
use Rattle.clause_solver.specs.Assigning.{Assigning, place_of}
use Rattle.clause_solver.proofs.Places.{place_against-is}
use Rattle.clause_solver.proofs.assignment.Assignment.place_against.Goals as goal
use Rattle.clause_solver.proofs.assignment.Assignment.place_against.Goals.{After-is_false}

place : (c : After-is_false) → place_against c.args.self.now.trail c.args.literal
    ≡ cond (is_false c.args.self.now.trail c.args.literal) (place_of c.args.self.now.trail (variable_of c.args.literal)) 0
place c = place_against-is c.args.self.now.variables c.args.self.now.trail c.args.literal
    (subst (λ (s : Assigning). IsDistinct s.variables s.trail) c.self.view_is c.self.invariant.once)

pub returns-then-is_false : goal.returns-then-is_false
returns-then-is_false c =
    let t = c.args.self.now.trail in
    c.place_of.ensures ∙ ap (place_of t) c.variable.ensures.variable
    ∙ sym (place (goal.at.returns-then-is_false c).After-is_false
    ∙ ap (λ b. cond b (place_of t (variable_of c.args.literal)) 0) (sym c.is_false.ensures ∙ c.if-is_false.true))

pub returns-else-is_false : goal.returns-else-is_false
returns-else-is_false c =
    let t = c.args.self.now.trail in
    sym (place (goal.at.returns-else-is_false c).After-is_false ∙ ap (λ b. cond b (place_of t (variable_of c.args.literal)) 0) (sym c.is_false.ensures
    ∙ c.if-is_false.false))
