use Rattle.std.proofs.Common.{◌≤◌, reverse, sym, ap, ◌∙◌, subst, arith}
use Rattle.std.proofs.lemmas.Bool.{le-ltb}
use Rattle.cqe_base.specs.Literal.{variable_of}
use Rattle.cqe_base.specs.Machine.{is_true}
use Rattle.clause_solver.specs.Assigning.{Assigning}
use Rattle.clause_solver.proofs.Kept.{above, unassigned-true}
use Rattle.clause_solver.proofs.assignment.Assignment.is_true.Goals as goal

pub returns-else-variable-self : goal.returns-else-variable-self
returns-else-variable-self c =
    let n = c.self.inside.variables in
    let t = reverse c.self.inside.trail.items in
    let high : n ≤ c.variable.result = (let h = c.if-variable-self.false in omega arith) in
    le-ltb c.variable.result n high
    ∙ sym (ap (λ (s : Assigning). is_true s.trail c.args.literal) (sym c.self.view_is)
    ∙ unassigned-true t c.args.literal (above n t (variable_of c.args.literal) c.self.invariant.once (subst (λ v. n ≤ v) c.variable.ensures.variable high)))
