use Rattle.std.proofs.Common.{◌≡◌, take, ap, ◌∙◌, subst}
use Rattle.cqe_base.specs.Machine.{signs_of}
use Rattle.clause_solver.proofs.rules.signs_of.Goals as goal

pub returns : goal.returns
returns c =
    c.truncate.ensures.items
    ∙ ap (take c.args.variables) c.in_ok-signs.ensures.items
    ∙ subst (λ n. take n c.signs.result.now ≡ signs_of c.args.assignment.now.trail n) c.requires.same c.signs.ensures
