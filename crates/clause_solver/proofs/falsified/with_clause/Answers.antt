use Rattle.std.proofs.Common.{◌+◌, sym, ◌∙◌, subst}
use Rattle.clause_solver.specs.KeptStates.{IsFirstOfFalsified}
use Rattle.clause_solver.proofs.FirstFalsified.{skipped, found}
use Rattle.clause_solver.proofs.falsified.with_clause.Goals as goal

pub returns-then-not-is_falsified : goal.returns-then-not-is_falsified
returns-then-not-is_falsified c =
    λ cs start at low h.
    skipped cs c.args.assignment.now.trail start c.args.number c.args.clause.now at low c.args.first (sym c.is_falsified.ensures ∙ c.if-not-is_falsified.true) h

pub returns : goal.returns
returns c =
    λ cs start at low h.
    let t = c.args.assignment.now.trail in
    subst (IsFirstOfFalsified cs t start (c.args.number + 1)) (sym c.sooner.ensures)
    (found cs t start c.args.number c.args.clause.now at low c.latest_place-place.result (sym c.is_falsified.ensures ∙ c.if-not-is_falsified.false)
    c.latest_place-place.ensures c.args.first h)
