use Rattle.std.proofs.Common.{◌∷◌, map, sym, ap, ◌∙◌}
use Rattle.clause_store.specs.PlainLines.{line_of}
use Rattle.clause_solver.specs.Assigning.{Assigning}
use Rattle.clause_solver.proofs.StateMoves.{kept_unit}
use Rattle.clause_solver.proofs.propagation.propagate_unit.Goals as goal

pub returns-in_ok-assign-in-Some-clause-kept : goal.returns-in_ok-assign-in-Some-clause-kept
returns-in_ok-assign-in-Some-clause-kept c =
    let u = c.in-Some.ensures in
    let e = c.in_ok-assign-in-Some.ensures in
    kept_unit c.args.state.now c.assign.new.self c.in-Some.unit c.requires.kept c.requires.calm (sym u.first)
    (e.plain ∙ (λ i. record { clauses = u.clauses i; trail = c.because.ensures i ∷ (u.assignment i).trail; lines = map line_of (u.lines i).items }))
    (e.variables ∙ ap (λ (a : Assigning). a.variables) u.assignment) e.looked
