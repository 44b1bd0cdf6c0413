use Rattle.std.proofs.Common.{eqb, ◌&&◌, ◌||◌, sym, ap, ◌∙◌}
use Rattle.clause_solver.specs.Watching.{has_number}
use Rattle.clause_solver.specs.WatchesInside.{units_of}
use Rattle.clause_solver.proofs.watches.Watches.add_unit.Goals as goal

pub returns-clause-units : goal.returns-clause-units
returns-clause-units c =
    λ i.
    c.in_ok-push.ensures i
    ∙ ap (λ u. has_number (units_of c.args.self.now) i || (u && eqb c.args.clause i)) (sym c.if-not-unit.false)
