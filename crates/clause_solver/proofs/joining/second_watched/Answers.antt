use Rattle.std.proofs.Common.{eqb, length, sym, ap, ◌∙◌, subst}
use Rattle.std.specs.Prelude.{not}
use Rattle.clause_solver.specs.Watching.{IsWatched}
use Rattle.clause_solver.proofs.Visits.{found_next, none_next}
use Rattle.clause_solver.proofs.UnderTrail.{watched_open, watched_closed}
use Rattle.clause_solver.proofs.joining.second_watched.Goals as goal

pub returns-in-Some-clause-watched : goal.returns-in-Some-clause-watched
returns-in-Some-clause-watched c =
    let t = c.args.assignment.now.trail in
    watched_open t c.args.clause.now c.args.first c.requires.level c.requires.no_repeat c.requires.has c.requires.free c.in-Some.second
    (found_next t c.args.first c.args.clause.now c.in-Some.second (sym c.other_open.ensures ∙ c.in-Some.is))

pub returns-in-None-clause-watched : goal.returns-in-None-clause-watched
returns-in-None-clause-watched c =
    let t = c.args.assignment.now.trail in
    let cl = c.args.clause.now in
    subst (λ m. IsWatched t cl (record { first = c.args.first; second = m }) (not c.is_true.result) (eqb (length cl) 0)) (sym c.unwrap_or.ensures)
    (watched_closed t cl c.args.first c.requires.level c.requires.no_repeat c.requires.has c.requires.free (eqb (length cl) 0) (not c.is_true.result)
    (ap not c.is_true.ensures) c.first_beside.result c.first_beside.ensures)

pub returns-in-None-clause-unit : goal.returns-in-None-clause-unit
returns-in-None-clause-unit c =
    λ u. none_next c.args.assignment.now.trail c.args.first c.args.clause.now (sym c.other_open.ensures ∙ c.in-None.is)
