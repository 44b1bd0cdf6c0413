use Rattle.std.proofs.Common.{sym, ◌∙◌}
use Rattle.std.specs.Prelude.{not}
use Rattle.std.proofs.lemmas.Bool.{both_ways, not-true}
use Rattle.cqe_base.specs.Machine.{is_false}
use Rattle.clause_solver.proofs.UnderTrail.{open_there, found_has}
use Rattle.clause_solver.proofs.joining.enter_under.Goals as goal

pub returns-in_default-clause-plain : goal.returns-in_default-clause-plain
returns-in_default-clause-plain c =
    absurd (both_ways _ c.requires.free (open_there c.args.state.now.assignment.trail c.args.clause.now (sym c.first_open.ensures ∙ c.in_default.is)))

pub second_watched-second-requires-clause-has : goal.second_watched-second-requires-clause-has
second_watched-second-requires-clause-has c =
    (found_has (λ l. not (is_false c.args.state.now.assignment.trail l)) c.args.clause.now c.in-Some.first (sym c.first_open.ensures ∙ c.in-Some.is)).0

pub second_watched-second-requires-clause-free : goal.second_watched-second-requires-clause-free
second_watched-second-requires-clause-free c =
    not-true _ (found_has (λ l. not (is_false c.args.state.now.assignment.trail l)) c.args.clause.now c.in-Some.first (sym c.first_open.ensures
    ∙ c.in-Some.is)).1
