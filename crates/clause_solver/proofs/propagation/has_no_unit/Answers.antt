use Rattle.std.proofs.Common.{◌∙◌}
use Rattle.cqe_base.specs.KeptTrail.{has_conflict}
use Rattle.clause_solver.proofs.StateMoves.{looked_on}
use Rattle.clause_solver.proofs.propagation.has_no_unit.Goals as goal

pub returns-in-None-clause-settled : goal.returns-in-None-clause-settled
returns-in-None-clause-settled c =
    let u = c.in-None.ensures in
    λ _. record {
      state = looked_on c.args.state.now c.first_unit.new.self c.requires.kept u.assignment u.clauses u.lines u.indexed;
      calm = (λ i. has_conflict (u.assignment i).trail (u.clauses i)) ∙ c.requires.calm;
      no_units = u.none;
      no_falsified = u.falsified;
    }
