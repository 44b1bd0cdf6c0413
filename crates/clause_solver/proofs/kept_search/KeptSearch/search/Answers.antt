use Rattle.clause_solver.proofs.RightEnds.{right_found}
use Rattle.clause_solver.proofs.kept_search.KeptSearch.search.Goals as goal

pub returns-clause-right : goal.returns-clause-right
returns-clause-right c =
    right_found c.law_budget_is_whole_cost.ensures c.law_machine_ends_are_right.ensures c.args.clauses.now c.args.variables c.args.budget
    c.in_ok-searched.searched.found c.requires.below c.requires.no_repeat c.in_ok-searched.ensures.found
