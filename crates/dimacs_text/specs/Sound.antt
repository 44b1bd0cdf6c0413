-- What every problem keeps, so that its clauses can be searched.
use Rattle.std.specs.Prelude.{ℕ, ◌≤◌, Option, Some, None, length, unwrap_or}
use Rattle.cqe_base.specs.Literal.{ClauseBelow, ClausesBelow, HasNoRepeat, HaveNoRepeat}
use Rattle.dimacs_text.specs.declared.header.Header.{Header}
use Rattle.dimacs_text.specs.Dimacs.{Problem}

-- the number of variables, 0 before the problem line
abbrev pub variables_in : Option Header → ℕ
variables_in None = 0
variables_in (Some header) = header.variables

-- the number of clauses that the problem line says, 0 before it
abbrev pub clauses_in : Option Header → ℕ
clauses_in None = 0
clauses_in (Some header) = header.clauses

-- its variables are below that of the problem line, no clause has a literal twice, and all numbers
-- are small
pub record IsSound (p : Problem) : Type 0 where
  pub below : ClausesBelow (variables_in p.header) p.clauses
  pub no_repeat : HaveNoRepeat p.clauses
  pub unfinished_below : ClauseBelow (variables_in p.header) p.unfinished
  pub unfinished_no_repeat : HasNoRepeat p.unfinished
  pub few_variables : variables_in p.header ≤ 1000000
  pub few_announced : clauses_in p.header ≤ 1000000
  pub few_clauses : length p.clauses ≤ 1000000
  pub small_budget : unwrap_or p.budget 1000000 ≤ 4000000
