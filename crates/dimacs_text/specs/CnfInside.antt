-- Clauses in memory that can be searched.
use Rattle.std.specs.Prelude.{◌≤◌, length}
use Rattle.cqe_base.specs.Literal.{ClausesBelow, HaveNoRepeat}
use Rattle.dimacs_text.specs.Dimacs.{Cnf}
use Rattle.dimacs_text.specs.declared.cnf.Cnf.TheInside.{Inside}

-- what the fields are
abbrev pub cnf_inside : Inside → Cnf
cnf_inside c =
    record { variables = c.variables; clauses = c.clauses; budget = c.budget; lrat = c.lrat }

-- what a search needs of clauses
pub record IsSearchable (c : Cnf) : Type 0 where
  pub below : ClausesBelow c.variables c.clauses
  pub no_repeat : HaveNoRepeat c.clauses
  pub few_variables : c.variables ≤ 1000000
  pub few_clauses : length c.clauses ≤ 1000000
  pub small_budget : c.budget ≤ 4000000

-- the fields are such clauses
abbrev pub IsSearchableInside : Inside → Type 0
IsSearchableInside c = IsSearchable (cnf_inside c)
