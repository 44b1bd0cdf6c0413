-- A problem in memory as a problem.
use Rattle.dimacs_text.specs.Dimacs.{Problem}
use Rattle.dimacs_text.specs.Sound.{IsSound}
use Rattle.dimacs_text.specs.declared.problem.Problem.TheInside.{Inside}

-- the problem that the fields are
abbrev pub problem_inside : Inside → Problem
problem_inside p =
    record {
      header = p.header;
      budget = p.budget;
      lrat = p.lrat;
      clauses = p.clauses;
      unfinished =
          p.unfinished.items;
    }

-- it can be searched
abbrev pub IsSoundInside : Inside → Type 0
IsSoundInside p = IsSound (problem_inside p)
