-- The fields of a marked clause as its clause.
use Rattle.clause_store.specs.Marking.{Marking, AreMarksOf}
use Rattle.clause_store.specs.declared.marked_clause.MarkedClause.TheInside.{Inside}

-- the clause and how many variables there are
abbrev pub marking_inside : Inside → Marking
marking_inside c = record { variables = c.variables; clause = c.literals.items }

-- the marks are those of the clause
abbrev pub MarksClause : Inside → Type 0
MarksClause c = AreMarksOf c.variables c.literals.items c.marks.items
