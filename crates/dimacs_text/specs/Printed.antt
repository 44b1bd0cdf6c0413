-- What is printed of an end of the machine.
use Rattle.std.specs.Prelude.{ℕ, ◌+◌, Bool, true, false, Option, Some, None, if◌then◌else◌}
use Rattle.std.specs.Prelude.{List, [], ◌∷◌, ◌++◌, length, reverse, codes, decimal}
use Rattle.std.specs.Fmt.{signed_decimal}
use Rattle.cqe_base.specs.Schema.{Text}
use Rattle.cqe_base.specs.Literal.{Literal, Positive, Negative}
use Rattle.cqe_base.specs.Refutation.{RefutationLine}
use Rattle.cqe_base.specs.Machine.{End, Model, Refuted}
use Rattle.clause_store.specs.SignedNumbers.{number_of_literal}
use Rattle.dimacs_text.specs.Dimacs.{Cnf}

-- a literal with a blank: its variable counted from 1, with a `-` in front where it is negated
abbrev pub literal_text : Literal → Text
literal_text l = signed_decimal (number_of_literal l) ++ codes " "

-- the literals of a clause, and 0
abbrev pub clause_text : List Literal → Text
clause_text [] = codes "0"
clause_text (l ∷ rest) = literal_text l ++ clause_text rest

-- the literal of a variable that is true where it has this sign
abbrev pub value_text : ℕ → Bool → Text
value_text variable true = literal_text (Positive variable)
value_text variable false = literal_text (Negative variable)

-- the values of the variables from this one on, and 0
abbrev pub values_text : ℕ → List Bool → Text
values_text variable [] = codes "0\n"
values_text variable (sign ∷ signs) = value_text variable sign ++ values_text (variable + 1) signs

-- numbers of clauses, counted from 1, and 0
abbrev pub hints_text : List ℕ → Text
hints_text [] = codes "0\n"
hints_text (number ∷ rest) = decimal (number + 1) ++ codes " " ++ hints_text rest

-- a line of a refutation in LRAT: its number, its clause, and its chain backwards, so that each
-- clause leaves one literal for those behind it
abbrev pub lrat_line : ℕ → RefutationLine → Text
lrat_line number line =
    decimal number ++ codes " " ++ clause_text line.clause ++ codes " "
    ++ hints_text (reverse line.chain)

-- the lines of a refutation in LRAT, numbered from here on
abbrev pub lrat_text : ℕ → List RefutationLine → Text
lrat_text number [] = []
lrat_text number (line ∷ lines) = lrat_line number line ++ lrat_text (number + 1) lines

-- what is printed of a refutation: its lines where they are wanted, numbered on from the given
-- clauses, which are counted from 1
abbrev pub refutation_text : Cnf → List RefutationLine → Text
refutation_text cnf lines =
    codes "s UNSATISFIABLE\n" ++ (if cnf.lrat then lrat_text (length cnf.clauses + 1) lines else [])

-- what a search cost
abbrev pub cost_text : ℕ → Text
cost_text cost = codes "c cost " ++ decimal cost ++ codes "\n"

-- what is printed of an end, or where the budget was spent
abbrev pub end_text : Cnf → Option End → Text
end_text cnf None = codes "s UNKNOWN\n"
end_text cnf (Some (Model signs)) = codes "s SATISFIABLE\nv " ++ values_text 0 signs
end_text cnf (Some (Refuted lines)) = refutation_text cnf lines
