-- What a search found, and that it is right.
use Rattle.std.specs.Prelude.{◌≡◌, true, List}
use Rattle.cqe_base.specs.Literal.{Literal}
use Rattle.cqe_base.specs.Refutation.{is_refutation, is_model}
use Rattle.clause_store.specs.PlainLines.{lines_of}
use Rattle.clause_solver.specs.declared.ends.Found.{Found}
use Rattle.clause_solver.specs.declared.ends.Found.TheVariants.{Model, Refuted, Spent}

-- a refutation is right, and the signs of a model are those of all variables and make each clause
-- true
abbrev pub IsRightFound : List (List Literal) → Found → Type 0
IsRightFound clauses (Model signs) = is_model clauses signs.values.items ≡ true
IsRightFound clauses (Refuted refutation) = is_refutation clauses (lines_of refutation) ≡ true
IsRightFound clauses Spent = Unit {0}
