-- Resolution, refutations and models, and when they are right.
use Rattle.std.specs.Prelude.{ℕ, Bool, true, false, not, ◌&&◌, ◌||◌, if◌then◌else◌, nat_lt, ◌==◌}
use Rattle.std.specs.Prelude.{List, [], ◌∷◌, ◌++◌, length, Option, Some, None, slice_get}
use Rattle.std.specs.List.{filter, list_all}
use Rattle.cqe_base.specs.Literal.{Literal, variable_of, opposite, has_literal, union}
use Rattle.cqe_base.specs.Literal.{distinct_literals, sign_at, clauses_true}

-- a learnt clause, and the numbers of the clauses that it is resolved from, in order
pub record RefutationLine : Type 0 where
  pub clause : List Literal
  pub chain : List ℕ

-- the literals of a clause without those of a variable
abbrev pub without_variable : ℕ → List Literal → List Literal
without_variable v clause = filter (λ l. not (variable_of l == v)) clause

-- the resolvent of two clauses on a variable: the rest of the first, then what the rest of the
-- second adds
abbrev pub resolvent : ℕ → List Literal → List Literal → List Literal
resolvent v first second = union (without_variable v first) (without_variable v second)

-- the literals of the first clause whose opposite is in the second, each once
abbrev pub clashes : List Literal → List Literal → List Literal
clashes first second = distinct_literals (filter (λ l. has_literal second (opposite l)) first)

-- the resolvent on this literal, unless one of the two clauses has both literals of its variable
abbrev pub resolvent_on : List Literal → List Literal → List Literal → Option (List Literal)
resolvent_on [] first second = None
resolvent_on (l ∷ []) first second =
    if has_literal first (opposite l) || has_literal second l then None
    else Some (resolvent (variable_of l) first second)
resolvent_on (l ∷ m ∷ rest) first second = None

-- the resolvent of two clauses that clash in exactly one variable
abbrev pub single_resolvent : List Literal → List Literal → Option (List Literal)
single_resolvent first second = resolvent_on (clashes first second) first second

-- resolves with a clause, where there is one
abbrev pub resolvent_with_next : List Literal → Option (List Literal) → Option (List Literal)
resolvent_with_next clause None = None
resolvent_with_next clause (Some next) = single_resolvent clause next

-- a clause resolved with each next clause of the chain in turn
abbrev pub chain_from : List (List Literal) → Option (List Literal) → List ℕ → Option (List Literal)
chain_from clauses None chain = None
chain_from clauses (Some clause) [] = Some clause
chain_from clauses (Some clause) (i ∷ chain) =
    chain_from clauses (resolvent_with_next clause (slice_get clauses i)) chain

-- the result of a chain that has at least one number
abbrev pub chain_result : List (List Literal) → List ℕ → Option (List Literal)
chain_result clauses [] = None
chain_result clauses (i ∷ chain) = chain_from clauses (slice_get clauses i) chain

-- whether two clauses have the same literals
abbrev pub same_literals : List Literal → List Literal → Bool
same_literals first second =
    list_all (has_literal second) first && list_all (has_literal first) second

-- whether a chain's result has the literals of a clause
abbrev pub is_result : List Literal → Option (List Literal) → Bool
is_result clause None = false
is_result clause (Some result) = same_literals clause result

-- each line is right: its clause has the literals of its chain's result over the clauses before it
abbrev pub lines_right : List (List Literal) → List RefutationLine → Bool
lines_right clauses [] = true
lines_right clauses (line ∷ rest) =
    is_result line.clause (chain_result clauses line.chain)
    && lines_right (clauses ++ line.clause ∷ []) rest

-- whether a clause has no literal
abbrev pub is_empty_clause : List Literal → Bool
is_empty_clause [] = true
is_empty_clause (l ∷ clause) = false

-- whether there is a last line and it has no literal
abbrev pub ends_empty : List RefutationLine → Bool
ends_empty [] = false
ends_empty (line ∷ []) = is_empty_clause line.clause
ends_empty (line ∷ next ∷ rest) = ends_empty (next ∷ rest)

-- a refutation is right where all its lines are and the last one has no literal
abbrev pub is_refutation : List (List Literal) → List RefutationLine → Bool
is_refutation clauses lines = lines_right clauses lines && ends_empty lines

-- whether a list has a sign for every variable of the clauses
abbrev pub covers : List Bool → List (List Literal) → Bool
covers signs clauses =
    list_all (λ clause. list_all (λ l. nat_lt (variable_of l) (length signs)) clause) clauses

-- a model is right where it has a sign for every variable and each clause has a true literal
abbrev pub is_model : List (List Literal) → List Bool → Bool
is_model clauses signs = covers signs clauses && clauses_true (sign_at signs) clauses
