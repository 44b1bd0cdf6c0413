-- The clause form of a list of signed ground formulas: numbered clauses over numbered variables.
use Rattle.std.specs.Prelude.{◌≡◌, ⊤, ℕ, ◌≤◌, ◌+◌, Bool, true, false, ◌&&◌, ◌==◌, if◌then◌else◌}
use Rattle.std.specs.Prelude.{List, [], ◌∷◌, ◌++◌, map, filter, bytes_eq}
use Rattle.std.specs.List.{list_any}
use Rattle.std.specs.FinSet as set
use Rattle.cqe_base.specs.declared.world.Fact.{Fact}
use Rattle.cqe_base.specs.Facts.{FactSet}
use Rattle.cqe_base.specs.Ground.{Ground, Grounds, ground_true, ground_false, ground_atom}
use Rattle.cqe_base.specs.Ground.{ground_not, ground_all, ground_some, ground_implies, ground_iff}
use Rattle.cqe_base.specs.Ground.{no_grounds, more_grounds}
use Rattle.cqe_base.specs.SignedGround.{SignedGround}
use Rattle.cqe_base.specs.Literal.{Literal, Positive, Negative, opposite, distinct_literals}

-- whether two facts are the same
abbrev pub same_fact : Fact → Fact → Bool
same_fact f g = f.relation == g.relation && bytes_eq f.columns g.columns

-- a fact and the variable that stands for it
pub record NumberedFact : Type 0 where
  pub fact : Fact
  pub number : ℕ

-- how many variables are taken, and the facts among them in the order of their first appearance
pub record Numbering : Type 0 where
  pub variables : ℕ
  pub facts : List NumberedFact

-- before the first formula: variable 0 is the constant true
abbrev pub first_numbering : Numbering
first_numbering = record { variables = 1; facts = [] }

-- whether a fact has a number
abbrev pub is_numbered : List NumberedFact → Fact → Bool
is_numbered facts fact = list_any (λ e. same_fact fact e.fact) facts

-- the number of a fact, or else the next free one
abbrev pub number_of : List NumberedFact → Fact → ℕ → ℕ
number_of [] fact next = next
number_of (e ∷ facts) fact next =
    if same_fact fact e.fact then e.number else number_of facts fact next

-- the numbers of facts rise, from `low` on and below `high`
abbrev pub NumbersRise : ℕ → List NumberedFact → ℕ → Type 0
NumbersRise low [] high = low ≤ high
NumbersRise low (e ∷ facts) high = (low ≤ e.number) × NumbersRise (e.number + 1) facts high

-- each fact of a list is numbered once
abbrev pub NumberedOnce : List NumberedFact → Type 0
NumberedOnce [] = ⊤
NumberedOnce (e ∷ facts) = (is_numbered facts e.fact ≡ false) × NumberedOnce facts

-- each fact is numbered once, and each number is used once: it isn't that of the constant, and
-- below the next free one
pub record IsProper (n : Numbering) : Type 0 where
  pub rising : NumbersRise 1 n.facts n.variables
  pub once : NumberedOnce n.facts

-- the fact has a number: its own, or the next free one
abbrev pub with_fact : Numbering → Fact → Numbering
with_fact n fact =
    if is_numbered n.facts fact then n
    else record {
      variables = n.variables + 1;
      facts = n.facts ++ record { fact = fact; number = n.variables } ∷ [];
    }

-- one more node has taken the next free variable
abbrev pub with_node : Numbering → Numbering
with_node n = record n { variables = n.variables + 1 }

abbrev mutual
  -- the numbering after a formula was walked, children before their parent
  pub numbering_after : Ground → Numbering → Numbering
  numbering_after ground_true n = n
  numbering_after ground_false n = n
  numbering_after (ground_atom fact) n = with_fact n fact
  numbering_after (ground_not a) n = numbering_after a n
  numbering_after (ground_all parts) n = with_node (numbering_after_parts parts n)
  numbering_after (ground_some parts) n = with_node (numbering_after_parts parts n)
  numbering_after (ground_implies a b) n = with_node (numbering_after b (numbering_after a n))
  numbering_after (ground_iff a b) n = with_node (numbering_after b (numbering_after a n))

  -- the same for formulas from left to right
  pub numbering_after_parts : Grounds → Numbering → Numbering
  numbering_after_parts no_grounds n = n
  numbering_after_parts (more_grounds a rest) n = numbering_after_parts rest (numbering_after a n)

-- the literal that stands for a formula whose walk begins at this numbering
abbrev pub literal_of : Ground → Numbering → Literal
literal_of ground_true n = Positive 0
literal_of ground_false n = Negative 0
literal_of (ground_atom fact) n = Positive (number_of n.facts fact n.variables)
literal_of (ground_not a) n = opposite (literal_of a n)
literal_of (ground_all parts) n = Positive (numbering_after_parts parts n).variables
literal_of (ground_some parts) n = Positive (numbering_after_parts parts n).variables
literal_of (ground_implies a b) n = Positive (numbering_after b (numbering_after a n)).variables
literal_of (ground_iff a b) n = Positive (numbering_after b (numbering_after a n)).variables

-- the literals of formulas from left to right
abbrev pub literals_of : Grounds → Numbering → List Literal
literals_of no_grounds n = []
literals_of (more_grounds a rest) n = literal_of a n ∷ literals_of rest (numbering_after a n)

-- variable v is true exactly where all literals are
abbrev pub and_clauses : ℕ → List Literal → List (List Literal)
and_clauses v literals =
    map (λ l. distinct_literals (Negative v ∷ l ∷ [])) literals
    ++ distinct_literals (Positive v ∷ map opposite literals) ∷ []

-- variable v is true exactly where some literal is
abbrev pub or_clauses : ℕ → List Literal → List (List Literal)
or_clauses v literals =
    map (λ l. distinct_literals (Positive v ∷ opposite l ∷ [])) literals
    ++ distinct_literals (Negative v ∷ literals) ∷ []

-- variable v is true exactly where the two literals are both true or both false
abbrev pub iff_clauses : ℕ → Literal → Literal → List (List Literal)
iff_clauses v a b =
    distinct_literals (Negative v ∷ opposite a ∷ b ∷ [])
    ∷ distinct_literals (Negative v ∷ a ∷ opposite b ∷ [])
    ∷ distinct_literals (Positive v ∷ a ∷ b ∷ [])
    ∷ distinct_literals (Positive v ∷ opposite a ∷ opposite b ∷ [])
    ∷ []

abbrev mutual
  -- the clauses that the walk of a formula appends: those of its children, then those of its own
  -- node
  pub clauses_of : Ground → Numbering → List (List Literal)
  clauses_of ground_true n = []
  clauses_of ground_false n = []
  clauses_of (ground_atom fact) n = []
  clauses_of (ground_not a) n = clauses_of a n
  clauses_of (ground_all parts) n =
      clauses_of_parts parts n
      ++ and_clauses (numbering_after_parts parts n).variables (literals_of parts n)
  clauses_of (ground_some parts) n =
      clauses_of_parts parts n
      ++ or_clauses (numbering_after_parts parts n).variables (literals_of parts n)
  clauses_of (ground_implies a b) n =
      clauses_of a n
      ++ clauses_of b (numbering_after a n)
      ++ or_clauses (numbering_after b (numbering_after a n)).variables
      (opposite (literal_of a n) ∷ literal_of b (numbering_after a n) ∷ [])
  clauses_of (ground_iff a b) n =
      clauses_of a n
      ++ clauses_of b (numbering_after a n)
      ++ iff_clauses (numbering_after b (numbering_after a n)).variables (literal_of a n)
      (literal_of b (numbering_after a n))

  -- the same for formulas from left to right
  pub clauses_of_parts : Grounds → Numbering → List (List Literal)
  clauses_of_parts no_grounds n = []
  clauses_of_parts (more_grounds a rest) n =
      clauses_of a n ++ clauses_of_parts rest (numbering_after a n)

-- the literal that makes a signed formula true
abbrev pub signed_literal : SignedGround → Numbering → Literal
signed_literal (a, true) n = literal_of a n
signed_literal (a, false) n = opposite (literal_of a n)

-- the numbering after a list of signed formulas
abbrev pub numbering_after_list : List SignedGround → Numbering → Numbering
numbering_after_list [] n = n
numbering_after_list (s ∷ rest) n = numbering_after_list rest (numbering_after s.0 n)

-- the clauses that a list of signed formulas appends: for each its walk, then its literal alone
abbrev pub clauses_of_list : List SignedGround → Numbering → List (List Literal)
clauses_of_list [] n = []
clauses_of_list (s ∷ rest) n =
    clauses_of s.0 n ++ (signed_literal s n ∷ []) ∷ clauses_of_list rest (numbering_after s.0 n)

-- the clause form of a list: the constant, then what the list appends
abbrev pub clause_form : List SignedGround → List (List Literal)
clause_form formulas = (Positive 0 ∷ []) ∷ clauses_of_list formulas first_numbering

-- the numbering of a list's clause form
abbrev pub numbering_of : List SignedGround → Numbering
numbering_of formulas = numbering_after_list formulas first_numbering

-- the world of the numbered facts whose variables are true
abbrev pub world_of : List NumberedFact → (ℕ → Bool) → FactSet
world_of facts signs = set.from_list (map (λ e. e.fact) (filter (λ e. signs e.number) facts))
