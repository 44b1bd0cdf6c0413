-- How a walk changes a form.
use Rattle.std.specs.Prelude.{◌≡◌, ◌≤◌, ◌+◌, List, ◌++◌}
use Rattle.cqe_base.specs.Literal.{Literal}
use Rattle.cqe_base.specs.Ground.{Ground, Grounds, ground_nodes, part_nodes}
use Rattle.cqe_base.specs.ClauseForm.{Numbering, numbering_after, numbering_after_parts}
use Rattle.cqe_base.specs.ClauseForm.{literal_of, literals_of, clauses_of, clauses_of_parts}
use Rattle.clause_form.specs.Forms.{Form}
use Rattle.clause_form.specs.Prefixes.{BeginsWith}

-- the form with another numbering
abbrev pub with_numbering : Form → Numbering → Form
with_numbering form numbering = record { clauses = form.clauses; numbering = numbering }

-- the form with more clauses
abbrev pub with_clauses : Form → List (List Literal) → Form
with_clauses form more = record { clauses = form.clauses ++ more; numbering = form.numbering }

-- the new form goes on from the old one, whose clauses and facts stand in front
pub record GoesOn (old new : Form) : Type 0 where
  pub clauses : BeginsWith old.clauses new.clauses
  pub facts : BeginsWith old.numbering.facts new.numbering.facts

-- the form after a walk
abbrev pub walked_form : Ground → Form → Form
walked_form a old =
    with_clauses (with_numbering old (numbering_after a old.numbering)) (clauses_of a old.numbering)

-- the form after the walks of formulas from left to right
abbrev pub walked_parts : Grounds → Form → Form
walked_parts parts old =
    with_clauses (with_numbering old (numbering_after_parts parts old.numbering))
    (clauses_of_parts parts old.numbering)

-- the walk of a formula gave this literal and led to this form, at most one variable further for
-- each node
pub record Walked (a : Ground) (old : Form) (literal : Literal) (new : Form) : Type 0 where
  pub literal_is : literal ≡ literal_of a old.numbering
  pub form_is : new ≡ walked_form a old
  pub few : new.numbering.variables ≤ old.numbering.variables + ground_nodes a

-- the same of formulas from left to right
pub record WalkedParts (parts : Grounds) (old : Form) (literals : List Literal) (new : Form) :
    Type 0 where
  pub literals_are : literals ≡ literals_of parts old.numbering
  pub form_is : new ≡ walked_parts parts old
  pub few : new.numbering.variables ≤ old.numbering.variables + part_nodes parts
