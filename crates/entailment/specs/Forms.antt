-- The clause form of logs.
use Rattle.std.specs.Prelude.{◌≡◌, ◌≤◌, ◌+◌, ◌⊎◌, true, not, List, [], ◌∷◌, ◌++◌, length}
use Rattle.std.specs.Prelude.{map}
use Rattle.std.specs.List.{list_all}
use Rattle.cqe_base.specs.Schema.{DatabaseSchema}
use Rattle.cqe_base.specs.Facts.{is_fact_of}
use Rattle.cqe_base.specs.Formula.{nodes, is_sentence_of}
use Rattle.cqe_base.specs.Entailment.{Signed, are_sentences_of}
use Rattle.cqe_base.specs.Literal.{Literal, ClausesBelow, HaveNoRepeat}
use Rattle.cqe_base.specs.SignedGround.{SignedGround}
use Rattle.cqe_base.specs.GroundParts.{nodes_of_list}
use Rattle.cqe_base.specs.Outcome.{grounded_signed}
use Rattle.clause_form.specs.Forms.{Form, form_of}
use Rattle.entailment.specs.Logs.{log_nodes, sentence_nodes}

-- the form of a log's grounded sentences, with their signs
abbrev pub form_of_log : DatabaseSchema → List Signed → Form
form_of_log schema log = form_of (map (grounded_signed schema) log)

-- the premises of a probe, and then its negated goal
abbrev pub with_negated : List Signed → Signed → List Signed
with_negated premises goal = premises ++ (goal.0, not goal.1) ∷ []

-- a form to which formulas were added: where it was that of a list, it is now that of the longer
-- list
abbrev pub HasAdded : List SignedGround → (before after : Form) → Type 0
HasAdded more before after =
    (formulas : List SignedGround) → before ≡ form_of formulas → after ≡ form_of (formulas ++ more)

-- a form to which some formulas were added, or none
abbrev pub GoesOn : (before after : Form) → Type 0
GoesOn before after =
    (formulas : List SignedGround) → before ≡ form_of formulas
    → (more : List SignedGround) × (after ≡ form_of (formulas ++ more))

-- a form is that of formulas which have, together with these, few nodes
abbrev pub HasRoomFor : List SignedGround → Form → Type 0
HasRoomFor more form =
    (formulas : List SignedGround) × (form ≡ form_of formulas)
    × (nodes_of_list formulas + nodes_of_list more ≤ 100000)

-- a form is that of a log, and the log, the premise and the goal keep the limits of a probe
pub record CanBeProbed (schema : DatabaseSchema) (premise : List Signed) (goal : Signed)
    (form : Form) (log : List Signed) : Type 0 where
  pub form_is : form ≡ form_of_log schema log
  pub sentences : are_sentences_of schema log ≡ true
  pub premise_sentence : are_sentences_of schema premise ≡ true
  pub goal_sentence : is_sentence_of schema goal.0 ≡ true
  pub all_nodes : log_nodes schema log + sentence_nodes schema premise + nodes schema goal.0
      ≤ 100000

-- so it is for some log
abbrev pub IsForProbe : DatabaseSchema → List Signed → Signed → Form → Type 0
IsForProbe schema premise goal form =
    (log : List Signed) × CanBeProbed schema premise goal form log

-- what is kept stays, or nothing is kept any more
abbrev pub StaysOrEmpty : (old new : List (List Literal)) → Type 0
StaysOrEmpty old new = (new ≡ old) ⊎ (new ≡ [])

-- a form that can be searched, and whose models have worlds: its clauses use its variables, and no
-- literal twice;
-- it is small; and the facts that it numbers are of the schema
pub record IsSearchable (schema : DatabaseSchema) (form : Form) : Type 0 where
  pub below : ClausesBelow form.numbering.variables form.clauses
  pub no_repeat : HaveNoRepeat form.clauses
  pub few_variables : form.numbering.variables ≤ 100001
  pub few_clauses : length form.clauses ≤ 500001
  pub few_facts : length form.numbering.facts ≤ 100000
  pub of_schema : list_all (λ e. is_fact_of schema e.fact) form.numbering.facts ≡ true
