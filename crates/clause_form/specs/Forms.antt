-- Forms: what a former has, and how it grows.
use Rattle.std.specs.Prelude.{◌≡◌, ℕ, List, [], ◌∷◌, ◌++◌, length, take}
use Rattle.cqe_base.specs.Literal.{Literal}
use Rattle.cqe_base.specs.SignedGround.{SignedGround}
use Rattle.cqe_base.specs.ClauseForm.{Numbering, clause_form, numbering_of, clauses_of_list}
use Rattle.cqe_base.specs.ClauseForm.{numbering_after_list}

-- numbered clauses over the variables of a numbering
pub record Form : Type 0 where
  pub clauses : List (List Literal)
  pub numbering : Numbering

-- the form of a list
abbrev pub form_of : List SignedGround → Form
form_of formulas = record { clauses = clause_form formulas; numbering = numbering_of formulas }

-- the form with one more formula: the clauses of the formula come last
abbrev pub with_formula : Form → SignedGround → Form
with_formula form formula =
    record {
      clauses = form.clauses ++ clauses_of_list (formula ∷ []) form.numbering;
      numbering = numbering_after_list (formula ∷ []) form.numbering;
    }

-- adding a formula to the form of a list gives the form of the longer list
abbrev pub AddedFormsGrow : Type 0
AddedFormsGrow =
    (formulas : List SignedGround) (formula : SignedGround)
    → with_formula (form_of formulas) formula ≡ form_of (formulas ++ formula ∷ [])

-- how many clauses, numbered facts and variables a form has
pub record FormSize : Type 0 where
  pub clauses : ℕ
  pub facts : ℕ
  pub variables : ℕ

-- how many of each a form has
abbrev pub size_of : Form → FormSize
size_of form =
    record {
      clauses = length form.clauses;
      facts = length form.numbering.facts;
      variables = form.numbering.variables;
    }

-- the size is that of an earlier form: this form is that of a list, and the size is that of the
-- form of its beginning
abbrev pub IsSizeWithin : FormSize → Form → Type 0
IsSizeWithin size form =
    (formulas more : List SignedGround) × (form ≡ form_of (formulas ++ more))
    × (size ≡ size_of (form_of formulas))

-- a form cut back to a size: its first clauses and facts, so many, and so many variables
abbrev pub first_of : FormSize → Form → Form
first_of size form =
    record {
      clauses = take size.clauses form.clauses;
      numbering =
          record { variables = size.variables; facts = take size.facts form.numbering.facts };
    }
