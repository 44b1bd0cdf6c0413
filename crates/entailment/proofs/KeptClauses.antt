-- The clauses that the search keeps are the first of those of a log.
use Rattle.std.proofs.Common.{◌≡◌, ◌≤◌, ℕ, zero, suc, List, [], ◌∷◌, ◌++◌, map, take, arith, refl, sym, ap, subst, ◌∙◌, inl, inr, append_assoc}
use Rattle.std.proofs.lemmas.List.{map-append, append-nil}
use Rattle.cqe_base.specs.Schema.{DatabaseSchema}
use Rattle.cqe_base.specs.Literal.{Literal}
use Rattle.cqe_base.specs.Entailment.{Signed}
use Rattle.cqe_base.specs.ClauseForm.{numbering_of, clauses_of_list}
use Rattle.cqe_base.specs.SignedGround.{SignedGround}
use Rattle.cqe_base.specs.Outcome.{grounded_signed}
use Rattle.cqe_base.specs.MachineLaws.{ClauseFormIsPrefix}
use Rattle.clause_form.specs.Forms.{Form, form_of}
use Rattle.clause_solver.specs.Beginnings.{IsBeginning}
use Rattle.entailment.specs.Forms.{form_of_log, StaysOrEmpty}

module _ (kept clauses : List (List Literal)) where
  pub none-begins : kept ≡ [] → IsBeginning kept clauses
  none-begins none = (clauses, ap (λ k. k ++ clauses) (sym none))

  pub all-begin : kept ≡ clauses → IsBeginning kept clauses
  all-begin all = ([], sym all ∙ sym (append-nil kept))

pub stays-begins : (old new clauses : List (List Literal)) → StaysOrEmpty old new → IsBeginning old clauses → IsBeginning new clauses
stays-begins old new clauses (inl same) begins = subst (λ k. IsBeginning k clauses) (sym same) begins
stays-begins old new clauses (inr none) begins = none-begins new clauses none

pub begins-more : (kept middle clauses : List (List Literal)) → kept ≡ middle → IsBeginning middle clauses → IsBeginning kept clauses
begins-more kept middle clauses same begins = subst (λ k. IsBeginning k clauses) (sym same) begins

-- the clauses of a list begin those of a longer one
pub form-begins : ClauseFormIsPrefix → (first more : List SignedGround) (old new : Form) → old ≡ form_of first → new ≡ form_of (first ++ more)
    → IsBeginning old.clauses new.clauses
form-begins prefix first more old new old-is new-is = (
  clauses_of_list more (numbering_of first),
  ap (λ f. f.clauses) new-is ∙ prefix first more ∙ ap (λ (f : Form). f.clauses ++ clauses_of_list more (numbering_of first)) (sym old-is),
)

-- so what begins those of a list begins those of a longer one
form-begins-more : ClauseFormIsPrefix → (first more : List SignedGround) (kept : List (List Literal)) (old new : Form)
    → old ≡ form_of first → new ≡ form_of (first ++ more) → IsBeginning kept old.clauses → IsBeginning kept new.clauses
form-begins-more prefix first more kept old new old-is new-is begins =
    let longer = form-begins prefix first more old new old-is new-is in
    (begins.0 ++ longer.0, longer.1 ∙ ap (λ c. c ++ longer.0) begins.1 ∙ append_assoc kept begins.0 longer.0)

take-more-of : {X : Type 0} (a b : ℕ) (xs : List X) → a ≤ b → (more : List X) × (take b xs ≡ take a xs ++ more)
take-more-of zero b xs h = (take b xs, refl)
take-more-of (suc a) zero xs h = absurd (omega (arith, h))
take-more-of (suc a) (suc b) [] h = ([], refl)
take-more-of (suc a) (suc b) (x ∷ xs) h =
    let rest = take-more-of a b xs (omega (arith, h)) in
    (rest.0, ap (λ t. x ∷ t) rest.1)

-- what begins the clauses of the first sentences of a log begins those of its first sentences of which there are more
pub taken-begins : ClauseFormIsPrefix → (schema : DatabaseSchema) (log : List Signed) (a b : ℕ) (kept : List (List Literal)) (old new : Form) → a ≤ b
    → old ≡ form_of_log schema (take a log) → new ≡ form_of_log schema (take b log) → IsBeginning kept old.clauses → IsBeginning kept new.clauses
taken-begins prefix schema log a b kept old new le old-is new-is begins =
    let more = take-more-of a b log le in
    form-begins-more prefix (map (grounded_signed schema) (take a log)) (map (grounded_signed schema) more.0) kept old new old-is
    (new-is ∙ ap (form_of_log schema) more.1 ∙ ap form_of (map-append (grounded_signed schema) (take a log) more.0)) begins
