-- A longer form, cut back.
use Rattle.std.proofs.Common.{◌≡◌, ℕ, zero, suc, ◌≤◌, List, [], ◌∷◌, ◌++◌, map, length, take, refl, sym, ap, ◌∙◌, arith, length-append}
use Rattle.std.specs.List.{AllByRecursion}
use Rattle.std.proofs.Math.Seq.{take-append_seam}
use Rattle.cqe_base.specs.SignedGround.{SignedGround}
use Rattle.cqe_base.specs.ClauseForm.{clause_form, numbering_of, clauses_of_list}
use Rattle.cqe_base.specs.MachineLaws.{ClauseFormIsPrefix, NumberingGoesOn, NumberedFactsStay}
use Rattle.cqe_base.specs.declared.world.Fact.{Fact}
use Rattle.clause_form.specs.Inside.{numbered_of, numbered_facts}
use Rattle.clause_form.specs.Forms.{form_of, size_of, first_of, AddedFormsGrow}

pub added_forms_grow : ClauseFormIsPrefix → NumberingGoesOn → AddedFormsGrow
added_forms_grow prefix goes_on formulas formula =
    λ i. record { clauses = sym (prefix formulas (formula ∷ [])) i; numbering = sym (goes_on formulas (formula ∷ [])) i }

-- the clauses of a list are there in the longer form
pub cut_within : ClauseFormIsPrefix → (formulas more : List SignedGround) → length (clause_form formulas) ≤ length (clause_form (formulas ++ more))
cut_within prefix formulas more =
    let e = ap length (prefix formulas more) in
    let sum = length-append (clause_form formulas) (clauses_of_list more (numbering_of formulas)) in
    omega arith

-- the first part of the form of a longer list is the form of the list
pub cut_back : ClauseFormIsPrefix → NumberedFactsStay → (formulas more : List SignedGround)
    → first_of (size_of (form_of formulas)) (form_of (formulas ++ more)) ≡ form_of formulas
cut_back prefix stay formulas more =
    let facts : take (length (numbering_of formulas).facts) (numbering_of (formulas ++ more)).facts ≡ (numbering_of formulas).facts =
    ap (take (length (numbering_of formulas).facts)) (stay formulas more).1 ∙ take-append_seam (numbering_of formulas).facts (stay formulas more).0 in
    let clauses : take (length (clause_form formulas)) (clause_form (formulas ++ more)) ≡ clause_form formulas =
    ap (take (length (clause_form formulas))) (prefix formulas more) ∙ take-append_seam (clause_form formulas) (clauses_of_list more (numbering_of formulas)) in
    λ i. record { clauses = clauses i; numbering = record { variables = (numbering_of formulas).variables; facts = facts i } }

pub map-take : {X Y : Type 0} (f : X → Y) (n : ℕ) (xs : List X) → map f (take n xs) ≡ take n (map f xs)
map-take f zero xs = refl
map-take f (suc n) [] = refl
map-take f (suc n) (x ∷ xs) = ap (λ ys. f x ∷ ys) (map-take f n xs)

pub each_of_take : {X : Type 0} (P : X → Type 0) (n : ℕ) (xs : List X) → AllByRecursion P xs → AllByRecursion P (take n xs)
each_of_take P zero xs h = tt
each_of_take P (suc n) [] h = tt
each_of_take P (suc n) (x ∷ xs) h = (h.0, each_of_take P n xs h.1)

pub facts_of_take : (n : ℕ) (old new : List (Fact × ℕ)) → new ≡ take n old → numbered_facts new ≡ take n (numbered_facts old)
facts_of_take n old new e = ap numbered_facts e ∙ map-take numbered_of n old
