-- A code of formulas, for the checker alone: with it a list of formulas has a known equality. No
-- clause rests on it, and nobody has to believe it.
-- A formula is stored as the list of its parts, children before their parent.
use Rattle.std.specs.Prelude.{◌≡◌, ℕ, zero, suc, List, [], ◌∷◌, ◌++◌, refl}
use Rattle.std.specs.Coded.{Coded, Coded-set, code_by, coded_ℕ, coded_list, coded×}
use Rattle.std.proofs.Common.{ap, ◌∙◌}
use Rattle.cqe_base.specs.declared.sentence.Term.{Term}
use Rattle.cqe_base.specs.declared.sentence.Term.TheVariants.{Constant as constant, Place}
use Rattle.cqe_base.specs.Formula.{Formula, verum, falsum, atom, equality, inequality, negation}
use Rattle.cqe_base.specs.Formula.{conjunction, disjunction, implication, biconditional, universal}
use Rattle.cqe_base.specs.Formula.{existential}

-- a term as three numbers
abbrev CodedTerm : Type 0
CodedTerm = ℕ × (ℕ × ℕ)

abbrev term_stored : Term → CodedTerm
term_stored (constant c) = (0, (c.domain, c.index))
term_stored (Place i) = (1, (i, 0))

abbrev term_back : ℕ → ℕ × ℕ → Term
term_back zero rest = constant (record { domain = rest.0; index = rest.1 })
term_back (suc _) rest = Place rest.0

abbrev term_found : CodedTerm → Term
term_found p = term_back p.0 p.1

pub term_found-stored : (t : Term) → term_found (term_stored t) ≡ t
term_found-stored (constant c) = refl
term_found-stored (Place i) = refl

abbrev terms_found : List CodedTerm → List Term
terms_found [] = []
terms_found (p ∷ ps) = term_found p ∷ terms_found ps

abbrev terms_stored : List Term → List CodedTerm
terms_stored [] = []
terms_stored (t ∷ ts) = term_stored t ∷ terms_stored ts

pub terms_found-stored : (ts : List Term) → terms_found (terms_stored ts) ≡ ts
terms_found-stored [] = refl
terms_found-stored (t ∷ ts) = rw (term_found-stored t, terms_found-stored ts)

-- a part: the number of its kind, the number of its relation or domain, and its terms
abbrev Part : Type 0
Part = ℕ × (ℕ × List CodedTerm)

abbrev part_code : Coded Part
part_code = coded× coded_ℕ (coded× coded_ℕ (coded_list (coded× coded_ℕ (coded× coded_ℕ coded_ℕ))))

abbrev part : ℕ → ℕ → List Term → Part
part kind number terms = (kind, (number, terms_stored terms))

abbrev stored : Formula → List Part
stored verum = part 0 0 [] ∷ []
stored falsum = part 1 0 [] ∷ []
stored (atom r terms) = part 2 r terms ∷ []
stored (equality s t) = part 3 0 (s ∷ t ∷ []) ∷ []
stored (inequality s t) = part 4 0 (s ∷ t ∷ []) ∷ []
stored (negation a) = stored a ++ part 5 0 [] ∷ []
stored (conjunction a b) = stored a ++ (stored b ++ part 6 0 [] ∷ [])
stored (disjunction a b) = stored a ++ (stored b ++ part 7 0 [] ∷ [])
stored (implication a b) = stored a ++ (stored b ++ part 8 0 [] ∷ [])
stored (biconditional a b) = stored a ++ (stored b ++ part 9 0 [] ∷ [])
stored (universal d a) = stored a ++ part 10 d [] ∷ []
stored (existential d a) = stored a ++ part 11 d [] ∷ []

-- ---- back from the parts, with the formulas so far on a stack

abbrev of_two : (Term → Term → Formula) → List CodedTerm → List Formula → List Formula
of_two make (s ∷ t ∷ []) stack = make (term_found s) (term_found t) ∷ stack
of_two make _ stack = stack

abbrev on_one : (Formula → Formula) → List Formula → List Formula
on_one make [] = []
on_one make (a ∷ stack) = make a ∷ stack

abbrev on_two : (Formula → Formula → Formula) → List Formula → List Formula
on_two make (b ∷ a ∷ stack) = make a b ∷ stack
on_two make stack = stack

abbrev step : ℕ → ℕ → List CodedTerm → List Formula → List Formula
step zero number terms stack = verum ∷ stack
step (suc zero) number terms stack = falsum ∷ stack
step (suc (suc zero)) number terms stack = atom number (terms_found terms) ∷ stack
step (suc (suc (suc zero))) number terms stack = of_two equality terms stack
step (suc (suc (suc (suc zero)))) number terms stack = of_two inequality terms stack
step (suc (suc (suc (suc (suc zero))))) number terms stack = on_one negation stack
step (suc (suc (suc (suc (suc (suc zero)))))) number terms stack = on_two conjunction stack
step (suc (suc (suc (suc (suc (suc (suc zero))))))) number terms stack = on_two disjunction stack
step (suc (suc (suc (suc (suc (suc (suc (suc zero)))))))) number terms stack =
    on_two implication stack
step (suc (suc (suc (suc (suc (suc (suc (suc (suc zero))))))))) number terms stack =
    on_two biconditional stack
step (suc (suc (suc (suc (suc (suc (suc (suc (suc (suc zero)))))))))) number terms stack =
    on_one (universal number) stack
step (suc (suc (suc (suc (suc (suc (suc (suc (suc (suc (suc zero))))))))))) number terms stack =
    on_one (existential number) stack
step _ number terms stack = stack

abbrev run : List Part → List Formula → List Formula
run [] stack = stack
run (p ∷ parts) stack = run parts (step p.0 p.1.0 p.1.1 stack)

pub run-append : (first second : List Part) (stack : List Formula)
    → run (first ++ second) stack ≡ run second (run first stack)
run-append [] second stack = refl
run-append (p ∷ first) second stack = run-append first second (step p.0 p.1.0 p.1.1 stack)

pub run-stored : (f : Formula) (stack : List Formula) → run (stored f) stack ≡ f ∷ stack
run-stored verum stack = refl
run-stored falsum stack = refl
run-stored (atom r terms) stack = ap (λ ts. atom r ts ∷ stack) (terms_found-stored terms)
run-stored (equality s t) stack = rw (term_found-stored s, term_found-stored t)
run-stored (inequality s t) stack = rw (term_found-stored s, term_found-stored t)
run-stored (negation a) stack =
    run-append (stored a) (part 5 0 [] ∷ []) stack ∙ ap (on_one negation) (run-stored a stack)
run-stored (conjunction a b) stack =
    run-append (stored a) (stored b ++ part 6 0 [] ∷ []) stack
    ∙ run-append (stored b) (part 6 0 [] ∷ []) (run (stored a) stack)
    ∙ ap (λ s. on_two conjunction (run (stored b) s)) (run-stored a stack)
    ∙ ap (on_two conjunction) (run-stored b (a ∷ stack))
run-stored (disjunction a b) stack =
    run-append (stored a) (stored b ++ part 7 0 [] ∷ []) stack
    ∙ run-append (stored b) (part 7 0 [] ∷ []) (run (stored a) stack)
    ∙ ap (λ s. on_two disjunction (run (stored b) s)) (run-stored a stack)
    ∙ ap (on_two disjunction) (run-stored b (a ∷ stack))
run-stored (implication a b) stack =
    run-append (stored a) (stored b ++ part 8 0 [] ∷ []) stack
    ∙ run-append (stored b) (part 8 0 [] ∷ []) (run (stored a) stack)
    ∙ ap (λ s. on_two implication (run (stored b) s)) (run-stored a stack)
    ∙ ap (on_two implication) (run-stored b (a ∷ stack))
run-stored (biconditional a b) stack =
    run-append (stored a) (stored b ++ part 9 0 [] ∷ []) stack
    ∙ run-append (stored b) (part 9 0 [] ∷ []) (run (stored a) stack)
    ∙ ap (λ s. on_two biconditional (run (stored b) s)) (run-stored a stack)
    ∙ ap (on_two biconditional) (run-stored b (a ∷ stack))
run-stored (universal d a) stack =
    run-append (stored a) (part 10 d [] ∷ []) stack ∙ ap (on_one (universal d)) (run-stored a stack)
run-stored (existential d a) stack =
    run-append (stored a) (part 11 d [] ∷ []) stack
    ∙ ap (on_one (existential d)) (run-stored a stack)

abbrev top_of : List Formula → Formula
top_of [] = verum
top_of (f ∷ stack) = f

abbrev found : List Part → Formula
found parts = top_of (run parts [])

pub found-stored : (f : Formula) → found (stored f) ≡ f
found-stored f = ap top_of (run-stored f [])

-- a formula is stored as its parts
abbrev pub formula_code : Coded Formula
formula_code = code_by (List Part) (coded_list part_code) stored found found-stored

-- two equations between the same formulas are one
pub formula_set : IsSet Formula
formula_set = Coded-set formula_code
