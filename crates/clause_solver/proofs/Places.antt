-- The place of a literal's opposite on a trail, by that of its variable; and lists that grow.
use Rattle.std.proofs.Common.{◌≡◌, ℕ, suc, ◌+◌, ◌≤◌, ◌-◌, Bool, true, false, cond, ◌||◌, eqb, List, [], ◌∷◌, ◌++◌, length, length-append, get_or, take}
use Rattle.std.proofs.Common.{replicate, refl, sym}
use Rattle.std.proofs.Common.{ap, ◌∙◌}
use Rattle.std.proofs.Common.{inl, inr, arith}
use Rattle.std.proofs.lemmas.Bool.{both_ways, eq-eqb, ne_eqb, cases_lt}
use Rattle.std.proofs.lemmas.List.{take_all, get_or_append_left, get_or-append_right, get_or_past}
use Rattle.clause_solver.proofs.Kept.{replicate_at}
use Rattle.cqe_base.specs.Literal.{Literal, variable_of, opposite, same_literal}
use Rattle.cqe_base.specs.Machine.{Assigned, assigned_literal, is_false}
use Rattle.cqe_base.specs.MachineStates.{is_assigned, IsDistinct}
use Rattle.cqe_base.specs.KeptTrail.{place_against}
use Rattle.cqe_base.proofs.ClauseTruth.{same_literal-true, variable_of-opposite}
use Rattle.cqe_base.proofs.Trails.{true_is_assigned}
use Rattle.clause_solver.specs.Assigning.{place_of}

-- where a literal is false its place is that of its variable
pub place_against-is : (n : ℕ) (t : List Assigned) (l : Literal) → IsDistinct n t
    → place_against t l ≡ cond (is_false t l) (place_of t (variable_of l)) 0
place_against-is n [] l d = refl
place_against-is n (a ∷ t) l d = step (place_against-is n t l d.2) (same_literal (opposite l) (assigned_literal a)) (is_false t l) refl refl
  where
    step : place_against t l ≡ cond (is_false t l) (place_of t (variable_of l)) 0 → (b f : Bool) → same_literal (opposite l) (assigned_literal a) ≡ b
        → is_false t l ≡ f → cond b (suc (length t)) (place_against t l)
        ≡ cond (b || is_false t l) (cond (eqb (variable_of l) (variable_of (assigned_literal a))) (suc (length t)) (place_of t (variable_of l))) 0
    step go true f e g =
        sym (ap (λ x. cond x (suc (length t)) (place_of t (variable_of l)))
        (eq-eqb _ _ (sym (variable_of-opposite l) ∙ ap variable_of (same_literal-true (opposite l) (assigned_literal a) e))))
    step go false true e g =
        let there : is_assigned t (variable_of l) ≡ true = ap (is_assigned t) (sym (variable_of-opposite l)) ∙ true_is_assigned t (opposite l) g in
        let apart : eqb (variable_of l) (variable_of (assigned_literal a)) ≡ false =
        ne_eqb _ _ (λ s. both_ways _ d.1 (ap (is_assigned t) (sym s) ∙ there)) in
        go ∙ sym (ap (λ x. cond (is_false t l) (cond x (suc (length t)) (place_of t (variable_of l))) 0) apart)
    step go false false e g =
        go ∙ ap (λ x. cond x (place_of t (variable_of l)) 0) g
        ∙ sym (ap (λ x. cond x (cond (eqb (variable_of l) (variable_of (assigned_literal a))) (suc (length t)) (place_of t (variable_of l))) 0) g)

-- a list with the same element behind it reads the same where that stands for what isn't there
pub grown_same : {X : Type 0} (old new : List X) (n m : ℕ) (d : X) → length old ≤ n → new ≡ take n old ++ replicate m d → (i : ℕ)
    → get_or new i d ≡ get_or old i d
grown_same old new n m d room is i =
    ap (λ xs. get_or xs i d) (is ∙ ap (λ xs. xs ++ replicate m d) (take_all n old room))
    ∙ elim (cases_lt i (length old)) [
      | inl low ↦ get_or_append_left old (replicate m d) d i low
      | inr high ↦ get_or-append_right old (replicate m d) (length old) i d refl high ∙ replicate_at m (i - length old) d ∙ sym (get_or_past old i d high)
    ]

pub grown_longer : {X : Type 0} (old new : List X) (n m : ℕ) (d : X) → length old ≤ n → new ≡ take n old ++ replicate m d → length old ≤ length new
grown_longer old new n m d room is =
    let e : length new ≡ length old + length (replicate m d) =
    ap length (is ∙ ap (λ xs. xs ++ replicate m d) (take_all n old room)) ∙ length-append old (replicate m d) in
    omega arith
