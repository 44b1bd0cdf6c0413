-- One more line of a refutation, and its last one.
use Rattle.std.proofs.Common.{◌≡◌, ℕ, zero, suc, ◌+◌, ◌-◌, eqb, subst, List, [], ◌∷◌, length, map, Some, ap, arith}
use Rattle.std.specs.Prelude.{slice_get}
use Rattle.std.proofs.lemmas.Bool.{eq-eqb, ne_eqb}
use Rattle.clause_store.specs.declared.refutation.Line.{Line}
use Rattle.clause_store.specs.PlainLines.{line_of}
use Rattle.cqe_base.specs.Literal.{Literal}
use Rattle.cqe_base.specs.Refutation.{is_empty_clause, ends_empty}

-- lines end with the empty clause where the last one has it
pub ends_empty-last : (xs : List Line) (n : ℕ) (x : Line) → n + 1 ≡ length xs → slice_get xs n ≡ Some x
    → ends_empty (map line_of xs) ≡ is_empty_clause x.clause.items
ends_empty-last [] n x h e = cc
ends_empty-last (y ∷ []) zero x h e = let same : y ≡ x = cc in ap (λ (z : Line). is_empty_clause z.clause.items) same
ends_empty-last (y ∷ []) (suc n) x h e = absurd (omega arith)
ends_empty-last (y ∷ z ∷ xs) zero x h e = absurd (omega arith)
ends_empty-last (y ∷ z ∷ xs) (suc n) x h e = ends_empty-last (z ∷ xs) n x (omega arith) e

-- the same at the last place
pub ends_empty-at_last : (xs : List Line) (x : Line) → slice_get xs (length xs - 1) ≡ Some x → ends_empty (map line_of xs) ≡ is_empty_clause x.clause.items
ends_empty-at_last [] x e = absurd (let y : ⊥ = cc in y)
ends_empty-at_last (y ∷ xs) x e =
    let place : length (y ∷ xs) - 1 ≡ length xs = omega arith in
    ends_empty-last (y ∷ xs) (length xs) x (omega arith) (subst (λ n. slice_get (y ∷ xs) n ≡ Some x) place e)

-- a clause is empty where its length is 0
pub is_empty_clause-length : (c : List Literal) (n : ℕ) → n ≡ length c → eqb n 0 ≡ is_empty_clause c
is_empty_clause-length [] n e = eq-eqb n 0 e
is_empty_clause-length (l ∷ c) n e = ne_eqb n 0 (λ z. omega arith)
