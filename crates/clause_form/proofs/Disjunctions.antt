-- The clauses of a disjunction, from the opposites of its literals.
use Rattle.std.proofs.Common.{◌≡◌, ℕ, List, [], ◌∷◌, ◌++◌, map, refl, ap, ◌∙◌, append_assoc}
use Rattle.cqe_base.specs.Literal.{Literal, Positive, Negative, opposite, distinct_literals}
use Rattle.cqe_base.specs.ClauseForm.{or_clauses}

edges_of_opposites : (first : Literal) (ls : List Literal)
    → map (λ l. distinct_literals (first ∷ l ∷ [])) (map opposite ls) ≡ map (λ l. distinct_literals (first ∷ opposite l ∷ [])) ls
edges_of_opposites first [] = refl
edges_of_opposites first (l ∷ ls) = ap (λ cs. distinct_literals (first ∷ opposite l ∷ []) ∷ cs) (edges_of_opposites first ls)

pub or_pushed : (old mid new : List (List Literal)) (v : ℕ) (yea nay : Literal) (ls opposed : List Literal) → yea ≡ Positive v → nay ≡ Negative v
    → opposed ≡ map opposite ls
    → mid ≡ old ++ map (λ l. distinct_literals (yea ∷ l ∷ [])) opposed → new ≡ mid ++ distinct_literals (nay ∷ ls) ∷ [] → new ≡ old ++ or_clauses v ls
or_pushed old mid new v yea nay ls opposed positive negative turned edges all =
    all
    ∙ (λ i. edges i ++ distinct_literals (negative i ∷ ls) ∷ [])
    ∙ (λ i. (old ++ map (λ l. distinct_literals (positive i ∷ l ∷ [])) (turned i)) ++ distinct_literals (Negative v ∷ ls) ∷ [])
    ∙ ap (λ cs. (old ++ cs) ++ distinct_literals (Negative v ∷ ls) ∷ []) (edges_of_opposites (Positive v) ls)
    ∙ append_assoc old (map (λ l. distinct_literals (Positive v ∷ opposite l ∷ [])) ls) (distinct_literals (Negative v ∷ ls) ∷ [])
