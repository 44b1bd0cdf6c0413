use Rattle.std.proofs.Common.{◌≡◌, ◌⊎◌, inl, inr, List, ℕ, [], ◌∷◌, ◌++◌, ◌∙◌, ap, append_assoc}
use Rattle.outside.specs.Shelf.{Looks}
use Rattle.cqe_top.proofs.files.read_files.Goals as goal

-- behind the policy the facts were looked at, or not
looked_on : (policy facts : List ℕ) (old middle new : List (List ℕ)) → middle ≡ old ++ policy ∷ [] → Looks facts middle new
    → Looks policy old new ⊎ (new ≡ old ++ policy ∷ facts ∷ [])
looked_on policy facts old middle new first (inl same) = inl (inr (same ∙ first))
looked_on policy facts old middle new first (inr more) = inr (more ∙ ap (λ l. l ++ facts ∷ []) first ∙ append_assoc old (policy ∷ []) (facts ∷ []))

pub returns-in_err-facts_bytes-clause-looks : goal.returns-in_err-facts_bytes-clause-looks
returns-in_err-facts_bytes-clause-looks g c told = looked_on _ _ _ _ _ (c.in_ok-policy_bytes.ensures.looked told) (c.in_err-facts_bytes.ensures.looks told)
