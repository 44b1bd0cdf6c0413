-- The test whether two facts are the same.
use Rattle.std.proofs.Common.{◌≡◌, true, false, eqb, refl, subst}
use Rattle.std.proofs.lemmas.Bool.{and_parts, and_from, both_ways, false_from_ne_true, eqb-true, eq-eqb}
use Rattle.std.proofs.lemmas.Slice.Eq.{bytes_eq-Decides}
use Rattle.cqe_base.specs.declared.world.Fact.{Fact}
use Rattle.cqe_base.specs.ClauseForm.{same_fact}

pub same_fact-true : (f g : Fact) → same_fact f g ≡ true → f ≡ g
same_fact-true f g h =
    let parts = and_parts (eqb f.relation g.relation) _ h in
    let relation : f.relation ≡ g.relation = eqb-true _ _ parts.0 in
    let columns : f.columns ≡ g.columns = (bytes_eq-Decides f.columns g.columns).0 parts.1 in
    λ i. record { relation = relation i; columns = columns i }

pub same_fact-same : (f : Fact) → same_fact f f ≡ true
same_fact-same f = and_from _ _ (eq-eqb f.relation f.relation refl) ((bytes_eq-Decides f.columns f.columns).1 refl)

-- facts that are apart are apart either way
pub same_fact-apart : (f g : Fact) → same_fact f g ≡ false → same_fact g f ≡ false
same_fact-apart f g h =
    false_from_ne_true _ (λ e. both_ways _ h (subst (λ x. same_fact x g ≡ true) (same_fact-true g f e) (same_fact-same g)))
