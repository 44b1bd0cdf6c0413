-- Who is admitted, as a test.
use Rattle.std.proofs.Common.{◌≡◌, ◌↔◌, Bool, true, false, refl}
use Rattle.censors.specs.declared.admittance.Admission.{Admission}
use Rattle.censors.specs.declared.admittance.Admission.TheVariants.{Open}

-- where the admission is Open exactly where a test passes, and it isn't Open, the test fails
pub not_admitted : (found : Admission) (b : Bool) → ((found ≡ Open) ↔ (b ≡ true)) → (found ≡ Open → ⊥) → false ≡ b
not_admitted found true exactly isnt = absurd (isnt (exactly.1 refl))
not_admitted found false exactly isnt = refl
