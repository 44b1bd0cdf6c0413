-- What steps that are Ok have given.
use Rattle.std.proofs.Common.{◌≡◌, ℕ, ◌≤◌, Bool, true, false, ◌&&◌, Ok, Err, refl, arith}
use Rattle.std.specs.Prelude.{if◌then◌else◌, nat_le}
use Rattle.std.proofs.lemmas.Bool.Decides.{nat_tests}
use Rattle.policy_files.specs.declared.error.KeyPlace.{KeyPlace}
use Rattle.policy_files.specs.declared.error.PolicyError.{PolicyError}
use Rattle.policy_files.specs.Keys.{Step, ◌>>=◌, within}

-- the first step is Ok, and so is what follows it
pub first_ok : {A B Q : Type 0} (s : Step A) (f : A → Step B) (y : B) → (s >>= f) ≡ Ok y → ((x : A) → s ≡ Ok x → f x ≡ Ok y → Q) → Q
first_ok (Ok x) f y e q = q x refl e
first_ok (Err why) f y e q = absurd (cc)

-- a test that doesn't refuse
pub unless_ok : {A : Type 0} (b : Bool) (why : PolicyError) (s : Step A) (y : A) → (if b then Err why else s) ≡ Ok y → (b ≡ false) × (s ≡ Ok y)
unless_ok true why s y e = absurd (cc)
unless_ok false why s y e = (refl, e)

pub when_ok : {A : Type 0} (b : Bool) (why : PolicyError) (s : Step A) (y : A) → (if b then s else Err why) ≡ Ok y → (b ≡ true) × (s ≡ Ok y)
when_ok true why s y e = (refl, e)
when_ok false why s y e = absurd (cc)

-- a step that is Ok
abbrev pub ok_step : {A : Type 0} → A → Step A
ok_step x = Ok x

pub same_ok : {A : Type 0} (x y : A) → ok_step x ≡ Ok y → x ≡ y
same_ok x y e = cc

-- a number that is within
pub within_ok : (least greatest : ℕ) (place : KeyPlace) (n m : ℕ) → within least greatest place n ≡ Ok m → (least ≤ n) × (n ≤ greatest) × (n ≡ m)
within_ok least greatest place n m e =
    let h = when_ok (nat_le least n && nat_le n greatest) _ (Ok n) m e in
    let both : (nat_le least n && nat_le n greatest) ≡ true = h.0 in
    (grind (arith, nat_tests), grind (arith, nat_tests), same_ok n m h.1)
