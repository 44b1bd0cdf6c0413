-- Lists that agree as far as both go.
use Rattle.std.proofs.Common.{◌≡◌, ℕ, Bool, true, false, List, [], ◌∷◌, ◌++◌, ◌==◌, ◌&&◌, refl, ap, ◌∙◌}
use Rattle.std.proofs.lemmas.Bool.{eq-eqb}
use Rattle.standby_core.specs.Frames.{agree}

-- a list agrees with whatever goes on from it
pub agree-with : (xs more : List ℕ) → agree (xs ++ more) xs ≡ true
agree-with [] [] = refl
agree-with [] (y ∷ more) = refl
agree-with (x ∷ xs) more = ap (λ b. b && agree (xs ++ more) xs) (eq-eqb x x refl) ∙ agree-with xs more

-- lists that differ still do as one goes on
pub agree-longer : (xs ys more : List ℕ) → agree xs ys ≡ false → agree (xs ++ more) ys ≡ false
agree-longer [] ys more other = absurd cc
agree-longer (x ∷ xs) [] more other = absurd cc
agree-longer (x ∷ xs) (y ∷ ys) more other = by_test (x == y) (agree-longer xs ys more) other
  where
    by_test : (same : Bool) → (agree xs ys ≡ false → agree (xs ++ more) ys ≡ false) → (same && agree xs ys) ≡ false
        → (same && agree (xs ++ more) ys) ≡ false
    by_test true later is = later is
    by_test false later is = refl
