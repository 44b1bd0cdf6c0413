-- Lists of which all have something, or one, and texts that differ.
use Rattle.std.proofs.Common.{◌≡◌, ℕ, zero, suc, ◌<◌, Bool, true, false, ◌||◌, List, [], ◌∷◌, ◌++◌, length, get_or, None, Some, refl, sym, ap, subst, ◌∙◌}
use Rattle.std.proofs.Common.{arith}
use Rattle.std.specs.Prelude.{find, cond, slice_get, bytes_eq}
use Rattle.std.specs.Cmp.Lexicographic.{same_text}
use Rattle.std.specs.List.{AllByRecursion}
use Rattle.cqe_base.specs.Schema.{Text}

-- with one more that has it, all have it
pub all_push : {X : Type 0} (P : X → Type 0) (xs : List X) (x : X) → AllByRecursion P xs → P x → AllByRecursion P (xs ++ x ∷ [])
all_push P [] x all one = (one, tt)
all_push P (y ∷ xs) x all one = (all.0, all_push P xs x all.1 one)

-- what all have, the one at a place has
pub all_at : {X : Type 0} (P : X → Type 0) (xs : List X) (place : ℕ) (d : X) → place < length xs → AllByRecursion P xs → P (get_or xs place d)
all_at P [] place d low all = absurd (omega (arith, low))
all_at P (x ∷ xs) zero d low all = all.0
all_at P (x ∷ xs) (suc place) d low all = all_at P xs place d (omega (arith, low)) all.1

-- and the one that is found
pub one_found : {X : Type 0} (P : X → Type 0) (test : X → Bool) (xs : List X) (x : X) → AllByRecursion P xs → find test xs ≡ Some x → P x × (test x ≡ true)
one_found P test [] x all is = let clash : None ≡ Some x = is in absurd cc
one_found P test (y ∷ ys) x all is = by (test y) refl (one_found P test ys x all.1) is
  where
    by : (b : Bool) → test y ≡ b → (find test ys ≡ Some x → P x × (test x ≡ true)) → cond b (Some y) (find test ys) ≡ Some x → P x × (test x ≡ true)
    by true passes further is = let same : y ≡ x = cc in (subst P same all.0, sym (ap test same) ∙ passes)
    by false passes further is = further is

-- there is one at each place
pub some_at : {X : Type 0} (xs : List X) (i : ℕ) → i < length xs → (x : X) × (slice_get xs i ≡ Some x)
some_at [] i lt = absurd (omega arith)
some_at (x ∷ xs) zero lt = (x, refl)
some_at (x ∷ xs) (suc i) lt = some_at xs i (omega arith)

pub or_assoc : (a b c : Bool) → ((a || b) || c) ≡ (a || (b || c))
or_assoc true b c = refl
or_assoc false b c = refl

-- a text is equal to itself
pub text_is : (a : Text) → bytes_eq a a ≡ true
text_is [] = refl
text_is (x ∷ a) = let rest = text_is a in grind (arith, rest)

-- two texts are compared alike from both sides
pub other_text : (a b : Text) → bytes_eq a b ≡ false → bytes_eq b a ≡ false
other_text a b differ = by (bytes_eq b a) refl
  where
    by : (t : Bool) → bytes_eq b a ≡ t → t ≡ false
    by false e = refl
    by true e = sym e ∙ (λ i. bytes_eq (same_text b a (sym e) i) (sym (same_text b a (sym e)) i)) ∙ differ
