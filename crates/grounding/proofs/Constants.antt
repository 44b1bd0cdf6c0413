-- The constants of a domain, one after the other.
use Rattle.std.proofs.Common.{◌≡◌, ℕ, ◌+◌, List, [], ◌∷◌, ◌++◌, map, sym, ap, ◌∙◌, arith}
use Rattle.std.proofs.lemmas.List.{map-append}
use Rattle.std.proofs.lemmas.List.FromFn.{map-range_with_len_more}
use Rattle.cqe_base.specs.declared.sentence.Constant.{Constant}
use Rattle.cqe_base.specs.Truth.{constant_at, first_constants}

-- what one more element gives is what one more constant does
pub one_more : {X Y : Type 0} (f : X → Y) (instance : Constant → Y) (d i : ℕ) (xs ys : List X) (x : X)
    → map f xs ≡ map instance (first_constants d i) → f x ≡ instance (constant_at d i) → ys ≡ xs ++ x ∷ [] → map f ys ≡ map instance (first_constants d (i + 1))
one_more f instance d i xs ys x before here longer =
    ap (map f) longer ∙ map-append f xs (x ∷ []) ∙ (λ k. before k ++ here k ∷ [])
    ∙ sym (ap (map instance) (map-range_with_len_more (constant_at d) 0 i i (omega arith)) ∙ map-append instance (first_constants d i) (constant_at d i ∷ []))
